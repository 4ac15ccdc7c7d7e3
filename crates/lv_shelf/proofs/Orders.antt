-- Further orders of the elements in slots.
use Rattle.std.proofs.Common.{◌≡◌, ℕ, zero, suc, ◌+◌, ◌<◌, ◌≤◌, Bool, true, false, cond, List, [], ◌∷◌, ◌++◌, length, map, take, drop, get_or, set, filter, replicate, Option, Some, None, refl, sym, ap, ap₂, ◌∙◌, subst, arith}
use Rattle.std.specs.Prelude.{is_some, slice_get, ◌==◌}
use Rattle.std.specs.List.{AllByRecursion, cons_option, insert, remove}
use Rattle.std.proofs.lemmas.List.{append-nil, drop-drop, drop-set-lt, get_or-drop, get_or-set_same, get_or_read, length-map, map-set, take_more, take_more_set}
use Rattle.std.proofs.lemmas.List.Elements.{filter-append}
use Rattle.std.proofs.Math.Seq.{map-set_same}
use Rattle.lv_schema.proofs.Apart.{all_weaker, apart_filter}
use Rattle.lv_shelf.specs.Shelves.{AreShelved, ChangesOnly, Differ, HaveRoom, IsEmpty, IsHeld, IsOrder, LacksItem, Roomed, clear_of, cleared, falling, is_among, is_taken, items_at, lists_of, passes, passes_in, slot_of}
use Rattle.lv_shelf.proofs.Among.{all_remove, among_all, apart_remove, eq_of, most, ne_of}
use Rattle.lv_shelf.proofs.Cutting.{all_at, all_kept}
use Rattle.lv_shelf.proofs.Shelved.{all_differ, all_insert, apart_insert, clear_other, get_items, grown_items, grown_shelf, grown_slot, held_gone, held_set, in_range, items_other, length_grown, length_items, slot_other, some_of, taken_in}

-- ---- maps
pub map_same : {X Y : Type 0} (g h : X → Y) (xs : List X) → AllByRecursion (λ x. g x ≡ h x) xs → map g xs ≡ map h xs
map_same g h [] a = refl
map_same g h (x ∷ xs) a = ap₂ (λ y l. y ∷ l) a.0 (map_same g h xs a.1)

map_through : {X Y Z : Type 0} (g : X → Y) (h : X → Z) (f : Z → Y) (xs : List X) → AllByRecursion (λ x. g x ≡ f (h x)) xs → map g xs ≡ map f (map h xs)
map_through g h f [] a = refl
map_through g h f (x ∷ xs) a = ap₂ (λ y l. y ∷ l) a.0 (map_through g h f xs a.1)

map_both : {W X Y Z : Type 0} (g : W → Y) (k : X → W) (h : X → Z) (f : Z → Y) (xs : List X) → AllByRecursion (λ x. g (k x) ≡ f (h x)) xs → map g (map k xs) ≡ map f (map h xs)
map_both g k h f [] a = refl
map_both g k h f (x ∷ xs) a = ap₂ (λ y l. y ∷ l) a.0 (map_both g k h f xs a.1)

pub all_set : {X : Type 0} (P : X → Type 0) (xs : List X) (i : ℕ) (x : X) → P x → AllByRecursion P xs → AllByRecursion P (set xs i x)
all_set P [] i x h a = tt
all_set P (y ∷ xs) zero x h a = (h, a.1)
all_set P (y ∷ xs) (suc i) x h a = (a.0, all_set P xs i x h a.1)

all_of_map : {X Y : Type 0} (f : X → Y) (P : Y → Type 0) (xs : List X) → AllByRecursion (λ x. P (f x)) xs → AllByRecursion P (map f xs)
all_of_map f P [] a = tt
all_of_map f P (x ∷ xs) a = (a.0, all_of_map f P xs a.1)

-- what stands at a place of a list of lists, where the empty list stands past its end
pub nth_map : {X Y : Type 0} (g : X → Y) (xs : List X) (j : ℕ) (d : X) (e : Y) → g d ≡ e → get_or (map g xs) j e ≡ g (get_or xs j d)
nth_map g [] j d e h = sym h
nth_map g (x ∷ xs) zero d e h = refl
nth_map g (x ∷ xs) (suc j) d e h = nth_map g xs j d e h

-- ---- an element more, which is in none of them
pub orders_inserted : {T : Type 0} (slots : List (Option T)) (p : ℕ) (x : T) (ls : List (List ℕ)) → AllByRecursion (IsOrder slots) ls → AllByRecursion (IsOrder (set slots p (Some x))) ls
orders_inserted slots p x ls a = all_weaker (IsOrder slots) (IsOrder (set slots p (Some x))) (λ l o. record { held = held_set slots l p x o.held; apart = o.apart }) ls a

pub others_inserted : {T : Type 0} (slots : List (Option T)) (p : ℕ) (x : T) (ls : List (List ℕ)) → IsEmpty slots p → AllByRecursion (IsOrder slots) ls → map (items_at (set slots p (Some x))) ls ≡ map (items_at slots) ls
others_inserted slots p x ls e a =
    map_same (items_at (set slots p (Some x))) (items_at slots) ls
    (all_weaker (IsOrder slots) (λ l. items_at (set slots p (Some x)) l ≡ items_at slots l) (λ l o. items_other slots l p (Some x) (all_differ slots l p e.1 o.held)) ls a)

-- ---- so many slots more
pub orders_grown : {T : Type 0} (slots : List (Option T)) (n : ℕ) (ls : List (List ℕ)) → AllByRecursion (IsOrder slots) ls → AllByRecursion (IsOrder (slots ++ replicate n None)) ls
orders_grown slots n ls a =
    all_weaker (IsOrder slots) (IsOrder (slots ++ replicate n None))
    (λ l o. record { held = all_weaker (IsHeld slots) (IsHeld (slots ++ replicate n None)) (λ q t. ap is_some (grown_slot slots n q) ∙ t) l o.held; apart = o.apart }) ls a

pub others_grown : {T : Type 0} (slots : List (Option T)) (n : ℕ) (ls : List (List ℕ)) → map (items_at (slots ++ replicate n None)) ls ≡ map (items_at slots) ls
others_grown slots n [] = refl
others_grown slots n (l ∷ ls) = ap₂ (λ y t. y ∷ t) (grown_items slots n l) (others_grown slots n ls)

-- ---- an element that changes
-- a change leaves the element in a slot as it is, if it is another slot
abbrev Stays : {T : Type 0} → List (Option T) → (T → T) → ℕ → ℕ → Type 0
Stays {T} slots f p q = Differ q p → (y : T) → slot_of slots q ≡ Some y → f y ≡ y

fixed_in : {T : Type 0} (slots : List (Option T)) (f : T → T) (p : ℕ) (ps : List ℕ) → AllByRecursion (IsHeld slots) ps → AllByRecursion (λ y. f y ≡ y) (items_at slots ps) → AllByRecursion (Stays slots f p) ps
fixed_in slots f p [] h a = tt
fixed_in {T} slots f p (q ∷ ps) h a = by (slot_of slots q) refl h.0 a (λ a'. fixed_in slots f p ps h.1 a')
  where
    by : (o : Option T) → slot_of slots q ≡ o → is_some o ≡ true → AllByRecursion (λ (y : T). f y ≡ y) (cons_option o (items_at slots ps)) → (AllByRecursion (λ (y : T). f y ≡ y) (items_at slots ps) → AllByRecursion (Stays slots f p) ps)
        → AllByRecursion (Stays slots f p) (q ∷ ps)
    by None e t a' g = cc
    by (Some x) e t a' g = ((λ ne y e'. let same : x ≡ y = cc in subst (λ (z : T). f z ≡ z) same a'.0), g a'.1)

pub stays_in : {T : Type 0} (slots : List (Option T)) (f : T → T) (ps : List ℕ) (at : ℕ) → AllByRecursion (IsHeld slots) ps → ChangesOnly f at (items_at slots ps) → AllByRecursion (Stays slots f (get_or ps at 0)) ps
stays_in slots f [] at h a = tt
stays_in {T} slots f (q ∷ ps) zero h a = by (slot_of slots q) h.0 a
  where
    by : (o : Option T) → is_some o ≡ true → ChangesOnly f zero (cons_option o (items_at slots ps)) → AllByRecursion (Stays slots f q) (q ∷ ps)
    by None t a' = cc
    by (Some x) t a' = ((λ ne y e. absurd (ne refl)), fixed_in slots f q ps h.1 a')
stays_in {T} slots f (q ∷ ps) (suc at) h a = by (slot_of slots q) refl h.0 a (λ a'. stays_in slots f ps at h.1 a')
  where
    by : (o : Option T) → slot_of slots q ≡ o → is_some o ≡ true → ChangesOnly f (suc at) (cons_option o (items_at slots ps)) → (ChangesOnly f at (items_at slots ps) → AllByRecursion (Stays slots f (get_or ps at 0)) ps)
        → AllByRecursion (Stays slots f (get_or ps at 0)) (q ∷ ps)
    by None e t a' g = cc
    by (Some x) e t a' g = ((λ ne y e'. let same : x ≡ y = cc in subst (λ (z : T). f z ≡ z) same a'.0), g a'.1)

moved_items : {T : Type 0} (slots : List (Option T)) (f : T → T) (p : ℕ) (x : T) (ps : List ℕ) → slot_of slots p ≡ Some x → AllByRecursion (Stays slots f p) ps → AllByRecursion (IsHeld slots) ps
    → items_at (set slots p (Some (f x))) ps ≡ map f (items_at slots ps)
moved_items slots f p x [] e a h = refl
moved_items {T} slots f p x (q ∷ ps) e a h = with_item (some_of (slot_of slots q) h.0) (moved_items slots f p x ps e a.1 h.1)
  where
    after : List (Option T)
    after = set slots p (Some (f x))

    with_item : ((y : T) × (slot_of slots q ≡ Some y)) → items_at (set slots p (Some (f x))) ps ≡ map f (items_at slots ps) → items_at (set slots p (Some (f x))) (q ∷ ps) ≡ map f (items_at slots (q ∷ ps))
    with_item w ih =
        ap (λ o. cons_option o (items_at (set slots p (Some (f x))) ps)) (head (q == p) refl) ∙ ap (λ t. f w.0 ∷ t) ih ∙ sym (ap (λ o. map f (cons_option o (items_at slots ps))) w.1)
      where
        head : (b : Bool) → (q == p) ≡ b → slot_of (set slots p (Some (f x))) q ≡ Some (f w.0)
        head true t =
            let same = eq_of q p t in
            let there : slot_of slots p ≡ Some w.0 = subst (λ r. slot_of slots r ≡ Some w.0) same w.1 in
            let item : x ≡ w.0 = cc in
            let taken = taken_in slots p (ap is_some e) in
            subst (λ r. slot_of (set slots p (Some (f x))) r ≡ Some (f w.0)) (sym same) (get_or-set_same slots p (Some (f x)) None taken ∙ ap (λ (z : T). Some (f z)) item)
        head false t = slot_other slots q p (Some (f x)) (ne_of q p t) ∙ w.1 ∙ sym (ap Some (a.0 (ne_of q p t) w.0 w.1))

pub orders_edited : {T : Type 0} (slots : List (Option T)) (p : ℕ) (y : T) (ls : List (List ℕ)) → AllByRecursion (IsOrder slots) ls → AllByRecursion (IsOrder (set slots p (Some y))) ls
orders_edited slots p y ls a = orders_inserted slots p y ls a

pub others_edited : {T : Type 0} (slots : List (Option T)) (order : List ℕ) (f : T → T) (at : ℕ) (x : T) (ls : List (List ℕ)) → ((q : ℕ) → is_taken slots q ≡ true → is_among q order ≡ true) → AllByRecursion (IsHeld slots) order
    → ChangesOnly f at (items_at slots order) → slot_of slots (get_or order at 0) ≡ Some x → AllByRecursion (IsOrder slots) ls
    → map (items_at (set slots (get_or order at 0) (Some (f x)))) ls ≡ map (map f) (map (items_at slots) ls)
others_edited slots order f at x ls has held only e a =
    let p = get_or order at 0 in
    let stay = stays_in slots f order at held only in
    map_through (items_at (set slots p (Some (f x)))) (items_at slots) (map f) ls
    (all_weaker (IsOrder slots) (λ l. items_at (set slots p (Some (f x))) l ≡ map f (items_at slots l))
    (λ l o. moved_items slots f p x l e (all_weaker (IsHeld slots) (Stays slots f p) (λ q t. among_all (Stays slots f p) q order (has q t) stay) l o.held) o.held) ls a)

-- ---- elements that go
passes_taken : {T : Type 0} (test : T → Bool) (o : Option T) → passes test o ≡ true → is_some o ≡ true
passes_taken test None h = cc
passes_taken test (Some x) h = refl

kept_slot : {T : Type 0} (test : T → Bool) (slots : List (Option T)) (ps : List ℕ) (q : ℕ) → passes_in test slots q ≡ true → slot_of (cleared test slots ps) q ≡ slot_of slots q
kept_slot test slots [] q h = refl
kept_slot {T} test slots (p ∷ ps) q h =
    let same = here (q == p) refl in
    kept_slot test (clear_of (passes_in test slots p) slots p) ps q (ap (passes test) same ∙ h) ∙ same
  where
    here : (b : Bool) → (q == p) ≡ b → slot_of (clear_of (passes_in test slots p) slots p) q ≡ slot_of slots q
    here true e =
        let pass : passes_in test slots p ≡ true = subst (λ r. passes_in test slots r ≡ true) (eq_of q p e) h in
        ap (λ b. slot_of (clear_of b slots p) q) pass
    here false e = clear_other (passes_in test slots p) slots p q (ne_of q p e)

items_agree : {T : Type 0} (a b : List (Option T)) (ps : List ℕ) → AllByRecursion (λ q. slot_of a q ≡ slot_of b q) ps → items_at a ps ≡ items_at b ps
items_agree a b [] h = refl
items_agree a b (p ∷ ps) h = ap₂ (λ o l. cons_option o l) h.0 (items_agree a b ps h.1)

pub filter_items : {T : Type 0} (test : T → Bool) (slots : List (Option T)) (ps : List ℕ) → items_at slots (filter (passes_in test slots) ps) ≡ filter test (items_at slots ps)
filter_items test slots [] = refl
filter_items {T} test slots (q ∷ ps) = by (slot_of slots q) refl (filter_items test slots ps)
  where
    by : (o : Option T) → slot_of slots q ≡ o → items_at slots (filter (passes_in test slots) ps) ≡ filter test (items_at slots ps)
        → items_at slots (cond (passes test o) (q ∷ filter (passes_in test slots) ps) (filter (passes_in test slots) ps)) ≡ filter test (cons_option o (items_at slots ps))
    by None e ih = ih
    by (Some y) e ih = at (test y)
      where
        at : (b : Bool) → items_at slots (cond b (q ∷ filter (passes_in test slots) ps) (filter (passes_in test slots) ps)) ≡ cond b (y ∷ filter test (items_at slots ps)) (filter test (items_at slots ps))
        at true = ap (λ o. cons_option o (items_at slots (filter (passes_in test slots) ps))) e ∙ ap (λ l. y ∷ l) ih
        at false = ih

order_kept : {T : Type 0} (test : T → Bool) (slots : List (Option T)) (order l : List ℕ) → IsOrder slots l → IsOrder (cleared test slots order) (filter (passes_in test slots) l)
order_kept test slots order l o =
    let pass = passes_in test slots in
    record {
      held = all_weaker (λ q. pass q ≡ true) (IsHeld (cleared test slots order)) (λ q t. ap is_some (kept_slot test slots order q t) ∙ passes_taken test (slot_of slots q) t) (filter pass l) (all_kept pass l);
      apart = apart_filter Differ pass l o.apart;
    }

pub orders_kept : {T : Type 0} (test : T → Bool) (slots : List (Option T)) (order : List ℕ) (ls : List (List ℕ)) → AllByRecursion (IsOrder slots) ls → AllByRecursion (IsOrder (cleared test slots order)) (map (filter (passes_in test slots)) ls)
orders_kept test slots order ls a =
    all_of_map (filter (passes_in test slots)) (IsOrder (cleared test slots order)) ls
    (all_weaker (IsOrder slots) (λ l. IsOrder (cleared test slots order) (filter (passes_in test slots) l)) (λ l o. order_kept test slots order l o) ls a)

pub others_kept : {T : Type 0} (test : T → Bool) (slots : List (Option T)) (order : List ℕ) (ls : List (List ℕ)) → map (items_at (cleared test slots order)) (map (filter (passes_in test slots)) ls) ≡ map (filter test) (map (items_at slots) ls)
others_kept test slots order [] = refl
others_kept test slots order (l ∷ ls) =
    let pass = passes_in test slots in
    ap₂ (λ y t. y ∷ t)
    (items_agree (cleared test slots order) slots (filter pass l)
    (all_weaker (λ q. pass q ≡ true) (λ q. slot_of (cleared test slots order) q ≡ slot_of slots q) (λ q t. kept_slot test slots order q t) (filter pass l) (all_kept pass l))
    ∙ filter_items test slots l)
    (others_kept test slots order ls)

-- ---- an element that none of them has
pub lacks_slot : {T : Type 0} (slots : List (Option T)) (p : ℕ) (x : T) (ps : List ℕ) → slot_of slots p ≡ Some x → AllByRecursion (IsHeld slots) ps → LacksItem x (items_at slots ps) → AllByRecursion (λ q. Differ q p) ps
lacks_slot slots p x [] e h a = tt
lacks_slot {T} slots p x (q ∷ ps) e h a = by (slot_of slots q) refl h.0 a (λ a'. lacks_slot slots p x ps e h.1 a')
  where
    by : (o : Option T) → slot_of slots q ≡ o → is_some o ≡ true → LacksItem x (cons_option o (items_at slots ps)) → (LacksItem x (items_at slots ps) → AllByRecursion (λ r. Differ r p) ps) → AllByRecursion (λ r. Differ r p) (q ∷ ps)
    by None f t a' g = cc
    by (Some y) f t a' g = ((λ same. let there : slot_of slots p ≡ Some y = subst (λ r. slot_of slots r ≡ Some y) same f in let item : y ≡ x = cc in a'.0 item), g a'.1)

pub orders_removed : {T : Type 0} (slots : List (Option T)) (p : ℕ) (x : T) (ls : List (List ℕ)) → slot_of slots p ≡ Some x → AllByRecursion (LacksItem x) (map (items_at slots) ls) → AllByRecursion (IsOrder slots) ls
    → AllByRecursion (IsOrder (set slots p None)) ls
orders_removed slots p x [] e h a = tt
orders_removed slots p x (l ∷ ls) e h a =
    (record { held = held_gone slots l p (lacks_slot slots p x l e a.0.held h.0) a.0.held; apart = a.0.apart }, orders_removed slots p x ls e h.1 a.1)

pub others_removed : {T : Type 0} (slots : List (Option T)) (p : ℕ) (x : T) (ls : List (List ℕ)) → slot_of slots p ≡ Some x → AllByRecursion (LacksItem x) (map (items_at slots) ls) → AllByRecursion (IsOrder slots) ls
    → map (items_at (set slots p None)) ls ≡ map (items_at slots) ls
others_removed slots p x [] e h a = refl
others_removed slots p x (l ∷ ls) e h a = ap₂ (λ y t. y ∷ t) (items_other slots l p None (lacks_slot slots p x l e a.0.held h.0)) (others_removed slots p x ls e h.1 a.1)

-- ---- an element that comes into one of them
pub order_entered : {T : Type 0} (slots : List (Option T)) (l : List ℕ) (i p : ℕ) → is_taken slots p ≡ true → AllByRecursion (λ q. Differ q p) l → IsOrder slots l → IsOrder slots (insert l i p)
order_entered slots l i p t d o = record { held = all_insert (IsHeld slots) l i p t o.held; apart = apart_insert l i p d o.apart }

-- and there is room for it
pub fits : {T : Type 0} (slots : List (Option T)) (l : List ℕ) (p : ℕ) → is_taken slots p ≡ true → AllByRecursion (λ q. Differ q p) l → IsOrder slots l → length l < length slots
fits slots l p t d o =
    let le = most (length slots) (p ∷ l) ((taken_in slots p t), in_range slots l o.held) ((all_weaker (λ q. Differ q p) (Differ p) (λ q ne e. ne (sym e)) l d), o.apart) in
    omega (arith, le)

-- ---- lists with room
pub more_room : (m n : ℕ) (os : List Roomed) → m ≤ n → HaveRoom n os → HaveRoom m os
more_room m n os le a = all_weaker (λ (o : Roomed). n ≤ o.room) (λ (o : Roomed). m ≤ o.room) (λ o h. omega (arith, h)) os a

-- the lists of which the first so many were changed
abbrev pub done : {X : Type 0} → (X → X) → ℕ → List X → List X
done f zero xs = xs
done f (suc i) [] = []
done f (suc i) (x ∷ xs) = f x ∷ done f i xs

pub done_all : {X : Type 0} (f : X → X) (i : ℕ) (xs : List X) → i ≡ length xs → done f i xs ≡ map f xs
done_all f zero [] e = refl
done_all f zero (x ∷ xs) e = cc
done_all f (suc i) [] e = refl
done_all f (suc i) (x ∷ xs) e = ap (λ l. f x ∷ l) (done_all f i xs (omega (arith, e)))

pub done_more : {X : Type 0} (f : X → X) (i : ℕ) (xs : List X) (d : X) → i < length xs → set (done f i xs) i (f (get_or (done f i xs) i d)) ≡ done f (i + 1) xs
done_more f i [] d lt = absurd (omega arith)
done_more f zero (x ∷ xs) d lt = refl
done_more f (suc i) (x ∷ xs) d lt =
    let e : suc (i + 1) ≡ suc i + 1 = omega arith in
    ap (λ l. f x ∷ l) (done_more f i xs d (omega arith)) ∙ ap (λ n. done f n (x ∷ xs)) e

pub length_done : {X : Type 0} (f : X → X) (i : ℕ) (xs : List X) → length (done f i xs) ≡ length xs
length_done f zero xs = refl
length_done f (suc i) [] = refl
length_done f (suc i) (x ∷ xs) = ap suc (length_done f i xs)

long_enough : {X : Type 0} (f : X → X) (i : ℕ) (xs : List X) → i < length (done f i xs) → i < length xs
long_enough f i xs lt = omega (arith, lt, length_done f i xs)

-- ---- the lists of a shelf, and the orders that contracts see
abbrev pub no_list : Roomed
no_list = record { list = []; room = 0 }

pub read_other : {T : Type 0} (slots : List (Option T)) (os : List Roomed) (others : List (List T)) (j : ℕ) (x : Roomed) → map (items_at slots) (lists_of os) ≡ others → x ≡ get_or os j no_list → items_at slots x.list ≡ get_or others j []
read_other {T} slots os others j x is at =
    let none : List T = [] in
    ap (λ (o : Roomed). items_at slots o.list) at
    ∙ ap (items_at slots) (sym (nth_map (λ (o : Roomed). o.list) os j no_list [] refl))
    ∙ sym (nth_map (items_at slots) (lists_of os) j [] none refl)
    ∙ ap (λ l. get_or l j none) is

pub order_at : {T : Type 0} (slots : List (Option T)) (os : List Roomed) (j : ℕ) (x : Roomed) → x ≡ get_or os j no_list → j < length os → AllByRecursion (IsOrder slots) (lists_of os) → IsOrder slots x.list
order_at slots os j x at lt a =
    subst (IsOrder slots) (nth_map (λ (o : Roomed). o.list) os j no_list [] refl ∙ ap (λ (o : Roomed). o.list) (sym at)) (all_at (IsOrder slots) (lists_of os) j [] (omega (arith, lt, length-map os (λ (o : Roomed). o.list))) a)

pub length_others : {T : Type 0} (slots : List (Option T)) (os : List Roomed) (others : List (List T)) → map (items_at slots) (lists_of os) ≡ others → length os ≡ length others
length_others slots os others is = sym (length-map os (λ (o : Roomed). o.list)) ∙ sym (length-map (lists_of os) (items_at slots)) ∙ ap length is

pub lists_set : {T : Type 0} (slots : List (Option T)) (os : List Roomed) (j : ℕ) (y : Roomed) → IsOrder slots y.list → AllByRecursion (IsOrder slots) (lists_of os) → AllByRecursion (IsOrder slots) (lists_of (set os j y))
lists_set slots os j y o a = subst (AllByRecursion (IsOrder slots)) (sym (map-set (λ (o : Roomed). o.list) os j y)) (all_set (IsOrder slots) (lists_of os) j y.list o a)

pub value_set : {T : Type 0} (slots : List (Option T)) (os : List Roomed) (others : List (List T)) (j : ℕ) (y : Roomed) (l : List T) → map (items_at slots) (lists_of os) ≡ others → items_at slots y.list ≡ l
    → map (items_at slots) (lists_of (set os j y)) ≡ set others j l
value_set slots os others j y l is e =
    ap (map (items_at slots)) (map-set (λ (o : Roomed). o.list) os j y) ∙ map-set (items_at slots) (lists_of os) j y.list ∙ ap₂ (λ m k. set m j k) is e

pub room_at : (n : ℕ) (os : List Roomed) (j : ℕ) (x : Roomed) → x ≡ get_or os j no_list → j < length os → HaveRoom n os → n ≤ x.room
room_at n os j x at lt a = subst (λ (o : Roomed). n ≤ o.room) (sym at) (all_at (λ (o : Roomed). n ≤ o.room) os j no_list lt a)

-- a further order, as a call reads it
pub record IsOther {T : Type 0} (slots : List (Option T)) (os : List Roomed) (others : List (List T)) (j : ℕ) (x : Roomed) : Type 0 where
  pub within : j < length os
  pub read : x ≡ get_or os j no_list
  pub order : IsOrder slots x.list
  pub seen : items_at slots x.list ≡ get_or others j []
  pub long : length x.list ≡ length (get_or others j [])

pub other_is : {T : Type 0} (slots : List (Option T)) (order free : List ℕ) (a b : ℕ) (os : List Roomed) (others : List (List T)) (j : ℕ) (x : Roomed) → AreShelved slots order free a b os → map (items_at slots) (lists_of os) ≡ others → j < length others
    → x ≡ get_or os j x → IsOther slots os others j x
other_is slots order free a b os others j x s is lt e =
    let within : j < length os = omega (arith, lt, length_others slots os others is) in
    let read : x ≡ get_or os j no_list = get_or_read os j x within e no_list in
    let o = order_at slots os j x read within s.lists in
    let seen = read_other slots os others j x is read in
    record { within = within; read = read; order = o; seen = seen; long = sym (length_items slots x.list o.held) ∙ ap length seen }

-- the slot at a place of the first order, as a call reads it
pub record IsPlace {T : Type 0} (slots : List (Option T)) (order : List ℕ) (list : List T) (i p : ℕ) : Type 0 where
  pub within : i < length order
  pub read : p ≡ get_or order i 0
  pub held : IsHeld slots p
  pub item : T
  pub there : slot_of slots p ≡ Some item
  pub seen : slice_get list i ≡ Some item

pub place_is : {T : Type 0} (slots : List (Option T)) (order : List ℕ) (list : List T) (i p : ℕ) → AllByRecursion (IsHeld slots) order → items_at slots order ≡ list → i < length list → p ≡ get_or order i p → IsPlace slots order list i p
place_is slots order list i p h is lt e =
    let within : i < length order = omega (arith, lt, length_items slots order h, ap length is) in
    let read : p ≡ get_or order i 0 = get_or_read order i p within e 0 in
    let held : IsHeld slots p = subst (IsHeld slots) (sym read) (all_at (IsHeld slots) order i 0 within h) in
    let item = some_of (slot_of slots p) held in
    record { within = within; read = read; held = held; item = item.0; there = item.1; seen = ap (λ l. slice_get l i) (sym is) ∙ get_items slots order i h within ∙ ap (slot_of slots) (sym read) ∙ item.1 }

-- a loop over lists with room
pub lists_same : (os : List Roomed) (j : ℕ) (x y : Roomed) → x ≡ get_or os j no_list → y.list ≡ x.list → lists_of (set os j y) ≡ lists_of os
lists_same os j x y at e = map-set_same (λ (o : Roomed). o.list) os j y no_list (e ∙ ap (λ (o : Roomed). o.list) at)

pub room_set : (n : ℕ) (os : List Roomed) (j : ℕ) (x y : Roomed) → x ≡ get_or os j no_list → j < length os → x.room ≤ y.room → HaveRoom n os → HaveRoom n (set os j y)
room_set n os j x y at lt more a = let le = room_at n os j x at lt a in all_set (λ (o : Roomed). n ≤ o.room) os j y (omega (arith, le, more)) a

pub room_more : (n : ℕ) (os : List Roomed) (j : ℕ) (y : Roomed) → j < length os → n ≤ y.room → HaveRoom n (take j os) → HaveRoom n (take (j + 1) (set os j y))
room_more n [] j y lt h a = absurd (omega arith)
room_more n (o ∷ os) zero y lt h a = (h, tt)
room_more n (o ∷ os) (suc j) y lt h a =
    let e : suc (j + 1) ≡ suc j + 1 = omega arith in
    subst (λ k. HaveRoom n (take k (o ∷ set os j y))) e (a.0, room_more n os j y (omega arith) h a.1)

pub lists_kept : (f : List ℕ → List ℕ) (os : List Roomed) (ls : List (List ℕ)) (j : ℕ) (x y : Roomed) → lists_of os ≡ done f j ls → j < length os → x ≡ get_or os j no_list → y.list ≡ f x.list → lists_of (set os j y) ≡ done f (j + 1) ls
lists_kept f os ls j x y is lt at e =
    let here : x.list ≡ get_or (done f j ls) j [] = ap (λ (o : Roomed). o.list) at ∙ sym (nth_map (λ (o : Roomed). o.list) os j no_list [] refl) ∙ ap (λ l. get_or l j []) is in
    map-set (λ (o : Roomed). o.list) os j y
    ∙ ap₂ (λ l k. set l j k) is (e ∙ ap f here)
    ∙ done_more f j ls [] (long_enough f j ls (omega (arith, lt, length-map os (λ (o : Roomed). o.list), ap length is)))

pub all_roomy : (n : ℕ) (os : List Roomed) (k : ℕ) → length os ≤ k → HaveRoom n (take k os) → HaveRoom n os
all_roomy n [] k le a = tt
all_roomy n (o ∷ os) zero le a = absurd (omega arith)
all_roomy n (o ∷ os) (suc k) le a = (a.0, all_roomy n os k (omega arith) a.1)

-- ---- an element that leaves one of them
pub order_left : {T : Type 0} (slots : List (Option T)) (l : List ℕ) (i : ℕ) → IsOrder slots l → IsOrder slots (remove l i)
order_left slots l i o = record { held = all_remove (IsHeld slots) l i o.held; apart = apart_remove Differ l i o.apart }

-- ---- a shelf with more room, and with a slot more
pub roomier : {T : Type 0} (slots : List (Option T)) (order free : List ℕ) (a b a' b' : ℕ) (os os' : List Roomed) → a ≤ a' → b ≤ b' → lists_of os' ≡ lists_of os → ((n : ℕ) → HaveRoom n os → HaveRoom n os')
    → AreShelved slots order free a b os → AreShelved slots order free a' b' os'
roomier slots order free a b a' b' os os' le le' is more s = record {
  own = record {
    held = s.own.held;
    apart = s.own.apart;
    empty = s.own.empty;
    free_apart = s.own.free_apart;
    all = s.own.all;
    long = s.own.long;
    order_long = omega (arith, s.own.order_long, le);
    free_long = omega (arith, s.own.free_long, le');
  };
  lists = subst (AllByRecursion (IsOrder slots)) (sym is) s.lists;
  rooms = more (length slots) s.rooms;
}

pub shelved_grown : {T : Type 0} (slots : List (Option T)) (order free : List ℕ) (n a b a' b' : ℕ) (os os' : List Roomed) → length slots + n ≤ a' → length slots + n ≤ b' → lists_of os' ≡ lists_of os
    → HaveRoom (length slots + n) os' → AreShelved slots order free a b os → AreShelved (slots ++ replicate n None) order (free ++ falling (length slots) n) a' b' os'
shelved_grown slots order free n a b a' b' os os' la lb is more s = record {
  own = grown_shelf slots order free n a b a' b' la lb s.own;
  lists = orders_grown slots n (lists_of os') (subst (AllByRecursion (IsOrder slots)) (sym is) s.lists);
  rooms = subst (λ k. HaveRoom k os') (sym (length_grown slots n)) more;
}

-- ---- numbers that stay
-- each element passes the test that all pass
passes_any : {T : Type 0} (o : Option T) → passes (λ _. true) o ≡ is_some o
passes_any None = refl
passes_any (Some x) = refl

pub taken_pass : {T : Type 0} (slots : List (Option T)) (ps : List ℕ) → filter (passes_in (λ _. true) slots) ps ≡ filter (is_taken slots) ps
taken_pass slots [] = refl
taken_pass slots (p ∷ ps) = ap₂ (λ b l. cond b (p ∷ l) l) (passes_any (slot_of slots p)) (taken_pass slots ps)

-- one number of those that a loop goes over
same_at : (xs ys : List ℕ) (i : ℕ) → drop i ys ≡ drop i xs → get_or ys i 0 ≡ get_or xs i 0
same_at xs ys i rest = ap (λ k. get_or ys k 0) (sym (add_none i)) ∙ sym (get_or-drop i ys 0 0) ∙ ap (λ l. get_or l 0 0) rest ∙ get_or-drop i xs 0 0 ∙ ap (λ k. get_or xs k 0) (add_none i)
  where
    add_none : (n : ℕ) → n + 0 ≡ n
    add_none n = omega arith

one_test : (test : ℕ → Bool) (x : ℕ) (b : Bool) → test x ≡ b → filter test (x ∷ []) ≡ cond b (x ∷ []) []
one_test test x b e = ap (λ t. cond t (x ∷ []) []) e

pub one_more : (test : ℕ → Bool) (xs ys : List ℕ) (i x : ℕ) (b : Bool) → i < length xs → drop i ys ≡ drop i xs → x ≡ get_or ys i 0 → test x ≡ b → filter test (take (i + 1) xs) ≡ filter test (take i xs) ++ cond b (x ∷ []) []
one_more test xs ys i x b lt rest is e =
    ap (filter test) (take_more xs i 0 lt)
    ∙ filter-append test (take i xs) (get_or xs i 0 ∷ [])
    ∙ ap (λ y. filter test (take i xs) ++ filter test (y ∷ [])) (sym (same_at xs ys i rest) ∙ sym is)
    ∙ ap (λ l. filter test (take i xs) ++ l) (one_test test x b e)

pub rest_more : (xs ys : List ℕ) (i : ℕ) → drop i ys ≡ drop i xs → drop (i + 1) ys ≡ drop (i + 1) xs
rest_more xs ys i rest = sym (drop-drop 1 i ys) ∙ ap (drop 1) rest ∙ drop-drop 1 i xs

pub record IsKept (test : ℕ → Bool) (xs ys : List ℕ) (i kept : ℕ) : Type 0 where
  pub first : take kept ys ≡ filter test (take i xs)
  pub rest : drop i ys ≡ drop i xs

pub kept_step : (test : ℕ → Bool) (xs ys : List ℕ) (i kept x : ℕ) → i < length xs → length ys ≡ length xs → kept ≤ i → IsKept test xs ys i kept → x ≡ get_or ys i x → test x ≡ true → IsKept test xs (set ys kept x) (i + 1) (kept + 1)
kept_step test xs ys i kept x lt long le k is e =
    let read : x ≡ get_or ys i 0 = get_or_read ys i x (omega (arith, lt, long)) is 0 in
    record {
      first = take_more_set ys kept x (omega (arith, lt, long, le)) ∙ ap (λ l. l ++ x ∷ []) k.first ∙ sym (one_more test xs ys i x true lt k.rest read e);
      rest = drop-set-lt (i + 1) ys kept x (omega (arith, le)) ∙ rest_more xs ys i k.rest;
    }

pub skip_step : (test : ℕ → Bool) (xs ys : List ℕ) (i kept x : ℕ) → i < length xs → length ys ≡ length xs → IsKept test xs ys i kept → x ≡ get_or ys i x → test x ≡ false → IsKept test xs ys (i + 1) kept
skip_step test xs ys i kept x lt long k is e =
    let read : x ≡ get_or ys i 0 = get_or_read ys i x (omega (arith, lt, long)) is 0 in
    record {
      first = k.first ∙ sym (append-nil (filter test (take i xs))) ∙ sym (one_more test xs ys i x false lt k.rest read e);
      rest = rest_more xs ys i k.rest;
    }
