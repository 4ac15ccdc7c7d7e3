-- Chains of elements in slots, seen as lists.
use Rattle.std.proofs.Common.{◌≡◌, ℕ, zero, suc, ◌+◌, ◌-◌, ◌<◌, ◌≤◌, Bool, true, false, not, cond, List, [], ◌∷◌, ◌++◌, length, length-append, append_assoc, map, take, drop, get_or, set, filter, replicate, Option, Some, None, refl, sym, ap, ap₂, ◌∙◌, subst, arith}
use Rattle.std.specs.Prelude.{is_some, slice_get, ◌==◌, ◌^◌}
use Rattle.std.specs.List.{AllByRecursion, cons_option, insert, remove}
use Rattle.std.proofs.lemmas.Bool.Decides.{nat_tests}
use Rattle.std.proofs.lemmas.List.{append-nil, drop_all, drop_at, drop_more, get_or-set_same, get_or-take, get_or_append_left, get_or_at, get_or_read, length-map, length-set, length-take-le, map-set, set_at, take-append-drop, take-append-le, take-take, take_all}
use Rattle.std.proofs.lemmas.List.Edits.{length-insert, length-remove}
use Rattle.std.proofs.lemmas.List.Elements.{filter_map-append, filter-append}
use Rattle.lv_schema.proofs.Apart.{all_append, all_filter, all_weaker, apart_filter}
use Rattle.lv_shelf.specs.Chains.{AgreesOn, AreChainShelved, HasSome, all_newest, before, chain_at, joined, kept_in, later_or, newest_of, newest_that, shortened, with_chain}
use Rattle.lv_shelf.specs.Cuts.{Apart, Falls, IsCut}
use Rattle.lv_shelf.specs.Shelves.{AreShelved, Differ, HaveRoom, IsEmpty, IsHeld, IsOrder, IsShelf, LacksItem, Roomed, falling, is_taken, items_at, lists_of, passes, passes_in, slot_of}
use Rattle.lv_shelf.proofs.Among.{all_remove, removed_differ}
use Rattle.lv_shelf.proofs.Cutting.{all_kept, got, got_within}
use Rattle.lv_shelf.proofs.Orders.{IsOther, all_set, filter_items, length_others, no_list, nth_map, order_at, orders_inserted, orders_removed, others_grown, read_other, roomier, shelved_grown}
use Rattle.lv_shelf.proofs.Runs.{items_behind}
use Rattle.lv_shelf.proofs.Shelved.{all_differ, differ_back, edited_items, edited_shelf, get_items, length_grown, inserted_shelf, items_other, length_items, removed_shelf, some_of}

-- ---- lists behind lists
insert_behind : {X : Type 0} (c ys zs : List X) (x : X) → insert (c ++ ys) (length (c ++ zs)) x ≡ c ++ insert ys (length zs) x
insert_behind [] ys zs x = refl
insert_behind (y ∷ c) ys zs x = ap (λ l. y ∷ l) (insert_behind c ys zs x)

remove_behind : {X : Type 0} (c ys zs : List X) → remove (c ++ ys) (length (c ++ zs)) ≡ c ++ remove ys (length zs)
remove_behind [] ys zs = refl
remove_behind (y ∷ c) ys zs = ap (λ l. y ∷ l) (remove_behind c ys zs)

got_behind : {X : Type 0} (c ys : List X) (k : ℕ) → slice_get (c ++ ys) (length c + k) ≡ slice_get ys k
got_behind [] ys k = let e : 0 + k ≡ k = omega arith in ap (slice_get ys) e
got_behind (y ∷ c) ys k = let e : suc (length c) + k ≡ suc (length c + k) = omega arith in ap (slice_get (y ∷ (c ++ ys))) e ∙ got_behind c ys k

got_front : {X : Type 0} (c ys : List X) (k : ℕ) → k < length c → slice_get (c ++ ys) k ≡ slice_get c k
got_front [] ys k lt = absurd (omega arith)
got_front (y ∷ c) ys zero lt = refl
got_front (y ∷ c) ys (suc k) lt = got_front c ys k (omega arith)

pub all_split : {X : Type 0} (P : X → Type 0) (xs ys : List X) → AllByRecursion P (xs ++ ys) → AllByRecursion P xs × AllByRecursion P ys
all_split P [] ys a = (tt, a)
all_split P (x ∷ xs) ys a = let rest = all_split P xs ys a.1 in ((a.0, rest.0), rest.1)

pub all_got : {X : Type 0} (P : X → Type 0) (xs : List X) (k : ℕ) (x : X) → AllByRecursion P xs → slice_get xs k ≡ Some x → P x
all_got P [] k x a e = cc
all_got P (y ∷ xs) zero x a e = let same : y ≡ x = cc in subst P same a.0
all_got P (y ∷ xs) (suc k) x a e = all_got P xs k x a.1 e

-- P holds of each pair of a list, and of each of it and one of another
record IsApart {X : Type 0} (R : X → X → Type 0) (xs ys : List X) : Type 0 where
  pub first : Apart R xs
  pub second : Apart R ys
  pub across : AllByRecursion (λ x. AllByRecursion (R x) ys) xs

apart_split : {X : Type 0} (R : X → X → Type 0) (xs ys : List X) → Apart R (xs ++ ys) → IsApart R xs ys
apart_split R [] ys a = record { first = tt; second = a; across = tt }
apart_split R (x ∷ xs) ys a =
    let rest = apart_split R xs ys a.1 in
    let ends = all_split (R x) xs ys a.0 in
    record { first = (ends.0, rest.first); second = rest.second; across = (ends.1, rest.across) }

-- ---- maps
pub map_insert : {X Y : Type 0} (f : X → Y) (xs : List X) (i : ℕ) (x : X) → map f (insert xs i x) ≡ insert (map f xs) i (f x)
map_insert f xs zero x = refl
map_insert f [] (suc i) x = refl
map_insert f (y ∷ xs) (suc i) x = ap (λ l. f y ∷ l) (map_insert f xs i x)

map_remove : {X Y : Type 0} (f : X → Y) (xs : List X) (i : ℕ) → map f (remove xs i) ≡ remove (map f xs) i
map_remove f [] zero = refl
map_remove f [] (suc i) = refl
map_remove f (y ∷ xs) zero = refl
map_remove f (y ∷ xs) (suc i) = ap (λ l. f y ∷ l) (map_remove f xs i)

-- ---- the elements of chains, one chain after the other
pub before_within : {X : Type 0} (cs : List (List X)) (i : ℕ) → before cs i ≤ length (joined cs)
before_within cs zero = omega arith
before_within [] (suc i) = omega arith
before_within (c ∷ cs) (suc i) = omega (arith, length-append c (joined cs), length-append c (joined (take i cs)), before_within cs i)

pub joined_insert : {X : Type 0} (cs : List (List X)) (i : ℕ) (x : X) → joined (insert cs i (x ∷ [])) ≡ insert (joined cs) (before cs i) x
joined_insert cs zero x = refl
joined_insert [] (suc i) x = refl
joined_insert (c ∷ cs) (suc i) x = ap (λ l. c ++ l) (joined_insert cs i x) ∙ sym (insert_behind c (joined cs) (joined (take i cs)) x)

pub joined_push : {X : Type 0} (cs : List (List X)) (i : ℕ) (x : X) → i < length cs → joined (set cs i (chain_at cs i ++ x ∷ [])) ≡ insert (joined cs) (before cs (suc i)) x
joined_push [] i x lt = absurd (omega arith)
joined_push (c ∷ cs) zero x lt = append_assoc c (x ∷ []) (joined cs) ∙ sym (insert_behind c (joined cs) [] x)
joined_push (c ∷ cs) (suc i) x lt = ap (λ l. c ++ l) (joined_push cs i x (omega arith)) ∙ sym (insert_behind c (joined cs) (joined (take (suc i) cs)) x)

one_left : {X : Type 0} (c ys : List X) → length c ≡ 1 → ys ≡ remove (c ++ ys) 0
one_left [] ys e = absurd (omega arith)
one_left (x ∷ []) ys e = refl
one_left (x ∷ y ∷ c) ys e = absurd (omega arith)

joined_remove : {X : Type 0} (cs : List (List X)) (i : ℕ) → i < length cs → length (chain_at cs i) ≡ 1 → joined (remove cs i) ≡ remove (joined cs) (before cs i)
joined_remove [] i lt e = absurd (omega arith)
joined_remove (c ∷ cs) zero lt e = one_left c (joined cs) e
joined_remove (c ∷ cs) (suc i) lt e = ap (λ l. c ++ l) (joined_remove cs i (omega arith) e) ∙ sym (remove_behind c (joined cs) (joined (take i cs)))

rest_left : {X : Type 0} (c ys : List X) → 0 < length c → drop 1 c ++ ys ≡ remove (c ++ ys) 0
rest_left [] ys h = absurd (omega arith)
rest_left (x ∷ c) ys h = refl

joined_dropped : {X : Type 0} (cs : List (List X)) (i : ℕ) → i < length cs → 0 < length (chain_at cs i) → joined (set cs i (drop 1 (chain_at cs i))) ≡ remove (joined cs) (before cs i)
joined_dropped [] i lt h = absurd (omega arith)
joined_dropped (c ∷ cs) zero lt h = rest_left c (joined cs) h
joined_dropped (c ∷ cs) (suc i) lt h = ap (λ l. c ++ l) (joined_dropped cs i (omega arith) h) ∙ sym (remove_behind c (joined cs) (joined (take i cs)))

is_one : (n : ℕ) → (n == 1) ≡ true → n ≡ 1
is_one n e = grind (arith, nat_tests)

not_one : (n : ℕ) → (n == 1) ≡ false → 0 < n → 1 < n
not_one n e h = grind (arith, nat_tests)

pub joined_shortened : {X : Type 0} (cs : List (List X)) (i : ℕ) → i < length cs → 0 < length (chain_at cs i) → joined (shortened cs i) ≡ remove (joined cs) (before cs i)
joined_shortened {X} cs i lt h = by (length (chain_at cs i) == 1) refl
  where
    by : (b : Bool) → (length (chain_at cs i) == 1) ≡ b → joined (cond b (remove cs i) (set cs i (drop 1 (chain_at cs i)))) ≡ remove (joined cs) (before cs i)
    by true e = joined_remove cs i lt (is_one (length (chain_at cs i)) e)
    by false e = joined_dropped cs i lt h

-- ---- what holds of all elements of chains
pub each_chain : {X : Type 0} (P : X → Type 0) (cs : List (List X)) → AllByRecursion P (joined cs) → AllByRecursion (λ c. AllByRecursion P c) cs
each_chain P [] a = tt
each_chain P (c ∷ cs) a = let s = all_split P c (joined cs) a in (s.0, each_chain P cs s.1)

pub chain_all : {X : Type 0} (P : X → Type 0) (cs : List (List X)) (i : ℕ) → AllByRecursion P (joined cs) → AllByRecursion P (chain_at cs i)
chain_all P [] i a = tt
chain_all P (c ∷ cs) zero a = (all_split P c (joined cs) a).0
chain_all P (c ∷ cs) (suc i) a = chain_all P cs i (all_split P c (joined cs) a).1

all_before : {X : Type 0} (P : X → Type 0) (cs : List (List X)) (i : ℕ) → AllByRecursion P (joined cs) → AllByRecursion P (joined (take i cs))
all_before P cs zero a = tt
all_before P [] (suc i) a = tt
all_before P (c ∷ cs) (suc i) a = let s = all_split P c (joined cs) a in all_append P c (joined (take i cs)) s.0 (all_before P cs i s.1)

pub chain_some : {X : Type 0} (cs : List (List X)) (i : ℕ) → AllByRecursion HasSome cs → i < length cs → 0 < length (chain_at cs i)
chain_some [] i a lt = absurd (omega arith)
chain_some (c ∷ cs) zero a lt = a.0
chain_some (c ∷ cs) (suc i) a lt = chain_some cs i a.1 (omega arith)

pub chain_long : {X : Type 0} (cs : List (List X)) (i : ℕ) → length (chain_at cs i) ≤ length (joined cs)
chain_long [] i = omega arith
chain_long (c ∷ cs) zero = omega (arith, length-append c (joined cs))
chain_long (c ∷ cs) (suc i) = omega (arith, length-append c (joined cs), chain_long cs i)

pub chains_long : {X : Type 0} (cs : List (List X)) → AllByRecursion HasSome cs → length cs ≤ length (joined cs)
chains_long [] a = omega arith
chains_long (c ∷ cs) a = let h = a.0 in omega (arith, length-append c (joined cs), chains_long cs a.1)

-- ---- where the newest and the oldest element of a chain stand
pub before_some : {X : Type 0} (cs : List (List X)) (i : ℕ) → i < length cs → 0 < length (chain_at cs i) → 0 < before cs (suc i)
before_some [] i lt h = absurd (omega arith)
before_some (c ∷ cs) zero lt h = omega (arith, length-append c (joined (take 0 cs)))
before_some (c ∷ cs) (suc i) lt h = omega (arith, length-append c (joined (take (suc i) cs)), before_some cs i (omega arith) h)

pub newest_place : {X : Type 0} (cs : List (List X)) (i : ℕ) → i < length cs → 0 < length (chain_at cs i) → slice_get (joined cs) (before cs (suc i) - 1) ≡ newest_of (chain_at cs i)
newest_place [] i lt h = absurd (omega arith)
newest_place (c ∷ cs) zero lt h = ap (λ l. slice_get (c ++ joined cs) (length l - 1)) (append-nil c) ∙ got_front c (joined cs) (length c - 1) (omega (arith, h))
newest_place (c ∷ cs) (suc i) lt h =
    let e : before (c ∷ cs) (suc (suc i)) - 1 ≡ length c + (before cs (suc i) - 1) = omega (arith, length-append c (joined (take (suc i) cs)), before_some cs i (omega arith) h) in
    ap (slice_get (c ++ joined cs)) e ∙ got_behind c (joined cs) (before cs (suc i) - 1) ∙ newest_place cs i (omega arith) h

pub oldest_place : {X : Type 0} (cs : List (List X)) (i : ℕ) → i < length cs → 0 < length (chain_at cs i) → slice_get (joined cs) (before cs i) ≡ slice_get (chain_at cs i) 0
oldest_place [] i lt h = absurd (omega arith)
oldest_place (c ∷ cs) zero lt h = got_front c (joined cs) 0 h
oldest_place (c ∷ cs) (suc i) lt h =
    ap (slice_get (c ++ joined cs)) (length-append c (joined (take i cs))) ∙ got_behind c (joined cs) (before cs i) ∙ oldest_place cs i (omega arith) h

-- ---- the elements in slots
pub joined_items : {T : Type 0} (slots : List (Option T)) (cs : List (List ℕ)) → joined (map (items_at slots) cs) ≡ items_at slots (joined cs)
joined_items slots [] = refl
joined_items slots (c ∷ cs) = ap (λ l. items_at slots c ++ l) (joined_items slots cs) ∙ sym (filter_map-append (slot_of slots) c (joined cs))

take_map : {X Y : Type 0} (f : X → Y) (n : ℕ) (xs : List X) → take n (map f xs) ≡ map f (take n xs)
take_map f zero xs = refl
take_map f (suc n) [] = refl
take_map f (suc n) (x ∷ xs) = ap (λ l. f x ∷ l) (take_map f n xs)

pub before_items : {T : Type 0} (slots : List (Option T)) (cs : List (List ℕ)) (i : ℕ) → AllByRecursion (IsHeld slots) (joined cs) → before (map (items_at slots) cs) i ≡ before cs i
before_items slots cs i h =
    ap (λ l. length (joined l)) (take_map (items_at slots) i cs) ∙ ap length (joined_items slots (take i cs)) ∙ length_items slots (joined (take i cs)) (all_before (IsHeld slots) cs i h)

pub joined_long : {T : Type 0} (slots : List (Option T)) (cs : List (List ℕ)) → AllByRecursion (IsHeld slots) (joined cs) → length (joined (map (items_at slots) cs)) ≡ length (joined cs)
joined_long slots cs h = ap length (joined_items slots cs) ∙ length_items slots (joined cs) h

pub chain_items : {T : Type 0} (slots : List (Option T)) (cs : List (List ℕ)) (i : ℕ) → chain_at (map (items_at slots) cs) i ≡ items_at slots (chain_at cs i)
chain_items slots cs i = nth_map (items_at slots) cs i [] [] refl

pub item_got : {T : Type 0} (slots : List (Option T)) (c : List ℕ) (k p : ℕ) → AllByRecursion (IsHeld slots) c → slice_get c k ≡ Some p → slice_get (items_at slots c) k ≡ slot_of slots p
item_got slots c k p h e = get_items slots c k h (got_within c k p e) ∙ ap (slot_of slots) (got c k p 0 e)

pub newest_items : {T : Type 0} (slots : List (Option T)) (c : List ℕ) (p : ℕ) → AllByRecursion (IsHeld slots) c → newest_of c ≡ Some p → newest_of (items_at slots c) ≡ slot_of slots p
newest_items slots c p h e = ap (λ n. slice_get (items_at slots c) (n - 1)) (length_items slots c h) ∙ item_got slots c (length c - 1) p h e

pub some_items : {T : Type 0} (slots : List (Option T)) (cs : List (List ℕ)) → AllByRecursion (IsHeld slots) (joined cs) → AllByRecursion HasSome cs → AllByRecursion HasSome (map (items_at slots) cs)
some_items slots [] h a = tt
some_items slots (c ∷ cs) h a =
    let s = all_split (IsHeld slots) c (joined cs) h in
    let some = a.0 in
    (omega (arith, length_items slots c s.0), some_items slots cs s.1 a.1)

-- a slot that is none of those in chains changes
pub chains_other : {T : Type 0} (slots : List (Option T)) (cs : List (List ℕ)) (p : ℕ) (o : Option T) → AllByRecursion (λ q. Differ q p) (joined cs) → map (items_at (set slots p o)) cs ≡ map (items_at slots) cs
chains_other slots [] p o d = refl
chains_other slots (c ∷ cs) p o d = let s = all_split (λ q. Differ q p) c (joined cs) d in ap₂ (λ l ls. l ∷ ls) (items_other slots c p o s.0) (chains_other slots cs p o s.1)

-- ---- chains with one element more
pub one_item : {T : Type 0} (slots : List (Option T)) (p : ℕ) (x : T) → p < length slots → items_at (set slots p (Some x)) (p ∷ []) ≡ x ∷ []
one_item slots p x lt = ap (λ s. cons_option s []) (get_or-set_same slots p (Some x) None lt)

pub inserted_chains : {T : Type 0} (slots : List (Option T)) (cs : List (List ℕ)) (i p : ℕ) (x : T) → AllByRecursion (IsHeld slots) (joined cs) → IsEmpty slots p
    → map (items_at (set slots p (Some x))) (insert cs i (p ∷ [])) ≡ insert (map (items_at slots) cs) i (x ∷ [])
inserted_chains slots cs i p x h e =
    map_insert (items_at (set slots p (Some x))) cs i (p ∷ [])
    ∙ ap₂ (λ ls l. insert ls i l) (chains_other slots cs p (Some x) (all_differ slots (joined cs) p e.1 h)) (one_item slots p x e.0)

pub pushed_chains : {T : Type 0} (slots : List (Option T)) (cs : List (List ℕ)) (i p : ℕ) (x : T) → AllByRecursion (IsHeld slots) (joined cs) → IsEmpty slots p
    → map (items_at (set slots p (Some x))) (set cs i (chain_at cs i ++ p ∷ [])) ≡ set (map (items_at slots) cs) i (chain_at (map (items_at slots) cs) i ++ x ∷ [])
pushed_chains slots cs i p x h e =
    let differ = all_differ slots (joined cs) p e.1 h in
    let after = set slots p (Some x) in
    let c = chain_at cs i in
    map-set (items_at after) cs i (c ++ p ∷ [])
    ∙ ap₂ (λ ls l. set ls i l) (chains_other slots cs p (Some x) differ)
    (filter_map-append (slot_of after) c (p ∷ []) ∙ ap₂ (λ l k. l ++ k) (items_other slots c p (Some x) (chain_all (λ q. Differ q p) cs i differ) ∙ sym (chain_items slots cs i)) (one_item slots p x e.0))

-- ---- chains with one element less
pub shortened_items : {T : Type 0} (slots : List (Option T)) (cs : List (List ℕ)) (i : ℕ) → AllByRecursion (IsHeld slots) (joined cs) → map (items_at slots) (shortened cs i) ≡ shortened (map (items_at slots) cs) i
shortened_items {T} slots cs i h = by (length c == 1) ∙ ap (λ n. cond (n == 1) (remove (map (items_at slots) cs) i) (set (map (items_at slots) cs) i (drop 1 (chain_at (map (items_at slots) cs) i)))) (sym long)
  where
    c : List ℕ
    c = chain_at cs i

    held : AllByRecursion (IsHeld slots) (chain_at cs i)
    held = chain_all (IsHeld slots) cs i h

    long : length (chain_at (map (items_at slots) cs) i) ≡ length (chain_at cs i)
    long = ap length (chain_items slots cs i) ∙ length_items slots (chain_at cs i) held

    by : (b : Bool) → map (items_at slots) (cond b (remove cs i) (set cs i (drop 1 (chain_at cs i)))) ≡ cond b (remove (map (items_at slots) cs) i) (set (map (items_at slots) cs) i (drop 1 (chain_at (map (items_at slots) cs) i)))
    by true = map_remove (items_at slots) cs i
    by false = map-set (items_at slots) cs i (drop 1 (chain_at cs i)) ∙ ap (set (map (items_at slots) cs) i) (items_behind slots 1 (chain_at cs i) held ∙ ap (drop 1) (sym (chain_items slots cs i)))

pub some_shortened : {X : Type 0} (cs : List (List X)) (i : ℕ) → i < length cs → AllByRecursion HasSome cs → AllByRecursion HasSome (shortened cs i)
some_shortened {X} cs i lt a = by (length (chain_at cs i) == 1) refl
  where
    rest : (c : List X) → 1 < length c → 0 < length (drop 1 c)
    rest [] h = absurd (omega arith)
    rest (x ∷ c) h = omega arith

    by : (b : Bool) → (length (chain_at cs i) == 1) ≡ b → AllByRecursion HasSome (cond b (remove cs i) (set cs i (drop 1 (chain_at cs i))))
    by true e = all_remove HasSome cs i a
    by false e = all_set HasSome cs i (drop 1 (chain_at cs i)) (rest (chain_at cs i) (not_one (length (chain_at cs i)) e (chain_some cs i a lt))) a

-- ---- a newest element that changes
pub edited_chains : {T : Type 0} (slots : List (Option T)) (cs : List (List ℕ)) (i p : ℕ) (y : T) → AllByRecursion (IsHeld slots) (joined cs) → Apart Differ (joined cs) → newest_of (chain_at cs i) ≡ Some p
    → map (items_at (set slots p (Some y))) cs ≡ set (map (items_at slots) cs) i (set (items_at slots (chain_at cs i)) (length (chain_at cs i) - 1) y)
edited_chains slots [] i p y h a e = refl
edited_chains slots (c ∷ cs) zero p y h a e =
    let s = all_split (IsHeld slots) c (joined cs) h in
    let d = apart_split Differ c (joined cs) a in
    let last = length c - 1 in
    let at = got c last p 0 e in
    ap₂ (λ l ls. l ∷ ls)
    (ap (λ q. items_at (set slots q (Some y)) c) (sym at) ∙ edited_items slots c last y s.0 d.first (got_within c last p e))
    (chains_other slots cs p (Some y) (differ_back p (joined cs) (all_got (λ x. AllByRecursion (Differ x) (joined cs)) c last p d.across e)))
edited_chains slots (c ∷ cs) (suc i) p y h a e =
    let s = all_split (IsHeld slots) c (joined cs) h in
    let d = apart_split Differ c (joined cs) a in
    ap₂ (λ l ls. l ∷ ls)
    (items_other slots c p (Some y)
    (all_weaker (λ x. AllByRecursion (Differ x) (joined cs)) (λ x. Differ x p) (λ x b. all_got (Differ x) (chain_at cs i) (length (chain_at cs i) - 1) p (chain_all (Differ x) cs i b) e) c d.across))
    (edited_chains slots cs i p y s.1 d.second e)

-- ---- the slots of a chain's newest and oldest elements, and a further order, as calls read them
pub record IsNewest {T : Type 0} (slots : List (Option T)) (cs : List (List ℕ)) (chains : List (List T)) (i p : ℕ) : Type 0 where
  pub within : i < length cs
  pub held : IsHeld slots p
  pub item : T
  pub there : slot_of slots p ≡ Some item
  pub seen : newest_of (chain_at chains i) ≡ Some item
  pub place : before cs (suc i) - 1 < length (joined cs)
  pub read : p ≡ get_or (joined cs) (before cs (suc i) - 1) 0

pub newest_is : {T : Type 0} (slots : List (Option T)) (cs : List (List ℕ)) (chains : List (List T)) (i p : ℕ) → AllByRecursion (IsHeld slots) (joined cs) → AllByRecursion HasSome cs → map (items_at slots) cs ≡ chains → i < length chains
    → newest_of (chain_at cs i) ≡ Some p → IsNewest slots cs chains i p
newest_is slots cs chains i p h some is lt e =
    let c = chain_at cs i in
    let within : i < length cs = omega (arith, lt, ap length is, length-map cs (items_at slots)) in
    let there = newest_place cs i within (chain_some cs i some within) ∙ e in
    let held = chain_all (IsHeld slots) cs i h in
    let taken : IsHeld slots p = all_got (IsHeld slots) c (length c - 1) p held e in
    let item = some_of (slot_of slots p) taken in
    record {
      within = within;
      held = taken;
      item = item.0;
      there = item.1;
      seen = ap (λ l. newest_of (chain_at l i)) (sym is) ∙ ap newest_of (chain_items slots cs i) ∙ newest_items slots c p held e ∙ item.1;
      place = got_within (joined cs) (before cs (suc i) - 1) p there;
      read = sym (got (joined cs) (before cs (suc i) - 1) p 0 there);
    }

pub record IsOldest {T : Type 0} (slots : List (Option T)) (cs : List (List ℕ)) (chains : List (List T)) (i p : ℕ) : Type 0 where
  pub within : i < length cs
  pub held : IsHeld slots p
  pub item : T
  pub there : slot_of slots p ≡ Some item
  pub seen : slice_get (chain_at chains i) 0 ≡ Some item
  pub place : before cs i < length (joined cs)
  pub read : p ≡ get_or (joined cs) (before cs i) 0

pub oldest_is : {T : Type 0} (slots : List (Option T)) (cs : List (List ℕ)) (chains : List (List T)) (i p : ℕ) → AllByRecursion (IsHeld slots) (joined cs) → AllByRecursion HasSome cs → map (items_at slots) cs ≡ chains → i < length chains
    → slice_get (chain_at cs i) 0 ≡ Some p → IsOldest slots cs chains i p
oldest_is slots cs chains i p h some is lt e =
    let c = chain_at cs i in
    let within : i < length cs = omega (arith, lt, ap length is, length-map cs (items_at slots)) in
    let there = oldest_place cs i within (chain_some cs i some within) ∙ e in
    let held = chain_all (IsHeld slots) cs i h in
    let taken : IsHeld slots p = all_got (IsHeld slots) c 0 p held e in
    let item = some_of (slot_of slots p) taken in
    record {
      within = within;
      held = taken;
      item = item.0;
      there = item.1;
      seen = ap (λ l. slice_get (chain_at l i) 0) (sym is) ∙ ap (λ l. slice_get l 0) (chain_items slots cs i) ∙ item_got slots c 0 p held e ∙ item.1;
      place = got_within (joined cs) (before cs i) p there;
      read = sym (got (joined cs) (before cs i) p 0 there);
    }

pub other_among : {T : Type 0} (slots : List (Option T)) (os : List Roomed) (others : List (List T)) (j : ℕ) (x : Roomed) → AllByRecursion (IsOrder slots) (lists_of os) → map (items_at slots) (lists_of os) ≡ others → j < length others → x ≡ get_or os j x
    → IsOther slots os others j x
other_among slots os others j x lists is lt e =
    let within : j < length os = omega (arith, lt, length_others slots os others is) in
    let read : x ≡ get_or os j no_list = get_or_read os j x within e no_list in
    let o = order_at slots os j x read within lists in
    let seen = read_other slots os others j x is read in
    record { within = within; read = read; order = o; seen = seen; long = sym (length_items slots x.list o.held) ∙ ap length seen }

-- ---- the newest elements of all chains
pub newest_all : {X : Type 0} (P : X → Type 0) (cs : List (List X)) → AllByRecursion P (joined cs) → AllByRecursion P (all_newest cs)
newest_all P [] a = tt
newest_all {X} P (c ∷ cs) a = let s = all_split P c (joined cs) a in by (newest_of c) refl s.0 (newest_all P cs s.1)
  where
    by : (o : Option X) → newest_of c ≡ o → AllByRecursion P c → AllByRecursion P (all_newest cs) → AllByRecursion P (cons_option o (all_newest cs))
    by None e h ih = ih
    by (Some x) e h ih = (all_got P c (length c - 1) x h e, ih)

newest_none : {T : Type 0} (slots : List (Option T)) (c : List ℕ) → 0 < length c → newest_of c ≡ None → ⊥
newest_none slots c h e = some c (length c - 1) (omega (arith, h)) e
  where
    some : (xs : List ℕ) (k : ℕ) → k < length xs → slice_get xs k ≡ None → ⊥
    some [] k lt f = absurd (omega arith)
    some (x ∷ xs) zero lt f = cc
    some (x ∷ xs) (suc k) lt f = some xs k (omega arith) f

pub all_newest_items : {T : Type 0} (slots : List (Option T)) (cs : List (List ℕ)) → AllByRecursion (IsHeld slots) (joined cs) → AllByRecursion HasSome cs → items_at slots (all_newest cs) ≡ all_newest (map (items_at slots) cs)
all_newest_items slots [] h some = refl
all_newest_items {T} slots (c ∷ cs) h some = let s = all_split (IsHeld slots) c (joined cs) h in by (newest_of c) refl s.0 (all_newest_items slots cs s.1 some.1)
  where
    by : (o : Option ℕ) → newest_of c ≡ o → AllByRecursion (IsHeld slots) c → items_at slots (all_newest cs) ≡ all_newest (map (items_at slots) cs)
        → items_at slots (cons_option o (all_newest cs)) ≡ cons_option (newest_of (items_at slots c)) (all_newest (map (items_at slots) cs))
    by None e held ih = absurd (newest_none slots c some.0 e)
    by (Some p) e held ih = ap₂ cons_option (sym (newest_items slots c p held e)) ih

-- ---- a test that says the same of all elements of each chain
-- a test that falls along two lists, and from the one to the other
record AreFalling {X : Type 0} (p : X → Bool) (xs ys : List X) : Type 0 where
  pub first : Falls p xs
  pub second : Falls p ys
  pub across : AllByRecursion (λ x. AllByRecursion (λ later. p later ≡ true → p x ≡ true) ys) xs

falls_split : {X : Type 0} (p : X → Bool) (xs ys : List X) → Falls p (xs ++ ys) → AreFalling p xs ys
falls_split p [] ys f = record { first = tt; second = f; across = tt }
falls_split p (x ∷ xs) ys f =
    let rest = falls_split p xs ys f.1 in
    let ends = all_split (λ later. p later ≡ true → p x ≡ true) xs ys f.0 in
    record { first = (ends.0, rest.first); second = rest.second; across = (ends.1, rest.across) }

pub falls_newest : {X : Type 0} (p : X → Bool) (cs : List (List X)) → Falls p (joined cs) → Falls p (all_newest cs)
falls_newest p [] f = tt
falls_newest {X} p (c ∷ cs) f = let s = falls_split p c (joined cs) f in by (newest_of c) refl s.across (falls_newest p cs s.second)
  where
    by : (o : Option X) → newest_of c ≡ o → AllByRecursion (λ x. AllByRecursion (λ later. p later ≡ true → p x ≡ true) (joined cs)) c → Falls p (all_newest cs) → Falls p (cons_option o (all_newest cs))
    by None e a ih = ih
    by (Some x) e a ih = (newest_all (λ later. p later ≡ true → p x ≡ true) cs (all_got (λ y. AllByRecursion (λ later. p later ≡ true → p y ≡ true) (joined cs)) c (length c - 1) x a e), ih)

agrees_all : {X : Type 0} (p : X → Bool) (c : List X) (k : ℕ) (x : X) → Apart (λ y z. p y ≡ p z) c → slice_get c k ≡ Some x → AllByRecursion (λ y. p y ≡ p x) c
agrees_all p [] k x a e = tt
agrees_all {X} p (y ∷ c) zero x a e =
    let same : y ≡ x = cc in
    subst (λ (w : X). AllByRecursion (λ z. p z ≡ p w) (y ∷ c)) same (refl, all_weaker (λ z. p y ≡ p z) (λ z. p z ≡ p y) (λ z h. sym h) c a.0)
agrees_all p (y ∷ c) (suc k) x a e = (all_got (λ z. p y ≡ p z) c k x a.0 e, agrees_all p c k x a.1 e)

cut_behind : {X : Type 0} (p : X → Bool) (c ys zs : List X) → AllByRecursion (λ x. p x ≡ true) c → IsCut p (length zs) ys → IsCut p (length (c ++ zs)) (c ++ ys)
cut_behind p [] ys zs a h = h
cut_behind p (x ∷ c) ys zs a h = (a.0, cut_behind p c ys zs a.1 h)

pub fails_all : {X : Type 0} (p : X → Bool) (cs : List (List X)) → AllByRecursion (AgreesOn p) cs → AllByRecursion HasSome cs → AllByRecursion (λ x. p x ≡ false) (all_newest cs) → AllByRecursion (λ x. p x ≡ false) (joined cs)
fails_all p [] a some f = tt
fails_all {X} p (c ∷ cs) a some f = by (newest_of c) refl f (λ f'. fails_all p cs a.1 some.1 f')
  where
    none : (xs : List X) → 0 < length xs → newest_of xs ≡ None → ⊥
    none xs h e = at xs (length xs - 1) (omega (arith, h)) e
      where
        at : (ys : List X) (k : ℕ) → k < length ys → slice_get ys k ≡ None → ⊥
        at [] k lt g = absurd (omega arith)
        at (y ∷ ys) zero lt g = cc
        at (y ∷ ys) (suc k) lt g = at ys k (omega arith) g

    by : (o : Option X) → newest_of c ≡ o → AllByRecursion (λ x. p x ≡ false) (cons_option o (all_newest cs)) → (AllByRecursion (λ x. p x ≡ false) (all_newest cs) → AllByRecursion (λ x. p x ≡ false) (joined cs)) → AllByRecursion (λ x. p x ≡ false) (c ++ joined cs)
    by None e f' g = absurd (none c some.0 e)
    by (Some x) e f' g = all_append (λ y. p y ≡ false) c (joined cs) (all_weaker (λ y. p y ≡ p x) (λ y. p y ≡ false) (λ y h. h ∙ f'.0) c (agrees_all p c (length c - 1) x a.0 e)) (g f'.1)

pub cut_joined : {X : Type 0} (p : X → Bool) (n : ℕ) (cs : List (List X)) → AllByRecursion (AgreesOn p) cs → AllByRecursion HasSome cs → IsCut p n (all_newest cs) → IsCut p (before cs n) (joined cs)
cut_joined p zero cs a some h = fails_all p cs a some h
cut_joined p (suc n) [] a some h = absurd h
cut_joined {X} p (suc n) (c ∷ cs) a some h = by (newest_of c) refl h (λ h'. cut_joined p n cs a.1 some.1 h')
  where
    none : (xs : List X) → 0 < length xs → newest_of xs ≡ None → ⊥
    none xs h' e = at xs (length xs - 1) (omega (arith, h')) e
      where
        at : (ys : List X) (k : ℕ) → k < length ys → slice_get ys k ≡ None → ⊥
        at [] k lt g = absurd (omega arith)
        at (y ∷ ys) zero lt g = cc
        at (y ∷ ys) (suc k) lt g = at ys k (omega arith) g

    by : (o : Option X) → newest_of c ≡ o → IsCut p (suc n) (cons_option o (all_newest cs)) → (IsCut p n (all_newest cs) → IsCut p (before cs n) (joined cs)) → IsCut p (length (c ++ joined (take n cs))) (c ++ joined cs)
    by None e h' g = absurd (none c some.0 e)
    by (Some x) e h' g = cut_behind p c (joined cs) (joined (take n cs)) (all_weaker (λ y. p y ≡ p x) (λ y. p y ≡ true) (λ y f. f ∙ h'.0) c (agrees_all p c (length c - 1) x a.0 e)) (g h'.1)

-- ---- the newest element that passes
pub that_all : (P : ℕ → Type 0) (q : ℕ → Bool) (c : List ℕ) (p : ℕ) → AllByRecursion P c → newest_that q c ≡ Some p → P p
that_all P q [] p a e = cc
that_all P q (r ∷ c) p a e = by (newest_that q c) refl (q r) e (λ f. that_all P q c p a.1 f)
  where
    by : (o : Option ℕ) → newest_that q c ≡ o → (b : Bool) → later_or o b r ≡ Some p → (newest_that q c ≡ Some p → P p) → P p
    by None f false e' g = cc
    by None f true e' g = let same : r ≡ p = cc in subst P same a.0
    by (Some s) f b e' g = g (f ∙ e')

that_step : {T : Type 0} (o : Option T) (x : T) (b : Bool) → is_some o ≡ true → later_or o b x ≡ o
that_step None x b h = cc
that_step (Some y) x b h = refl

record IsThat {T : Type 0} (test : T → Bool) (slots : List (Option T)) (c : List ℕ) : Type 0 where
  pub some : (p : ℕ) → newest_that (passes_in test slots) c ≡ Some p → newest_that test (items_at slots c) ≡ slot_of slots p
  pub none : newest_that (passes_in test slots) c ≡ None → newest_that test (items_at slots c) ≡ None

that_is : {T : Type 0} (test : T → Bool) (slots : List (Option T)) (c : List ℕ) → AllByRecursion (IsHeld slots) c → IsThat test slots c
that_is test slots [] h = record { some = λ p e. cc; none = λ e. refl }
that_is {T} test slots (r ∷ c) h = with_item (some_of (slot_of slots r) h.0) (that_is test slots c h.1)
  where
    with_item : ((x : T) × (slot_of slots r ≡ Some x)) → IsThat test slots c → IsThat test slots (r ∷ c)
    with_item w ih =
        let list : items_at slots (r ∷ c) ≡ w.0 ∷ items_at slots c = ap (λ o. cons_option o (items_at slots c)) w.1 in
        let pass : passes_in test slots r ≡ test w.0 = ap (passes test) w.1 in
        let there = w.1 in
        record {
          some = λ p e. ap (newest_that test) list ∙ by_some p (newest_that (passes_in test slots) c) refl (test w.0) (ap (λ b. later_or (newest_that (passes_in test slots) c) b r) (sym pass) ∙ e);
          none = λ e. ap (newest_that test) list ∙ by_none (newest_that (passes_in test slots) c) refl (test w.0) (ap (λ b. later_or (newest_that (passes_in test slots) c) b r) (sym pass) ∙ e);
        }
      where
        by_some : (p : ℕ) (o : Option ℕ) → newest_that (passes_in test slots) c ≡ o → (b : Bool) → later_or o b r ≡ Some p → later_or (newest_that test (items_at slots c)) b w.0 ≡ slot_of slots p
        by_some p None f false e = cc
        by_some p None f true e = let same : r ≡ p = cc in ap (λ o. later_or o true w.0) (ih.none f) ∙ sym w.1 ∙ ap (slot_of slots) same
        by_some p (Some s) f b e =
            let same : s ≡ p = cc in
            ap (λ o. later_or o b w.0) (ih.some s f) ∙ that_step (slot_of slots s) w.0 b (that_all (IsHeld slots) (passes_in test slots) c s h.1 f) ∙ ap (slot_of slots) same

        by_none : (o : Option ℕ) → newest_that (passes_in test slots) c ≡ o → (b : Bool) → later_or o b r ≡ None → later_or (newest_that test (items_at slots c)) b w.0 ≡ None
        by_none None f false e = ap (λ o. later_or o false w.0) (ih.none f)
        by_none None f true e = cc
        by_none (Some s) f b e = cc

pub that_some : {T : Type 0} (test : T → Bool) (slots : List (Option T)) (c : List ℕ) (p : ℕ) → AllByRecursion (IsHeld slots) c → newest_that (passes_in test slots) c ≡ Some p → newest_that test (items_at slots c) ≡ slot_of slots p
that_some test slots c p h e = let w = that_is test slots c h in w.some p e

pub that_none : {T : Type 0} (test : T → Bool) (slots : List (Option T)) (c : List ℕ) → AllByRecursion (IsHeld slots) c → newest_that (passes_in test slots) c ≡ None → newest_that test (items_at slots c) ≡ None
that_none test slots c h e = let w = that_is test slots c h in w.none e

-- ---- a shelf of chains that changes
pub more_shelved : {T : Type 0} (slots : List (Option T)) (cs cs' : List (List ℕ)) (free : List ℕ) (k p : ℕ) (x : T) (room ready b room' ready' b' n : ℕ) (os : List Roomed) → joined cs' ≡ insert (joined cs) k p → k ≤ length (joined cs) → AllByRecursion HasSome cs'
    → room ≤ room' → ready ≤ ready' → b ≤ b' → AreChainShelved slots cs (free ++ p ∷ []) room ready b n os → AreChainShelved (set slots p (Some x)) cs' free room' ready' b' (n + 1) os
more_shelved slots cs cs' free k p x room ready b room' ready' b' n os is le some more more' more'' s =
    let same = length-set slots p (Some x) in
    record {
      own = subst (λ l. IsShelf (set slots p (Some x)) l free room' b') (sym is) (inserted_shelf slots (joined cs) free k p x room b room' b' le more more'' s.own);
      lists = orders_inserted slots p x (lists_of os) s.lists;
      rooms = subst (λ m. HaveRoom m os) (sym same) s.rooms;
      links = omega (arith, s.links, same, more');
      some = some;
      counted = omega (arith, s.counted, ap length is, length-insert (joined cs) k p le);
      most = subst (λ m. m < 2 ^ 32) (sym same) s.most;
    }

pub less_shelved : {T : Type 0} (slots : List (Option T)) (cs cs' : List (List ℕ)) (free : List ℕ) (k p : ℕ) (x : T) (room ready b room' ready' b' n : ℕ) (os : List Roomed) → joined cs' ≡ remove (joined cs) k → p ≡ get_or (joined cs) k 0 → k < length (joined cs)
    → slot_of slots p ≡ Some x → AllByRecursion (LacksItem x) (map (items_at slots) (lists_of os)) → AllByRecursion HasSome cs' → room ≤ room' → ready ≤ ready' → b ≤ b' → AreChainShelved slots cs free room ready b n os
    → AreChainShelved (set slots p None) cs' (free ++ p ∷ []) room' ready' b' (n - 1) os
less_shelved slots cs cs' free k p x room ready b room' ready' b' n os is read lt there lacks some more more' more'' s =
    let same = length-set slots p None in
    record {
      own = subst (λ l. IsShelf (set slots p None) l (free ++ p ∷ []) room' b') (sym is) (removed_shelf slots (joined cs) free k p room b room' b' read lt more more'' s.own);
      lists = orders_removed slots p x (lists_of os) there lacks s.lists;
      rooms = subst (λ m. HaveRoom m os) (sym same) s.rooms;
      links = omega (arith, s.links, same, more');
      some = some;
      counted = omega (arith, s.counted, ap length is, length-remove (joined cs) k lt);
      most = subst (λ m. m < 2 ^ 32) (sym same) s.most;
    }

pub gone_chains : {T : Type 0} (slots : List (Option T)) (cs cs' : List (List ℕ)) (i p : ℕ) → AllByRecursion (IsHeld slots) (joined cs) → Apart Differ (joined cs) → i < length cs → 0 < length (chain_at cs i) → p ≡ get_or (joined cs) (before cs i) 0
    → before cs i < length (joined cs) → cs' ≡ shortened cs i → map (items_at (set slots p None)) cs' ≡ shortened (map (items_at slots) cs) i
gone_chains slots cs cs' i p h a within some read lt is =
    let k = before cs i in
    let differ = subst (λ r. AllByRecursion (λ q. Differ q r) (remove (joined cs) k)) (sym read) (removed_differ (joined cs) k lt a) in
    ap (map (items_at (set slots p None))) is
    ∙ chains_other slots (shortened cs i) p None (subst (AllByRecursion (λ q. Differ q p)) (sym (joined_shortened cs i within some)) differ)
    ∙ shortened_items slots cs i h

pub changed_shelved : {T : Type 0} (slots : List (Option T)) (cs : List (List ℕ)) (free : List ℕ) (p : ℕ) (y : T) (room ready b n : ℕ) (os : List Roomed) → is_taken slots p ≡ true → AreChainShelved slots cs free room ready b n os
    → AreChainShelved (set slots p (Some y)) cs free room ready b n os
changed_shelved slots cs free p y room ready b n os t s =
    let same = length-set slots p (Some y) in
    record {
      own = edited_shelf slots (joined cs) free p y room b t s.own;
      lists = orders_inserted slots p y (lists_of os) s.lists;
      rooms = subst (λ m. HaveRoom m os) (sym same) s.rooms;
      links = omega (arith, s.links, same);
      some = s.some;
      counted = s.counted;
      most = subst (λ m. m < 2 ^ 32) (sym same) s.most;
    }

pub changed_chains : {T : Type 0} (slots : List (Option T)) (cs : List (List ℕ)) (i p : ℕ) (y : T) → AllByRecursion (IsHeld slots) (joined cs) → Apart Differ (joined cs) → newest_of (chain_at cs i) ≡ Some p
    → map (items_at (set slots p (Some y))) cs ≡ set (map (items_at slots) cs) i (set (chain_at (map (items_at slots) cs) i) (length (chain_at (map (items_at slots) cs) i) - 1) y)
changed_chains slots cs i p y h a e =
    let m = map (items_at slots) cs in
    let c = chain_at cs i in
    let there = chain_items slots cs i in
    let long = ap length there ∙ length_items slots c (chain_all (IsHeld slots) cs i h) in
    edited_chains slots cs i p y h a e ∙ ap (λ l. set m i (set l (length c - 1) y)) (sym there) ∙ ap (λ n. set m i (set (chain_at m i) (n - 1) y)) (sym long)

-- the same with more room, with other further orders, and with slots more
as_shelved : {T : Type 0} (slots : List (Option T)) (cs : List (List ℕ)) (free : List ℕ) (room ready b n : ℕ) (os : List Roomed) → AreChainShelved slots cs free room ready b n os → AreShelved slots (joined cs) free room b os
as_shelved slots cs free room ready b n os s = record { own = s.own; lists = s.lists; rooms = s.rooms }

pub roomier_chains : {T : Type 0} (slots : List (Option T)) (cs : List (List ℕ)) (free : List ℕ) (room ready b room' ready' b' n : ℕ) (os os' : List Roomed) → room ≤ room' → ready ≤ ready' → b ≤ b' → lists_of os' ≡ lists_of os
    → ((m : ℕ) → HaveRoom m os → HaveRoom m os') → AreChainShelved slots cs free room ready b n os → AreChainShelved slots cs free room' ready' b' n os'
roomier_chains slots cs free room ready b room' ready' b' n os os' le le' le'' is more s =
    let r = roomier slots (joined cs) free room b room' b' os os' le le'' is more (as_shelved slots cs free room ready b n os s) in
    record { own = r.own; lists = r.lists; rooms = r.rooms; links = omega (arith, s.links, le'); some = s.some; counted = s.counted; most = s.most }

pub grown_chains : {T : Type 0} (slots : List (Option T)) (cs : List (List ℕ)) (free : List ℕ) (more room ready b room' ready' b' n : ℕ) (os os' : List Roomed) → length slots + more ≤ room' → length slots + more ≤ ready' → length slots + more ≤ b'
    → lists_of os' ≡ lists_of os → HaveRoom (length slots + more) os' → length slots + more < 2 ^ 32 → AreChainShelved slots cs free room ready b n os
    → AreChainShelved (slots ++ replicate more None) cs (free ++ falling (length slots) more) room' ready' b' n os'
grown_chains slots cs free more room ready b room' ready' b' n os os' la ll lb is roomy most s =
    let r = shelved_grown slots (joined cs) free more room b room' b' os os' la lb is roomy (as_shelved slots cs free room ready b n os s) in
    let long = length_grown slots more in
    record { own = r.own; lists = r.lists; rooms = r.rooms; links = omega (arith, ll, long); some = s.some; counted = s.counted; most = subst (λ m. m < 2 ^ 32) (sym long) most }

pub grown_view : {T : Type 0} (slots : List (Option T)) (n : ℕ) (cs : List (List ℕ)) → map (items_at (slots ++ replicate n None)) cs ≡ map (items_at slots) cs
grown_view slots n cs = others_grown slots n cs

-- ---- chains that lose elements from the oldest one on
remove_here : {X : Type 0} (xs ys : List X) (y : X) → remove (xs ++ y ∷ ys) (length xs) ≡ xs ++ ys
remove_here [] ys y = refl
remove_here (x ∷ xs) ys y = ap (λ l. x ∷ l) (remove_here xs ys y)

not_alone : (n : ℕ) → (suc (suc n) == 1) ≡ false
not_alone n = grind (arith, nat_tests)

shortened_at : {X : Type 0} (xs ys : List (List X)) (x : X) (c : List X) → shortened (xs ++ (x ∷ c) ∷ ys) (length xs) ≡ xs ++ with_chain c ys
shortened_at {X} xs ys x [] =
    let all = xs ++ (x ∷ []) ∷ ys in
    let n = length xs in
    ap (λ (l : List X). cond (length l == 1) (remove all n) (set all n (drop 1 l))) (get_or_at xs (x ∷ []) ys [] n refl) ∙ remove_here xs ys (x ∷ [])
shortened_at {X} xs ys x (y ∷ c) =
    let all = xs ++ (x ∷ y ∷ c) ∷ ys in
    let n = length xs in
    ap (λ (l : List X). cond (length l == 1) (remove all n) (set all n (drop 1 l))) (get_or_at xs (x ∷ y ∷ c) ys [] n refl)
    ∙ ap (λ b. cond b (remove all n) (set all n (y ∷ c))) (not_alone (length c))
    ∙ set_at xs (x ∷ y ∷ c) ys (y ∷ c) n refl

-- chains of which one has lost so many elements, and has one
pub record IsFirst {X : Type 0} (cs : List (List X)) (i k : ℕ) (now : List (List X)) : Type 0 where
  pub item : X
  pub rest : drop k (chain_at cs i) ≡ item ∷ drop (suc k) (chain_at cs i)
  pub within : i < length now
  pub oldest : slice_get (chain_at now i) 0 ≡ Some item
  pub next : shortened now i ≡ take i cs ++ with_chain (drop (suc k) (chain_at cs i)) (drop (i + 1) cs)

rest_of : {X : Type 0} (c : List X) (k : ℕ) → k < length c → (x : X) × (drop k c ≡ x ∷ drop (suc k) c)
rest_of [] k lt = absurd (omega arith)
rest_of (x ∷ c) zero lt = (x, refl)
rest_of (x ∷ c) (suc k) lt = rest_of c k (omega arith)

pub first_is : {X : Type 0} (cs : List (List X)) (i k : ℕ) (now : List (List X)) → i < length cs → k < length (chain_at cs i) → now ≡ take i cs ++ with_chain (drop k (chain_at cs i)) (drop (i + 1) cs) → IsFirst cs i k now
first_is {X} cs i k now lt lt' is = with_first (rest_of (chain_at cs i) k lt')
  where
    rest : List X
    rest = drop (suc k) (chain_at cs i)

    with_first : ((x : X) × (drop k (chain_at cs i) ≡ x ∷ drop (suc k) (chain_at cs i))) → IsFirst cs i k now
    with_first w =
        let before' = take i cs in
        let behind = drop (i + 1) cs in
        let long : length before' ≡ i = length-take-le i cs (omega (arith, lt)) in
        let more = drop (suc k) (chain_at cs i) in
        let there : now ≡ before' ++ (w.0 ∷ more) ∷ behind = is ∙ ap (λ l. before' ++ with_chain l behind) w.1 in
        record {
          item = w.0;
          rest = w.1;
          within = omega (arith, ap length there, length-append before' ((w.0 ∷ more) ∷ behind), long);
          oldest = ap (λ l. slice_get (chain_at l i) 0) there ∙ ap (λ (l : List X). slice_get l 0) (get_or_at before' (w.0 ∷ more) behind [] i long);
          next = ap (λ l. shortened l i) there ∙ ap (shortened (before' ++ (w.0 ∷ more) ∷ behind)) (sym long) ∙ shortened_at before' behind w.0 more;
        }

-- an element that fails goes, and none that passes
pub skip_first : {X : Type 0} (p : X → Bool) (x : X) (xs : List X) → p x ≡ false → filter p (x ∷ xs) ≡ filter p xs
skip_first p x xs e = ap (λ b. cond b (x ∷ filter p xs) (filter p xs)) e

pass_on : (a b : Bool) → (not b ≡ true → not a ≡ true) → a ≡ true → b ≡ true
pass_on a true h e = refl
pass_on a false h e = let f = h refl in let g = ap not e in cc

all_pass : {X : Type 0} (p : X → Bool) (xs : List X) → AllByRecursion (λ x. p x ≡ true) xs → filter p xs ≡ xs
all_pass p [] a = refl
all_pass p (x ∷ xs) a = ap (λ b. cond b (x ∷ filter p xs) (filter p xs)) a.0 ∙ ap (λ l. x ∷ l) (all_pass p xs a.1)

pub keep_from : {X : Type 0} (p : X → Bool) (x : X) (xs : List X) → Falls (λ y. not (p y)) (x ∷ xs) → p x ≡ true → filter p (x ∷ xs) ≡ x ∷ xs
keep_from p x xs f e = all_pass p (x ∷ xs) (e, all_weaker (λ y. not (p y) ≡ true → not (p x) ≡ true) (λ y. p y ≡ true) (λ y h. pass_on (p x) (p y) h e) xs f.0)

pub falls_behind : {X : Type 0} (p : X → Bool) (k : ℕ) (xs : List X) → Falls p xs → Falls p (drop k xs)
falls_behind p zero xs f = f
falls_behind p (suc k) [] f = tt
falls_behind p (suc k) (x ∷ xs) f = falls_behind p k xs f.1

with_more : {X : Type 0} (c : List X) (cs : List (List X)) → with_chain c [] ++ cs ≡ with_chain c cs
with_more [] cs = refl
with_more (x ∷ c) cs = refl

pub kept_end : {X : Type 0} (p : X → Bool) (c rest : List X) (before' behind now : List (List X)) → now ≡ before' ++ with_chain rest behind → rest ≡ filter p c → now ≡ (before' ++ kept_in p (c ∷ [])) ++ behind
kept_end p c rest before' behind now is same =
    is ∙ ap (λ l. before' ++ with_chain l behind) same ∙ ap (λ l. before' ++ l) (sym (with_more (filter p c) behind)) ∙ sym (append_assoc before' (with_chain (filter p c) []) behind)

pub lacks_failing : {X : Type 0} (p : X → Bool) (x : X) (ls : List (List X)) → p x ≡ false → AllByRecursion (λ l. AllByRecursion (λ y. p y ≡ true) l) ls → AllByRecursion (LacksItem x) ls
lacks_failing p x ls e a =
    all_weaker (λ l. AllByRecursion (λ y. p y ≡ true) l) (LacksItem x)
    (λ l h. all_weaker (λ y. p y ≡ true) (λ y. y ≡ x → ⊥) (λ y t same. let f = ap p same in cc) l h) ls a

-- ---- all chains that keep what passes
pub joined_kept : {X : Type 0} (p : X → Bool) (cs : List (List X)) → joined (kept_in p cs) ≡ filter p (joined cs)
joined_kept p [] = refl
joined_kept {X} p (c ∷ cs) = at (filter p c) ∙ ap (λ l. filter p c ++ l) (joined_kept p cs) ∙ sym (filter-append p c (joined cs))
  where
    at : (l : List X) → joined (with_chain l (kept_in p cs)) ≡ l ++ joined (kept_in p cs)
    at [] = refl
    at (x ∷ l) = refl

pub record AreKept {X : Type 0} (p : X → Bool) (cs : List (List X)) (i : ℕ) (now : List (List X)) : Type 0 where
  pub within : i < length now
  pub chain : chain_at now i ≡ chain_at cs i
  pub next : (take i now ++ kept_in p (chain_at now i ∷ [])) ++ drop (i + 1) now ≡ take i cs ++ kept_in p (drop i cs)

pub kept_step : {X : Type 0} (p : X → Bool) (cs : List (List X)) (i : ℕ) (now : List (List X)) → i < length cs → now ≡ take (i + 1) cs ++ kept_in p (drop (i + 1) cs) → AreKept p cs i now
kept_step {X} p cs i now lt is =
    let first = take (i + 1) cs in
    let rest = kept_in p (drop (i + 1) cs) in
    let none : List X = [] in
    let c = chain_at cs i in
    let long : length first ≡ i + 1 = length-take-le (i + 1) cs (omega (arith, lt)) in
    let chain : chain_at now i ≡ c = ap (λ l. chain_at l i) is ∙ get_or_append_left first rest none i (omega (arith, long)) ∙ get_or-take (i + 1) cs i none (omega arith) in
    let taken : take i now ≡ take i cs = ap (take i) is ∙ take-append-le i first rest (omega (arith, long)) ∙ take-take i (i + 1) cs (omega arith) in
    let dropped' : drop (i + 1) now ≡ rest = ap (drop (i + 1)) is ∙ drop_at first rest (i + 1) long in
    record {
      within = omega (arith, ap length is, length-append first rest, long);
      chain = chain;
      next = ap₂ (λ a b. (a ++ kept_in p (b ∷ [])) ++ drop (i + 1) now) taken chain
          ∙ ap (λ l. (take i cs ++ kept_in p (c ∷ [])) ++ l) dropped'
          ∙ append_assoc (take i cs) (with_chain (filter p c) []) rest
          ∙ ap (λ l. take i cs ++ l) (with_more (filter p c) rest ∙ ap (kept_in p) (sym (drop_more cs i none lt)));
    }

pub kept_start : {X : Type 0} (p : X → Bool) (cs : List (List X)) (n : ℕ) → n ≡ length cs → cs ≡ take n cs ++ kept_in p (drop n cs)
kept_start p cs n e = sym (ap₂ (λ l m. l ++ kept_in p m) (take_all n cs (omega (arith, e))) (drop_all n cs (omega (arith, e))) ∙ append-nil cs)

pub all_passing : {X : Type 0} (p : X → Bool) (ls : List (List X)) → AllByRecursion (λ l. AllByRecursion (λ y. p y ≡ true) l) (map (filter p) ls)
all_passing p [] = tt
all_passing p (l ∷ ls) = (all_kept p l, all_passing p ls)

with_some : {X : Type 0} (c : List X) (cs : List (List X)) → 0 < length c → with_chain c cs ≡ c ∷ cs
with_some [] cs h = absurd (omega arith)
with_some (x ∷ c) cs h = refl

pub whole_is : {X : Type 0} (cs : List (List X)) (i : ℕ) → i < length cs → 0 < length (chain_at cs i) → cs ≡ take i cs ++ with_chain (chain_at cs i) (drop (i + 1) cs)
whole_is {X} cs i lt some =
    let none : List X = [] in
    sym (ap (λ l. take i cs ++ l) (with_some (chain_at cs i) (drop (i + 1) cs) some ∙ sym (drop_more cs i none lt)) ∙ take-append-drop i cs)

pub same_some : {X : Type 0} (o : Option X) (x y : X) → o ≡ Some x → o ≡ Some y → x ≡ y
same_some o x y e f = cc

-- further orders that keep what passes
pub orders_passing : {T : Type 0} (slots : List (Option T)) (test : ℕ → Bool) (ls : List (List ℕ)) → AllByRecursion (IsOrder slots) ls → AllByRecursion (IsOrder slots) (map (filter test) ls)
orders_passing slots test [] a = tt
orders_passing slots test (l ∷ ls) a = (record { held = all_filter (IsHeld slots) test l a.0.held; apart = apart_filter Differ test l a.0.apart }, orders_passing slots test ls a.1)

pub others_passing : {T : Type 0} (test : T → Bool) (slots : List (Option T)) (ls : List (List ℕ)) → map (items_at slots) (map (filter (passes_in test slots)) ls) ≡ map (filter test) (map (items_at slots) ls)
others_passing test slots [] = refl
others_passing test slots (l ∷ ls) = ap₂ (λ y t. y ∷ t) (filter_items test slots l) (others_passing test slots ls)
