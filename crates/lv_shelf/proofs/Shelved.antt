-- Elements in slots, seen as a list.
use Rattle.std.proofs.Common.{◌≡◌, ℕ, zero, suc, ◌+◌, ◌<◌, ◌≤◌, Bool, true, false, cond, List, [], ◌∷◌, ◌++◌, length, length-append, append_assoc, get_or, set, filter, replicate, Option, Some, None, refl, sym, ap, ◌∙◌, subst, arith}
use Rattle.std.specs.Prelude.{slice_get, is_some, ◌==◌}
use Rattle.std.specs.List.{AllByRecursion, cons_option, insert, remove}
use Rattle.std.proofs.lemmas.List.{get_or-set_same, get_or-set_other, length-replicate, length-set, get_or_past}
use Rattle.std.proofs.lemmas.List.Edits.{length-insert, length-remove}
use Rattle.lv_schema.proofs.Apart.{all_weaker, all_append, all_both, apart_append, apart_filter}
use Rattle.lv_shelf.specs.Cuts.{Apart}
use Rattle.lv_shelf.specs.Shelves.{slot_of, items_at, is_taken, passes, passes_in, IsHeld, IsEmpty, Differ, clear_of, cleared, dropped, falling, is_among, IsShelf}
use Rattle.lv_shelf.proofs.Cutting.{all_at, all_kept}
use Rattle.lv_shelf.proofs.Among.{among_filter, among_insert, among_insert_here, among_remove, all_remove, apart_remove, eq_of, ne_of, removed_differ}

-- ---- reads
pub length_items : {T : Type 0} (slots : List (Option T)) (ps : List ℕ) → AllByRecursion (IsHeld slots) ps → length (items_at slots ps) ≡ length ps
length_items slots [] h = refl
length_items {T} slots (p ∷ ps) h = by (slot_of slots p) h.0 (length_items slots ps h.1)
  where
    by : (o : Option T) → is_some o ≡ true → length (items_at slots ps) ≡ length ps → length (cons_option o (items_at slots ps)) ≡ length (p ∷ ps)
    by None e ih = cc
    by (Some x) e ih = ap suc ih

pub get_items : {T : Type 0} (slots : List (Option T)) (ps : List ℕ) (i : ℕ) → AllByRecursion (IsHeld slots) ps → i < length ps → slice_get (items_at slots ps) i ≡ slot_of slots (get_or ps i 0)
get_items slots [] i h lt = absurd (omega arith)
get_items {T} slots (p ∷ ps) zero h lt = by (slot_of slots p) h.0
  where
    by : (o : Option T) → is_some o ≡ true → slice_get (cons_option o (items_at slots ps)) zero ≡ o
    by None e = cc
    by (Some x) e = refl
get_items {T} slots (p ∷ ps) (suc i) h lt = by (slot_of slots p) h.0 (get_items slots ps i h.1 (omega arith))
  where
    by : (o : Option T) → is_some o ≡ true → slice_get (items_at slots ps) i ≡ slot_of slots (get_or ps i 0) → slice_get (cons_option o (items_at slots ps)) (suc i) ≡ slot_of slots (get_or ps i 0)
    by None e ih = cc
    by (Some x) e ih = ih

-- ---- writes
pub taken_in : {T : Type 0} (slots : List (Option T)) (p : ℕ) → is_taken slots p ≡ true → p < length slots
taken_in [] p h = cc
taken_in (s ∷ slots) zero h = omega arith
taken_in (s ∷ slots) (suc p) h = let lt = taken_in slots p h in omega arith

taken_set : {T : Type 0} (slots : List (Option T)) (p q : ℕ) (y : T) → is_taken slots q ≡ true → is_taken (set slots p (Some y)) q ≡ true
taken_set [] p q y h = h
taken_set (s ∷ slots) zero zero y h = refl
taken_set (s ∷ slots) zero (suc q) y h = h
taken_set (s ∷ slots) (suc p) zero y h = h
taken_set (s ∷ slots) (suc p) (suc q) y h = taken_set slots p q y h

pub slot_other : {T : Type 0} (slots : List (Option T)) (p q : ℕ) (o : Option T) → Differ p q → slot_of (set slots q o) p ≡ slot_of slots p
slot_other slots p q o ne = get_or-set_other slots q p o None ne

pub items_other : {T : Type 0} (slots : List (Option T)) (ps : List ℕ) (q : ℕ) (o : Option T) → AllByRecursion (λ p. Differ p q) ps → items_at (set slots q o) ps ≡ items_at slots ps
items_other slots [] q o a = refl
items_other slots (p ∷ ps) q o a =
    ap (λ s. cons_option s (items_at (set slots q o) ps)) (slot_other slots p q o a.0) ∙ ap (cons_option (slot_of slots p)) (items_other slots ps q o a.1)

pub differ_back : (p : ℕ) (qs : List ℕ) → AllByRecursion (Differ p) qs → AllByRecursion (λ q. Differ q p) qs
differ_back p qs a = all_weaker (Differ p) (λ q. Differ q p) (λ q ne e. ne (sym e)) qs a

-- a slot that has an element is another one than an empty one
pub taken_differs : {T : Type 0} (slots : List (Option T)) (p q : ℕ) → slot_of slots p ≡ None → is_taken slots q ≡ true → Differ q p
taken_differs slots p q e h same = let f : is_taken slots p ≡ true = subst (λ n. is_taken slots n ≡ true) same h in let g = ap is_some e in cc

pub all_differ : {T : Type 0} (slots : List (Option T)) (ps : List ℕ) (p : ℕ) → slot_of slots p ≡ None → AllByRecursion (IsHeld slots) ps → AllByRecursion (λ q. Differ q p) ps
all_differ slots ps p e h = all_weaker (IsHeld slots) (λ q. Differ q p) (λ q t. taken_differs slots p q e t) ps h

-- ---- an insertion
pub all_insert : {X : Type 0} (P : X → Type 0) (xs : List X) (i : ℕ) (x : X) → P x → AllByRecursion P xs → AllByRecursion P (insert xs i x)
all_insert P xs zero x h a = (h, a)
all_insert P [] (suc i) x h a = (h, tt)
all_insert P (y ∷ xs) (suc i) x h a = (a.0, all_insert P xs i x h a.1)

pub apart_insert : (ps : List ℕ) (i p : ℕ) → AllByRecursion (λ q. Differ q p) ps → Apart Differ ps → Apart Differ (insert ps i p)
apart_insert ps zero p d a = (all_weaker (λ q. Differ q p) (Differ p) (λ q ne e. ne (sym e)) ps d, a)
apart_insert [] (suc i) p d a = (tt, tt)
apart_insert (q ∷ ps) (suc i) p d a = (all_insert (Differ q) ps i p d.0 a.0, apart_insert ps i p d.1 a.1)

pub insert_items : {T : Type 0} (slots : List (Option T)) (ps : List ℕ) (i p : ℕ) (x : T) → AllByRecursion (IsHeld slots) ps → i ≤ length ps → slot_of slots p ≡ Some x → items_at slots (insert ps i p) ≡ insert (items_at slots ps) i x
insert_items slots ps zero p x h le e = ap (λ s. cons_option s (items_at slots ps)) e
insert_items slots [] (suc i) p x h le e = absurd (omega arith)
insert_items {T} slots (q ∷ ps) (suc i) p x h le e = by (slot_of slots q) h.0 (insert_items slots ps i p x h.1 (omega arith) e)
  where
    by : (o : Option T) → is_some o ≡ true → items_at slots (insert ps i p) ≡ insert (items_at slots ps) i x → cons_option o (items_at slots (insert ps i p)) ≡ insert (cons_option o (items_at slots ps)) (suc i) x
    by None t ih = cc
    by (Some y) t ih = ap (λ l. y ∷ l) ih

pub held_set : {T : Type 0} (slots : List (Option T)) (ps : List ℕ) (p : ℕ) (y : T) → AllByRecursion (IsHeld slots) ps → AllByRecursion (IsHeld (set slots p (Some y))) ps
held_set slots ps p y h = all_weaker (IsHeld slots) (IsHeld (set slots p (Some y))) (λ q t. taken_set slots p q y t) ps h

pub inserted_items : {T : Type 0} (slots : List (Option T)) (ps : List ℕ) (i p : ℕ) (x : T) → AllByRecursion (IsHeld slots) ps → IsEmpty slots p → i ≤ length ps
    → items_at (set slots p (Some x)) (insert ps i p) ≡ insert (items_at slots ps) i x
inserted_items slots ps i p x h free le =
    insert_items (set slots p (Some x)) ps i p x (held_set slots ps p x h) le (get_or-set_same slots p (Some x) None free.0)
    ∙ ap (λ l. insert l i x) (items_other slots ps p (Some x) (all_differ slots ps p free.1 h))

pub all_last : {X : Type 0} (P : X → Type 0) (xs : List X) (x : X) → AllByRecursion P (xs ++ x ∷ []) → AllByRecursion P xs × P x
all_last P [] x a = (tt, a.0)
all_last P (y ∷ xs) x a = let more = all_last P xs x a.1 in ((a.0, more.0), more.1)

apart_last : {X : Type 0} (R : X → X → Type 0) (xs : List X) (x : X) → Apart R (xs ++ x ∷ []) → Apart R xs × AllByRecursion (λ y. R y x) xs
apart_last R [] x a = (tt, tt)
apart_last R (y ∷ xs) x a = let more = apart_last R xs x a.1 in let ends = all_last (R y) xs x a.0 in ((ends.0, more.0), (ends.1, more.1))

empty_other : {T : Type 0} (slots : List (Option T)) (qs : List ℕ) (p : ℕ) (o : Option T) → AllByRecursion (λ q. Differ q p) qs → AllByRecursion (IsEmpty slots) qs → AllByRecursion (IsEmpty (set slots p o)) qs
empty_other slots qs p o d a =
    all_both (λ q. Differ q p) (IsEmpty slots) (IsEmpty (set slots p o)) (λ q ne e. (omega (arith, e.0, length-set slots p o), slot_other slots q p o ne ∙ e.1)) qs d a

-- each slot that has an element is among the numbers
abbrev HasAll : {T : Type 0} → List (Option T) → List ℕ → Type 0
HasAll slots order = (q : ℕ) → is_taken slots q ≡ true → is_among q order ≡ true

has_inserted : {T : Type 0} (slots : List (Option T)) (order : List ℕ) (i p : ℕ) (x : T) → HasAll slots order → HasAll (set slots p (Some x)) (insert order i p)
has_inserted slots order i p x h q t = by (q == p) refl
  where
    by : (b : Bool) → (q == p) ≡ b → is_among q (insert order i p) ≡ true
    by true e = subst (λ r. is_among q (insert order i r) ≡ true) (eq_of q p e) (among_insert_here q order i)
    by false e = among_insert q p order i (h q (sym (ap is_some (slot_other slots q p (Some x) (ne_of q p e))) ∙ t))

pub inserted_shelf : {T : Type 0} (slots : List (Option T)) (order free : List ℕ) (i p : ℕ) (x : T) (a b a' b' : ℕ) → i ≤ length order → a ≤ a' → b ≤ b' → IsShelf slots order (free ++ p ∷ []) a b
    → IsShelf (set slots p (Some x)) (insert order i p) free a' b'
inserted_shelf slots order free i p x a b a' b' le more more' s =
    let last = all_last (IsEmpty slots) free p s.empty in
    let apart = apart_last Differ free p s.free_apart in
    let same = length-set slots p (Some x) in
    record {
      held = all_insert (IsHeld (set slots p (Some x))) order i p (ap is_some (get_or-set_same slots p (Some x) None last.1.0)) (held_set slots order p x s.held);
      apart = apart_insert order i p (all_differ slots order p last.1.1 s.held) s.apart;
      empty = empty_other slots free p (Some x) apart.1 last.0;
      free_apart = apart.0;
      all = has_inserted slots order i p x s.all;
      long = omega (arith, s.long, same, length-insert order i p le, length-append free (p ∷ []));
      order_long = omega (arith, s.order_long, same);
      free_long = omega (arith, s.free_long, same);
    }

-- ---- a change of an element
pub edited_items : {T : Type 0} (slots : List (Option T)) (ps : List ℕ) (i : ℕ) (y : T) → AllByRecursion (IsHeld slots) ps → Apart Differ ps → i < length ps
    → items_at (set slots (get_or ps i 0) (Some y)) ps ≡ set (items_at slots ps) i y
edited_items slots [] i y h a lt = absurd (omega arith)
edited_items {T} slots (p ∷ ps) zero y h a lt =
    ap (λ s. cons_option s (items_at (set slots p (Some y)) ps)) (get_or-set_same slots p (Some y) None (taken_in slots p h.0))
    ∙ ap (λ l. y ∷ l) (items_other slots ps p (Some y) (differ_back p ps a.0))
    ∙ by (slot_of slots p) h.0
  where
    by : (o : Option T) → is_some o ≡ true → y ∷ items_at slots ps ≡ set (cons_option o (items_at slots ps)) zero y
    by None t = cc
    by (Some x) t = refl
edited_items {T} slots (q ∷ ps) (suc i) y h a lt =
    ap (λ s. cons_option s (items_at (set slots (get_or ps i 0) (Some y)) ps)) (slot_other slots q (get_or ps i 0) (Some y) (all_at (Differ q) ps i 0 (omega arith) a.0))
    ∙ by (slot_of slots q) h.0 (edited_items slots ps i y h.1 a.1 (omega arith))
  where
    by : (o : Option T) → is_some o ≡ true → items_at (set slots (get_or ps i 0) (Some y)) ps ≡ set (items_at slots ps) i y
        → cons_option o (items_at (set slots (get_or ps i 0) (Some y)) ps) ≡ set (cons_option o (items_at slots ps)) (suc i) y
    by None t ih = cc
    by (Some x) t ih = ap (λ l. x ∷ l) ih

has_edited : {T : Type 0} (slots : List (Option T)) (order : List ℕ) (p : ℕ) (y : T) → is_taken slots p ≡ true → HasAll slots order → HasAll (set slots p (Some y)) order
has_edited slots order p y taken h q t = by (q == p) refl
  where
    by : (b : Bool) → (q == p) ≡ b → is_among q order ≡ true
    by true e = h q (subst (λ r. is_taken slots r ≡ true) (sym (eq_of q p e)) taken)
    by false e = h q (sym (ap is_some (slot_other slots q p (Some y) (ne_of q p e))) ∙ t)

pub edited_shelf : {T : Type 0} (slots : List (Option T)) (order free : List ℕ) (p : ℕ) (y : T) (a b : ℕ) → is_taken slots p ≡ true → IsShelf slots order free a b → IsShelf (set slots p (Some y)) order free a b
edited_shelf slots order free p y a b t s =
    let same = length-set slots p (Some y) in
    record {
      held = held_set slots order p y s.held;
      apart = s.apart;
      empty = empty_other slots free p (Some y) (all_weaker (IsEmpty slots) (λ q. Differ q p) (λ q e same'. taken_differs slots q p e.1 t (sym same')) free s.empty) s.empty;
      free_apart = s.free_apart;
      all = has_edited slots order p y t s.all;
      long = omega (arith, s.long, same);
      order_long = omega (arith, s.order_long, same);
      free_long = omega (arith, s.free_long, same);
    }

-- ---- empty slots more
nones : {T : Type 0} (n p : ℕ) → slot_of (replicate {A = Option T} n None) p ≡ None
nones zero zero = refl
nones zero (suc p) = refl
nones (suc n) zero = refl
nones (suc n) (suc p) = nones n p

pub grown_slot : {T : Type 0} (slots : List (Option T)) (n p : ℕ) → slot_of (slots ++ replicate n None) p ≡ slot_of slots p
grown_slot [] n zero = nones n zero
grown_slot [] n (suc p) = nones n (suc p)
grown_slot (s ∷ slots) n zero = refl
grown_slot (s ∷ slots) n (suc p) = grown_slot slots n p

pub grown_items : {T : Type 0} (slots : List (Option T)) (n : ℕ) (ps : List ℕ) → items_at (slots ++ replicate n None) ps ≡ items_at slots ps
grown_items slots n [] = refl
grown_items slots n (p ∷ ps) = ap (λ s. cons_option s (items_at (slots ++ replicate n None) ps)) (grown_slot slots n p) ∙ ap (cons_option (slot_of slots p)) (grown_items slots n ps)

pub length_grown : {T : Type 0} (slots : List (Option T)) (n : ℕ) → length (slots ++ replicate n None) ≡ length slots + n
length_grown slots n = length-append slots (replicate n None) ∙ ap (λ k. length slots + k) (length-replicate n None)

-- the numbers of the new slots: none is that of a slot before, and none comes twice
abbrev IsFrom : ℕ → ℕ → ℕ → Type 0
IsFrom from n q = (from ≤ q) × (q < from + n)

all_falling : (from n : ℕ) → AllByRecursion (IsFrom from n) (falling from n)
all_falling from zero = tt
all_falling from (suc n) =
    ((omega arith, omega arith), all_weaker (IsFrom from n) (IsFrom from (suc n)) (λ q h. (h.0, omega (arith, h.1))) (falling from n) (all_falling from n))

apart_falling : (from n : ℕ) → Apart Differ (falling from n)
apart_falling from zero = tt
apart_falling from (suc n) = (all_weaker (IsFrom from n) (Differ (from + n)) (λ q h e. omega (arith, h.1, e)) (falling from n) (all_falling from n), apart_falling from n)

pub length_falling : (from n : ℕ) → length (falling from n) ≡ n
length_falling from zero = refl
length_falling from (suc n) = ap suc (length_falling from n)

pub grown_shelf : {T : Type 0} (slots : List (Option T)) (order free : List ℕ) (n a b a' b' : ℕ) → length slots + n ≤ a' → length slots + n ≤ b' → IsShelf slots order free a b
    → IsShelf (slots ++ replicate n None) order (free ++ falling (length slots) n) a' b'
grown_shelf {T} slots order free n a b a' b' la lb s =
    let first = length slots in
    let after : List (Option T) = slots ++ replicate n None in
    let more = falling first n in
    let long = length_grown slots n in
    record {
      held = all_weaker (IsHeld slots) (IsHeld after) (λ q t. ap is_some (grown_slot slots n q) ∙ t) order s.held;
      apart = s.apart;
      empty = all_append (IsEmpty after) free more
          (all_weaker (IsEmpty slots) (IsEmpty after) (λ q e. (omega (arith, e.0, long), grown_slot slots n q ∙ e.1)) free s.empty)
          (all_weaker (IsFrom first n) (IsEmpty after) (λ q h. (omega (arith, h.1, long), grown_slot slots n q ∙ get_or_past slots q None h.0)) more (all_falling first n));
      free_apart = apart_append Differ free more s.free_apart (apart_falling first n)
          (all_weaker (IsEmpty slots) (λ q. AllByRecursion (Differ q) more)
          (λ q e. all_weaker (IsFrom first n) (Differ q) (λ r h same. omega (arith, e.0, h.0, same)) more (all_falling first n)) free s.empty);
      all = λ q t. s.all q (sym (ap is_some (grown_slot slots n q)) ∙ t);
      long = omega (arith, s.long, long, length-append free more, length_falling first n);
      order_long = omega (arith, long, la);
      free_long = omega (arith, long, lb);
    }

-- ---- elements that go
pub clear_other : {T : Type 0} (b : Bool) (slots : List (Option T)) (q p : ℕ) → Differ p q → slot_of (clear_of b slots q) p ≡ slot_of slots p
clear_other true slots q p ne = refl
clear_other false slots q p ne = slot_other slots p q None ne

cleared_other : {T : Type 0} (test : T → Bool) (slots : List (Option T)) (ps : List ℕ) (p : ℕ) → AllByRecursion (Differ p) ps → slot_of (cleared test slots ps) p ≡ slot_of slots p
cleared_other test slots [] p a = refl
cleared_other test slots (q ∷ ps) p a = cleared_other test (clear_of (passes_in test slots q) slots q) ps p a.1 ∙ clear_other (passes_in test slots q) slots q p a.0

pub none_set : {T : Type 0} (slots : List (Option T)) (p q : ℕ) → slot_of slots q ≡ None → slot_of (set slots p None) q ≡ None
none_set [] p q h = h
none_set (s ∷ slots) zero zero h = refl
none_set (s ∷ slots) zero (suc q) h = h
none_set (s ∷ slots) (suc p) zero h = h
none_set (s ∷ slots) (suc p) (suc q) h = none_set slots p q h

none_clear : {T : Type 0} (b : Bool) (slots : List (Option T)) (p q : ℕ) → slot_of slots q ≡ None → slot_of (clear_of b slots p) q ≡ None
none_clear true slots p q h = h
none_clear false slots p q h = none_set slots p q h

pub none_cleared : {T : Type 0} (test : T → Bool) (slots : List (Option T)) (ps : List ℕ) (q : ℕ) → slot_of slots q ≡ None → slot_of (cleared test slots ps) q ≡ None
none_cleared test slots [] q h = h
none_cleared test slots (p ∷ ps) q h = none_cleared test (clear_of (passes_in test slots p) slots p) ps q (none_clear (passes_in test slots p) slots p q h)

pub length_clear : {T : Type 0} (b : Bool) (slots : List (Option T)) (p : ℕ) → length (clear_of b slots p) ≡ length slots
length_clear true slots p = refl
length_clear false slots p = length-set slots p None

pub length_cleared : {T : Type 0} (test : T → Bool) (slots : List (Option T)) (ps : List ℕ) → length (cleared test slots ps) ≡ length slots
length_cleared test slots [] = refl
length_cleared test slots (p ∷ ps) = length_cleared test (clear_of (passes_in test slots p) slots p) ps ∙ length_clear (passes_in test slots p) slots p

held_clear : {T : Type 0} (b : Bool) (slots : List (Option T)) (p : ℕ) (ps : List ℕ) → AllByRecursion (λ q. Differ q p) ps → AllByRecursion (IsHeld slots) ps → AllByRecursion (IsHeld (clear_of b slots p)) ps
held_clear b slots p ps d h = all_both (λ q. Differ q p) (IsHeld slots) (IsHeld (clear_of b slots p)) (λ q ne t. ap is_some (clear_other b slots p q ne) ∙ t) ps d h

items_clear : {T : Type 0} (b : Bool) (slots : List (Option T)) (p : ℕ) (ps : List ℕ) → AllByRecursion (λ q. Differ q p) ps → items_at (clear_of b slots p) ps ≡ items_at slots ps
items_clear true slots p ps d = refl
items_clear false slots p ps d = items_other slots ps p None d

pub cleared_items : {T : Type 0} (test : T → Bool) (slots : List (Option T)) (ps : List ℕ) → AllByRecursion (IsHeld slots) ps → Apart Differ ps → items_at (cleared test slots ps) ps ≡ filter test (items_at slots ps)
cleared_items test slots [] h a = refl
cleared_items {T} test slots (p ∷ ps) h a =
    let b = passes_in test slots p in
    let back = differ_back p ps a.0 in
    ap (λ o. cons_option o (items_at (cleared test (clear_of b slots p) ps) ps)) (cleared_other test (clear_of b slots p) ps p a.0)
    ∙ ap (cons_option (slot_of (clear_of b slots p) p)) (cleared_items test (clear_of b slots p) ps (held_clear b slots p ps back h.1) a.1 ∙ ap (filter test) (items_clear b slots p ps back))
    ∙ by (slot_of slots p) refl
  where
    by : (o : Option T) → slot_of slots p ≡ o → cons_option (slot_of (clear_of (passes_in test slots p) slots p) p) (filter test (items_at slots ps)) ≡ filter test (cons_option (slot_of slots p) (items_at slots ps))
    by None e = let t = ap is_some e in let u = h.0 in cc
    by (Some x) e = at (test x) refl
      where
        at : (b : Bool) → test x ≡ b → cons_option (slot_of (clear_of (passes_in test slots p) slots p) p) (filter test (items_at slots ps)) ≡ filter test (cons_option (slot_of slots p) (items_at slots ps))
        at true f =
            let pass : passes_in test slots p ≡ true = ap (passes test) e ∙ f in
            rw pass (rw e (rw f refl))
        at false f =
            let pass : passes_in test slots p ≡ false = ap (passes test) e ∙ f in
            let gone : slot_of (set slots p None) p ≡ None = get_or-set_same slots p None None (taken_in slots p h.0) in
            rw pass (rw gone (rw e (rw f refl)))

taken_items : {T : Type 0} (slots : List (Option T)) (ps : List ℕ) → items_at slots (filter (is_taken slots) ps) ≡ items_at slots ps
taken_items slots [] = refl
taken_items {T} slots (p ∷ ps) = by (slot_of slots p) refl (taken_items slots ps)
  where
    by : (o : Option T) → slot_of slots p ≡ o → items_at slots (filter (is_taken slots) ps) ≡ items_at slots ps → items_at slots (cond (is_some o) (p ∷ filter (is_taken slots) ps) (filter (is_taken slots) ps)) ≡ cons_option o (items_at slots ps)
    by None e ih = ih
    by (Some x) e ih = ap (λ s. cons_option s (items_at slots (filter (is_taken slots) ps))) e ∙ ap (λ l. x ∷ l) ih

pub kept_items : {T : Type 0} (test : T → Bool) (slots : List (Option T)) (ps : List ℕ) → AllByRecursion (IsHeld slots) ps → Apart Differ ps
    → items_at (cleared test slots ps) (filter (is_taken (cleared test slots ps)) ps) ≡ filter test (items_at slots ps)
kept_items test slots ps h a = taken_items (cleared test slots ps) ps ∙ cleared_items test slots ps h a

-- the numbers of the emptied slots are among those of all
all_dropped : {T : Type 0} (P : ℕ → Type 0) (test : T → Bool) (slots : List (Option T)) (ps : List ℕ) → AllByRecursion P ps → AllByRecursion P (dropped test slots ps)
all_dropped P test slots [] a = tt
all_dropped P test slots (p ∷ ps) a = by (passes_in test slots p) (all_dropped P test slots ps a.1) (all_dropped P test (set slots p None) ps a.1)
  where
    by : (b : Bool) → AllByRecursion P (dropped test slots ps) → AllByRecursion P (dropped test (set slots p None) ps) → AllByRecursion P (cond b (dropped test slots ps) (p ∷ dropped test (set slots p None) ps))
    by true ih ih' = ih
    by false ih ih' = (a.0, ih')

apart_dropped : {T : Type 0} (test : T → Bool) (slots : List (Option T)) (ps : List ℕ) → Apart Differ ps → Apart Differ (dropped test slots ps)
apart_dropped test slots [] a = tt
apart_dropped test slots (p ∷ ps) a = by (passes_in test slots p) (apart_dropped test slots ps a.1) (apart_dropped test (set slots p None) ps a.1)
  where
    by : (b : Bool) → Apart Differ (dropped test slots ps) → Apart Differ (dropped test (set slots p None) ps) → Apart Differ (cond b (dropped test slots ps) (p ∷ dropped test (set slots p None) ps))
    by true ih ih' = ih
    by false ih ih' = (all_dropped (Differ p) test (set slots p None) ps a.0, ih')

empty_dropped : {T : Type 0} (test : T → Bool) (slots : List (Option T)) (ps : List ℕ) → AllByRecursion (IsHeld slots) ps → Apart Differ ps → AllByRecursion (IsEmpty (cleared test slots ps)) (dropped test slots ps)
empty_dropped test slots [] h a = tt
empty_dropped test slots (p ∷ ps) h a =
    by (passes_in test slots p) (empty_dropped test slots ps h.1 a.1) (empty_dropped test (set slots p None) ps (held_clear false slots p ps (differ_back p ps a.0) h.1) a.1)
  where
    by : (b : Bool) → AllByRecursion (IsEmpty (cleared test slots ps)) (dropped test slots ps) → AllByRecursion (IsEmpty (cleared test (set slots p None) ps)) (dropped test (set slots p None) ps)
        → AllByRecursion (IsEmpty (cleared test (clear_of b slots p) ps)) (cond b (dropped test slots ps) (p ∷ dropped test (set slots p None) ps))
    by true ih ih' = ih
    by false ih ih' =
        let within = taken_in slots p h.0 in
        ((omega (arith, within, length_cleared test (set slots p None) ps, length-set slots p None), none_cleared test (set slots p None) ps p (get_or-set_same slots p None None within)), ih')

counted : {T : Type 0} (test : T → Bool) (slots : List (Option T)) (ps : List ℕ) → AllByRecursion (IsHeld slots) ps → Apart Differ ps
    → length (filter (is_taken (cleared test slots ps)) ps) + length (dropped test slots ps) ≡ length ps
counted test slots [] h a = refl
counted test slots (p ∷ ps) h a =
    by (passes_in test slots p) (counted test slots ps h.1 a.1) (counted test (set slots p None) ps (held_clear false slots p ps (differ_back p ps a.0) h.1) a.1)
  where
    by : (b : Bool) → length (filter (is_taken (cleared test slots ps)) ps) + length (dropped test slots ps) ≡ length ps
        → length (filter (is_taken (cleared test (set slots p None) ps)) ps) + length (dropped test (set slots p None) ps) ≡ length ps
        → length (filter (is_taken (cleared test (clear_of b slots p) ps)) (p ∷ ps)) + length (cond b (dropped test slots ps) (p ∷ dropped test (set slots p None) ps)) ≡ length (p ∷ ps)
    by true ih ih' =
        let stays : is_taken (cleared test slots ps) p ≡ true = ap is_some (cleared_other test slots ps p a.0) ∙ h.0 in
        rw stays (omega (arith, ih))
    by false ih ih' =
        let gone : is_taken (cleared test (set slots p None) ps) p ≡ false = ap is_some (none_cleared test (set slots p None) ps p (get_or-set_same slots p None None (taken_in slots p h.0))) in
        rw gone (omega (arith, ih'))

was_taken : {T : Type 0} (test : T → Bool) (slots : List (Option T)) (ps : List ℕ) (q : ℕ) → is_taken (cleared test slots ps) q ≡ true → is_taken slots q ≡ true
was_taken {T} test slots ps q t = by (slot_of slots q) refl
  where
    by : (o : Option T) → slot_of slots q ≡ o → is_taken slots q ≡ true
    by None e = let f = ap is_some (none_cleared test slots ps q e) in cc
    by (Some x) e = ap is_some e

pub kept_shelf : {T : Type 0} (test : T → Bool) (slots : List (Option T)) (order free : List ℕ) (a b : ℕ) → IsShelf slots order free a b
    → IsShelf (cleared test slots order) (filter (is_taken (cleared test slots order)) order) (free ++ dropped test slots order) a b
kept_shelf test slots order free a b s =
    let after = cleared test slots order in
    let same = length_cleared test slots order in
    record {
      held = all_kept (is_taken after) order;
      apart = apart_filter Differ (is_taken after) order s.apart;
      empty = all_append (IsEmpty after) free (dropped test slots order)
          (all_weaker (IsEmpty slots) (IsEmpty after) (λ q e. (omega (arith, e.0, same), none_cleared test slots order q e.1)) free s.empty)
          (empty_dropped test slots order s.held s.apart);
      free_apart = apart_append Differ free (dropped test slots order) s.free_apart (apart_dropped test slots order s.apart)
          (all_weaker (IsEmpty slots) (λ q. AllByRecursion (Differ q) (dropped test slots order))
          (λ q e. all_dropped (Differ q) test slots order (all_weaker (IsHeld slots) (Differ q) (λ p t same'. taken_differs slots q p e.1 t (sym same')) order s.held)) free s.empty);
      all = λ q t. among_filter (is_taken after) q order (s.all q (was_taken test slots order q t)) t;
      long = omega (arith, s.long, same, counted test slots order s.held s.apart, length-append free (dropped test slots order));
      order_long = omega (arith, s.order_long, same);
      free_long = omega (arith, s.free_long, same);
    }

pub in_range : {T : Type 0} (slots : List (Option T)) (ps : List ℕ) → AllByRecursion (IsHeld slots) ps → AllByRecursion (λ p. p < length slots) ps
in_range slots ps h = all_weaker (IsHeld slots) (λ p. p < length slots) (λ p t. taken_in slots p t) ps h

-- one slot of those that a loop goes over
pub freed_step : {T : Type 0} (test : T → Bool) (slots : List (Option T)) (free : List ℕ) (p : ℕ) (ps : List ℕ) (b : Bool) → passes_in test slots p ≡ b
    → cond b free (free ++ p ∷ []) ++ dropped test (clear_of b slots p) ps ≡ free ++ dropped test slots (p ∷ ps)
freed_step test slots free p ps true e = ap (λ t. free ++ cond t (dropped test slots ps) (p ∷ dropped test (set slots p None) ps)) (sym e)
freed_step test slots free p ps false e =
    append_assoc free (p ∷ []) (dropped test (set slots p None) ps) ∙ ap (λ t. free ++ cond t (dropped test slots ps) (p ∷ dropped test (set slots p None) ps)) (sym e)

pub length_freed : (b : Bool) (free : List ℕ) (p : ℕ) → length (cond b free (free ++ p ∷ [])) ≤ length free + 1
length_freed true free p = omega arith
length_freed false free p = omega (arith, length-append free (p ∷ []))

pub some_of : {T : Type 0} (o : Option T) → is_some o ≡ true → (x : T) × (o ≡ Some x)
some_of None h = cc
some_of (Some x) h = (x, refl)

-- ---- one element that goes
pub remove_items : {T : Type 0} (slots : List (Option T)) (ps : List ℕ) (i : ℕ) → AllByRecursion (IsHeld slots) ps → items_at slots (remove ps i) ≡ remove (items_at slots ps) i
remove_items slots [] zero h = refl
remove_items slots [] (suc i) h = refl
remove_items {T} slots (p ∷ ps) zero h = by (slot_of slots p) h.0
  where
    by : (o : Option T) → is_some o ≡ true → items_at slots ps ≡ remove (cons_option o (items_at slots ps)) zero
    by None t = cc
    by (Some x) t = refl
remove_items {T} slots (p ∷ ps) (suc i) h = by (slot_of slots p) h.0 (remove_items slots ps i h.1)
  where
    by : (o : Option T) → is_some o ≡ true → items_at slots (remove ps i) ≡ remove (items_at slots ps) i → cons_option o (items_at slots (remove ps i)) ≡ remove (cons_option o (items_at slots ps)) (suc i)
    by None t ih = cc
    by (Some x) t ih = ap (λ l. x ∷ l) ih

pub removed_items : {T : Type 0} (slots : List (Option T)) (order : List ℕ) (i p : ℕ) → p ≡ get_or order i 0 → i < length order → AllByRecursion (IsHeld slots) order → Apart Differ order
    → items_at (set slots p None) (remove order i) ≡ remove (items_at slots order) i
removed_items slots order i p is lt h a =
    items_other slots (remove order i) p None (subst (λ r. AllByRecursion (λ q. Differ q r) (remove order i)) (sym is) (removed_differ order i lt a)) ∙ remove_items slots order i h

has_removed : {T : Type 0} (slots : List (Option T)) (order : List ℕ) (i p : ℕ) → p ≡ get_or order i 0 → p < length slots → HasAll slots order → HasAll (set slots p None) (remove order i)
has_removed slots order i p is within h q t = by (q == p) refl
  where
    by : (b : Bool) → (q == p) ≡ b → is_among q (remove order i) ≡ true
    by true e =
        let gone = subst (λ r. slot_of (set slots p None) r ≡ None) (sym (eq_of q p e)) (get_or-set_same slots p None None within) in
        let f = ap is_some gone in
        cc
    by false e = among_remove q order i (h q (sym (ap is_some (slot_other slots q p None (ne_of q p e))) ∙ t)) (λ same. ne_of q p e (same ∙ sym is))

pub held_gone : {T : Type 0} (slots : List (Option T)) (ps : List ℕ) (p : ℕ) → AllByRecursion (λ q. Differ q p) ps → AllByRecursion (IsHeld slots) ps → AllByRecursion (IsHeld (set slots p None)) ps
held_gone slots ps p d h = all_both (λ q. Differ q p) (IsHeld slots) (IsHeld (set slots p None)) (λ q ne t. ap is_some (slot_other slots q p None ne) ∙ t) ps d h

pub removed_shelf : {T : Type 0} (slots : List (Option T)) (order free : List ℕ) (i p a b a' b' : ℕ) → p ≡ get_or order i 0 → i < length order → a ≤ a' → b ≤ b' → IsShelf slots order free a b
    → IsShelf (set slots p None) (remove order i) (free ++ p ∷ []) a' b'
removed_shelf slots order free i p a b a' b' is lt more more' s =
    let taken : is_taken slots p ≡ true = subst (λ r. is_taken slots r ≡ true) (sym is) (all_at (IsHeld slots) order i 0 lt s.held) in
    let within = taken_in slots p taken in
    let same = length-set slots p None in
    let apart = subst (λ r. AllByRecursion (λ q. Differ q r) (remove order i)) (sym is) (removed_differ order i lt s.apart) in
    record {
      held = held_gone slots (remove order i) p apart (all_remove (IsHeld slots) order i s.held);
      apart = apart_remove Differ order i s.apart;
      empty = all_append (IsEmpty (set slots p None)) free (p ∷ [])
          (all_weaker (IsEmpty slots) (IsEmpty (set slots p None)) (λ q e. (omega (arith, e.0, same), none_set slots p q e.1)) free s.empty)
          ((omega (arith, within, same), get_or-set_same slots p None None within), tt);
      free_apart = apart_append Differ free (p ∷ []) s.free_apart (tt, tt)
          (all_weaker (IsEmpty slots) (λ q. AllByRecursion (Differ q) (p ∷ [])) (λ q e. ((λ same'. taken_differs slots q p e.1 taken (sym same')), tt)) free s.empty);
      all = has_removed slots order i p is within s.all;
      long = omega (arith, s.long, same, length-remove order i lt, length-append free (p ∷ []));
      order_long = omega (arith, s.order_long, same, more);
      free_long = omega (arith, s.free_long, same, more');
    }
