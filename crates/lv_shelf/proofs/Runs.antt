-- Elements that follow one another in an order.
use Rattle.std.proofs.Common.{◌≡◌, ℕ, zero, suc, true, List, [], ◌∷◌, length, take, drop, Option, Some, None, refl, sym, ap, ◌∙◌, subst}
use Rattle.std.specs.Prelude.{is_some}
use Rattle.std.specs.List.{AllByRecursion, cons_option}
use Rattle.lv_shelf.specs.Shelves.{IsHeld, items_at, slot_of}
use Rattle.lv_shelf.proofs.Shelved.{length_items}

pub all_taken : {X : Type 0} (P : X → Type 0) (n : ℕ) (xs : List X) → AllByRecursion P xs → AllByRecursion P (take n xs)
all_taken P zero xs a = tt
all_taken P (suc n) [] a = tt
all_taken P (suc n) (x ∷ xs) a = (a.0, all_taken P n xs a.1)

pub all_behind : {X : Type 0} (P : X → Type 0) (n : ℕ) (xs : List X) → AllByRecursion P xs → AllByRecursion P (drop n xs)
all_behind P zero xs a = a
all_behind P (suc n) [] a = tt
all_behind P (suc n) (x ∷ xs) a = all_behind P n xs a.1

pub items_taken : {T : Type 0} (slots : List (Option T)) (n : ℕ) (ps : List ℕ) → AllByRecursion (IsHeld slots) ps → items_at slots (take n ps) ≡ take n (items_at slots ps)
items_taken slots zero ps h = refl
items_taken slots (suc n) [] h = refl
items_taken {T} slots (suc n) (p ∷ ps) h = by (slot_of slots p) h.0 (items_taken slots n ps h.1)
  where
    by : (o : Option T) → is_some o ≡ true → items_at slots (take n ps) ≡ take n (items_at slots ps) → cons_option o (items_at slots (take n ps)) ≡ take (suc n) (cons_option o (items_at slots ps))
    by None e ih = cc
    by (Some x) e ih = ap (λ l. x ∷ l) ih

pub items_behind : {T : Type 0} (slots : List (Option T)) (n : ℕ) (ps : List ℕ) → AllByRecursion (IsHeld slots) ps → items_at slots (drop n ps) ≡ drop n (items_at slots ps)
items_behind slots zero ps h = refl
items_behind slots (suc n) [] h = refl
items_behind {T} slots (suc n) (p ∷ ps) h = by (slot_of slots p) h.0 (items_behind slots n ps h.1)
  where
    by : (o : Option T) → is_some o ≡ true → items_at slots (drop n ps) ≡ drop n (items_at slots ps) → items_at slots (drop n ps) ≡ drop (suc n) (cons_option o (items_at slots ps))
    by None e ih = cc
    by (Some x) e ih = ih

-- the elements whose numbers follow one another from a place on
pub record IsRun {T : Type 0} (slots : List (Option T)) (places numbers : List ℕ) (i : ℕ) : Type 0 where
  pub held : AllByRecursion (IsHeld slots) numbers
  pub long : length (items_at slots numbers) ≡ length numbers
  pub same : items_at slots numbers ≡ take (length numbers) (drop i (items_at slots places))

pub run_is : {T : Type 0} (slots : List (Option T)) (places numbers : List ℕ) (i : ℕ) → AllByRecursion (IsHeld slots) places → numbers ≡ take (length numbers) (drop i places) → IsRun slots places numbers i
run_is slots places numbers i h e =
    let n = length numbers in
    let behind = all_behind (IsHeld slots) i places h in
    let held = subst (AllByRecursion (IsHeld slots)) (sym e) (all_taken (IsHeld slots) n (drop i places) behind) in
    record {
      held = held;
      long = length_items slots numbers held;
      same = ap (items_at slots) e ∙ items_taken slots n (drop i places) behind ∙ ap (take n) (items_behind slots i places h);
    }
