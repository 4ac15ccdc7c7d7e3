-- Rows put behind the old rows of the parts of their aliases, one after the other.
use Rattle.std.proofs.Common.{◌≡◌, ℕ, zero, suc, ◌+◌, ◌-◌, ◌<◌, ◌≤◌, Bool, true, false, cond, ◌==◌, List, [], ◌∷◌, ◌++◌, length, drop, get_or, refl, sym, ap, ◌∙◌, append_assoc, arith}
use Rattle.std.proofs.lemmas.Bool.{eqb-true, eq-eqb}
use Rattle.std.proofs.lemmas.List.{append-nil}
use Rattle.std.specs.Prelude.{slice_set}
use Rattle.lv_schema.specs.declared.part.Part.{Part}
use Rattle.lv_reach.specs.declared.rows.AliasRow.{AliasRow}
use Rattle.lv_reach.specs.Found.{rows_of_alias, with_found, with_more}

-- ---- more rows behind those that were put
rows_both : (i : ℕ) (xs ys : List AliasRow) → rows_of_alias i (xs ++ ys) ≡ rows_of_alias i xs ++ rows_of_alias i ys
rows_both i [] ys = refl
rows_both i (a ∷ xs) ys = by (i == a.alias) (rows_both i xs ys)
  where
    by : (b : Bool) → rows_of_alias i (xs ++ ys) ≡ rows_of_alias i xs ++ rows_of_alias i ys
        → cond b (a.row ∷ rows_of_alias i (xs ++ ys)) (rows_of_alias i (xs ++ ys)) ≡ cond b (a.row ∷ rows_of_alias i xs) (rows_of_alias i xs) ++ rows_of_alias i ys
    by true e = ap (λ l. a.row ∷ l) e
    by false e = e

pub found_both : (i : ℕ) (parts : List Part) (xs ys : List AliasRow) → with_found i (with_found i parts xs) ys ≡ with_found i parts (xs ++ ys)
found_both i [] xs ys = refl
found_both i (p ∷ parts) xs ys =
    let here = append_assoc p.old (rows_of_alias i xs) (rows_of_alias i ys) ∙ ap (λ l. p.old ++ l) (sym (rows_both i xs ys)) in
    let rest = found_both (suc i) parts xs ys in
    λ x. record { old = here x; minus = p.minus; plus = p.plus } ∷ rest x

pub found_none : (i : ℕ) (parts : List Part) → with_found i parts [] ≡ parts
found_none i [] = refl
found_none i (p ∷ parts) =
    let rest = found_none (suc i) parts in
    λ x. record { old = append-nil p.old x; minus = p.minus; plus = p.plus } ∷ rest x

-- ---- one row
none_here : (i : ℕ) (a : AliasRow) (p : Part) → (i ≡ a.alias → ⊥) → with_more p (rows_of_alias i (a ∷ [])) ≡ p
none_here i a p apart = by (i == a.alias) refl
  where
    by : (b : Bool) → (i == a.alias) ≡ b → with_more p (cond b (a.row ∷ []) []) ≡ p
    by true e = absurd (apart (eqb-true i a.alias e))
    by false e = λ x. record { old = append-nil p.old x; minus = p.minus; plus = p.plus }

pub found_past : (i : ℕ) (parts : List Part) (a : AliasRow) → i + length parts ≤ a.alias → with_found i parts (a ∷ []) ≡ parts
found_past i [] a le = refl
found_past i (p ∷ parts) a le =
    let here = none_here i a p (λ e. omega (arith, le, e)) in
    let rest = found_past (suc i) parts a (omega (arith, le)) in
    λ x. here x ∷ rest x

found_before : (i : ℕ) (parts : List Part) (a : AliasRow) → a.alias < i → with_found i parts (a ∷ []) ≡ parts
found_before i [] a lt = refl
found_before i (p ∷ parts) a lt =
    let here = none_here i a p (λ e. omega (arith, lt, e)) in
    let rest = found_before (suc i) parts a (omega (arith, lt)) in
    λ x. here x ∷ rest x

pub found_at : (i k : ℕ) (parts : List Part) (a : AliasRow) (d new : Part) → a.alias ≡ i + k → k < length parts → new ≡ with_more (get_or parts k d) (a.row ∷ []) → slice_set parts k new ≡ with_found i parts (a ∷ [])
found_at i k [] a d new at lt is = absurd (let none = lt in omega (arith, none))
found_at i zero (p ∷ parts) a d new at lt is =
    let here : (i == a.alias) ≡ true = eq-eqb i a.alias (omega (arith, at)) in
    let rest = found_before (suc i) parts a (omega (arith, at)) in
    let one : with_more p (rows_of_alias i (a ∷ [])) ≡ with_more p (a.row ∷ []) = ap (λ b. with_more p (cond b (a.row ∷ []) [])) here in
    λ x. (is ∙ sym one) x ∷ sym rest x
found_at i (suc k) (p ∷ parts) a d new at lt is =
    let here = none_here i a p (λ e. omega (arith, at, e)) in
    let rest = found_at (suc i) k parts a d new (omega (arith, at)) (omega (arith, lt)) is in
    λ x. sym here x ∷ rest x

-- ---- a loop over the near rows, those from a place on
pub from_here : (from at : ℕ) (parts : List Part) (row : AliasRow) → from ≤ at → with_found 0 parts (row ∷ []) ≡ with_found 0 parts (drop (from - at) (row ∷ []))
from_here from at parts row le = let here : 0 ≡ from - at = omega (arith, le) in ap (λ n. with_found 0 parts (drop n (row ∷ []))) here

pub from_later : (from at : ℕ) (parts : List Part) (row : AliasRow) → at < from → parts ≡ with_found 0 parts (drop (from - at) (row ∷ []))
from_later from at parts row lt = by (from - at) (omega (arith, lt))
  where
    by : (n : ℕ) → 0 < n → parts ≡ with_found 0 parts (drop n (row ∷ []))
    by zero lt = absurd (let none = lt in omega (arith, none))
    by (suc zero) lt = sym (found_none 0 parts)
    by (suc (suc n)) lt = sym (found_none 0 parts)

module _ (from at : ℕ) (parts all : List Part) (rows : List AliasRow) where
  abbrev pub AreLeft : Type 0
  AreLeft = with_found 0 parts (drop (from - at) rows) ≡ all

  pub found_next : (row : AliasRow) (rest : List AliasRow) (new : List Part) → AreLeft → rows ≡ row ∷ rest → new ≡ with_found 0 parts (drop (from - at) (row ∷ [])) → with_found 0 new (drop (from - (at + 1)) rest) ≡ all
  found_next row rest new left is new_is =
      ap (λ l. with_found 0 l (drop (from - (at + 1)) rest)) new_is
      ∙ found_both 0 parts (drop (from - at) (row ∷ [])) (drop (from - (at + 1)) rest)
      ∙ ap (with_found 0 parts) (both (from - at) (from - (at + 1)) (omega arith))
      ∙ ap (λ l. with_found 0 parts (drop (from - at) l)) (sym is)
      ∙ left
    where
      both : (n m : ℕ) → m ≡ n - 1 → drop n (row ∷ []) ++ drop m rest ≡ drop n (row ∷ rest)
      both zero m e = let none : m ≡ 0 = omega (arith, e) in ap (λ k. row ∷ drop k rest) none
      both (suc zero) m e = let none : m ≡ 0 = omega (arith, e) in ap (λ k. drop k rest) none
      both (suc (suc n)) m e = let less : m ≡ suc n = omega (arith, e) in ap (λ k. drop k rest) less

  pub found_all : AreLeft → rows ≡ [] → parts ≡ all
  found_all left is = sym (found_none 0 parts) ∙ ap (with_found 0 parts) (sym (none (from - at) rows is)) ∙ left
    where
      none : (n : ℕ) (rows : List AliasRow) → rows ≡ [] → drop n rows ≡ []
      none zero rows e = e
      none (suc n) [] e = refl
      none (suc n) (row ∷ rows) e = cc
