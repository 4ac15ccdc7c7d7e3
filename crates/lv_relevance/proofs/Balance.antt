-- What each sum says of a part: over its old rows it is that over the rows that stay and those that go.
use Rattle.std.proofs.Common.{◌≡◌, ℕ, ℤ, pos, ◌+ℤ◌, Bool, true, false, cond, not, ◌||◌, List, [], ◌∷◌, refl, sym, ap, ◌∙◌, arith}
use Rattle.std.proofs.lemmas.Int.{ints}
use Rattle.std.specs.List.{AllByRecursion}
use Rattle.std.specs.Cmp.{eq_by_cmp_equiv}
use Rattle.lv_values.specs.Order.{row_eq}
use Rattle.lv_values.specs.OrderLaws.{row_total}
use Rattle.lv_values.specs.Rows.{key_cmp}
use Rattle.lv_schema.specs.declared.part.Part.{Part}
use Rattle.lv_schema.specs.declared.table.TableDef.{TableDef}
use Rattle.lv_schema.specs.Groups.{total}
use Rattle.lv_schema.specs.Jobs.{IsPart}
use Rattle.lv_schema.specs.Nets.{has_row, lacking}
use Rattle.lv_schema.specs.Once.{Ascends}
use Rattle.lv_schema.proofs.ChangeLists.{ARow}
use Rattle.lv_schema.proofs.NetsLead.{same_row, key_total, not_above}
use Rattle.lv_schema.proofs.Totals.{total-filter, total-add, total_same}

-- each sum over the old rows of a part
pub record IsSplit (p : Part) : Type 0 where
  pub old_is : (f : ARow → ℤ) → total f p.old ≡ total f (lacking p.old p.minus) +ℤ total f p.minus

flipped : (r x : ARow) → row_eq x r ≡ row_eq r x
flipped r x = (eq_by_cmp_equiv row_total).symm x r

-- ---- the rows that are r
no_such : (f : ARow → ℤ) (r : ARow) (rows : List ARow) → has_row r rows ≡ false → total (λ x. cond (row_eq r x) (f x) (pos 0)) rows ≡ pos 0
no_such f r [] h = refl
no_such f r (x ∷ rows) h = by (row_eq r x) h (no_such f r rows)
  where
    by : (b : Bool) → (b || has_row r rows) ≡ false → (has_row r rows ≡ false → total (λ x. cond (row_eq r x) (f x) (pos 0)) rows ≡ pos 0) → cond b (f x) (pos 0) +ℤ total (λ x. cond (row_eq r x) (f x) (pos 0)) rows ≡ pos 0
    by true h rest = cc
    by false h rest = omega (arith, ints, rest h)

either_part : (a b : Bool) (n : ℤ) → (a ≡ true → b ≡ false) → cond (a || b) n (pos 0) ≡ cond a n (pos 0) +ℤ cond b n (pos 0)
either_part true true n h = let e = h refl in cc
either_part true false n h = omega (arith, ints)
either_part false b n h = omega (arith, ints)

total_zero : (rows : List ARow) → total (λ _. pos 0) rows ≡ pos 0
total_zero [] = refl
total_zero (x ∷ rows) = omega (arith, ints, total_zero rows)

either_side : (b : Bool) (n : ℤ) → n ≡ cond (not b) n (pos 0) +ℤ cond b n (pos 0)
either_side true n = omega (arith, ints)
either_side false n = omega (arith, ints)

module _ (key : List ℕ) (f : ARow → ℤ) where
  one_such : (r : ARow) (rows : List ARow) → Ascends (key_cmp key) rows → has_row r rows ≡ true → total (λ x. cond (row_eq r x) (f x) (pos 0)) rows ≡ f r
  one_such r [] up h = cc
  one_such r (x ∷ rows) up h = by (row_eq r x) refl h (one_such r rows up.1)
    where
      by : (b : Bool) → row_eq r x ≡ b → (b || has_row r rows) ≡ true → (has_row r rows ≡ true → total (λ x. cond (row_eq r x) (f x) (pos 0)) rows ≡ f r) → cond b (f x) (pos 0) +ℤ total (λ x. cond (row_eq r x) (f x) (pos 0)) rows ≡ f r
      by true e h rest =
          let same : r ≡ x = same_row r x e in
          let none : has_row r rows ≡ false = ap (λ y. has_row y rows) same ∙ not_above (key_total key) x rows up.0 in
          omega (arith, ints, ap f same, no_such f r rows none)
      by false e h rest = omega (arith, ints, rest h)

  -- the rows that go are those before that are among them
  going : (old minus : List ARow) → Ascends (key_cmp key) old → Ascends (key_cmp key) minus → AllByRecursion (λ row. has_row row old ≡ true) minus → total (λ x. cond (has_row x minus) (f x) (pos 0)) old ≡ total f minus
  going old [] up d t = total_zero old
  going old (r ∷ rows) up d t =
      let first : ARow → ℤ = λ x. cond (row_eq r x) (f x) (pos 0) in
      let rest : ARow → ℤ = λ x. cond (has_row x rows) (f x) (pos 0) in
      total_same (λ x. cond (has_row x (r ∷ rows)) (f x) (pos 0)) (λ x. first x +ℤ rest x)
      (λ x. ap (λ b. cond (b || has_row x rows) (f x) (pos 0)) (flipped r x)
      ∙ either_part (row_eq r x) (has_row x rows) (f x) (λ e. ap (λ y. has_row y rows) (sym (same_row r x e)) ∙ not_above (key_total key) r rows d.0)) old
      ∙ total-add first rest old
      ∙ (λ i. one_such r old up t.0 i +ℤ going old rows up d.1 t.1 i)

pub split : (def : TableDef) (p : Part) → IsPart def p → IsSplit p
split def p h = record {
  old_is = λ f.
      let others : ARow → ℤ = λ x. cond (not (has_row x p.minus)) (f x) (pos 0) in
      let among : ARow → ℤ = λ x. cond (has_row x p.minus) (f x) (pos 0) in
      total_same f (λ x. others x +ℤ among x) (λ x. either_side (has_row x p.minus) (f x)) p.old
      ∙ total-add others among p.old
      ∙ (λ i. sym (total-filter f (λ row. not (has_row row p.minus)) p.old) i +ℤ going def.key f p.old p.minus h.old_keyed h.minus_keyed h.there i);
}
