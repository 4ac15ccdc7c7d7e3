-- The values among which what is kept of a view begins wherever a condition keeps the row.
use Rattle.std.proofs.Common.{◌≡◌, ℕ, Bool, true, false, not, [], ◌∷◌, Option, Some, None, refl, sym, ap, ◌∙◌}
use Rattle.std.specs.Prelude.{MatchOption}
use Rattle.std.specs.Ordering.{is_gt, is_lt}
use Rattle.std.proofs.lemmas.Cmp.{tied_itself}
use Rattle.lv_values.specs.declared.value.Value.{Value}
use Rattle.lv_values.specs.Order.{value_cmp}
use Rattle.lv_values.specs.OrderLaws.{value_total}
use Rattle.lv_schema.specs.declared.cond.Cond.{Cond}
use Rattle.lv_schema.specs.declared.view.ViewDef.{ViewDef}
use Rattle.lv_schema.specs.Truth.{holds}
use Rattle.lv_effect.specs.declared.bounding.Side.TheVariants.{Low, High}
use Rattle.lv_effect.specs.Bounds.{Bounds}
use Rattle.lv_viewrows.specs.Beginning.{AllFrom, AllUpTo, IsFirst}
use Rattle.lv_viewrows.specs.Kept.{row_listed}
use Rattle.lv_store.specs.declared.sought.FirstRange.{FirstRange}
use Rattle.lv_store.specs.declared.sought.FirstRange.TheVariants.{Only, Between}
use Rattle.lv_store.specs.Ranges.{IsSaid, highest_of, lowest_of}

module _ (view : ViewDef) (column : ℕ) (c : Cond) (first : IsFirst view column) where
  bounded_from : (low : Option Value) → MatchOption low (Unit {0}) (Bounds Low column c) → AllFrom view (λ row. holds c (row ∷ [])) low
  bounded_from None b = λ group t. refl
  bounded_from (Some v) b = λ group t. ap (λ x. is_lt (value_cmp x v)) (sym (first group)) ∙ b (row_listed view group) t

  bounded_up_to : (high : Option Value) → MatchOption high (Unit {0}) (Bounds High column c) → AllUpTo view (λ row. holds c (row ∷ [])) high
  bounded_up_to None b = λ group t. refl
  bounded_up_to (Some v) b = λ group t. ap (λ x. is_gt (value_cmp x v)) (sym (first group)) ∙ b (row_listed view group) t

  pub said_from : (range : FirstRange) → IsSaid column c range → AllFrom view (λ row. holds c (row ∷ [])) (lowest_of range)
  said_from (Only v) said = λ group t. ap (λ x. is_lt (value_cmp x v)) (sym (first group) ∙ said.1 (row_listed view group) t) ∙ ap is_lt (tied_itself value_total v)
  said_from (Between low high) said = bounded_from low said.from

  pub said_up_to : (range : FirstRange) → IsSaid column c range → AllUpTo view (λ row. holds c (row ∷ [])) (highest_of range)
  said_up_to (Only v) said = λ group t. ap (λ x. is_gt (value_cmp x v)) (sym (first group) ∙ said.1 (row_listed view group) t) ∙ ap is_gt (tied_itself value_total v)
  said_up_to (Between low high) said = bounded_up_to high said.up_to

pub not_so : (b : Bool) → not b ≡ true → b ≡ false
not_so true e = cc
not_so false e = refl
