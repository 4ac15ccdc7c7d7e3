-- A condition fixes what one of its parts fixes, where all of them have to hold.
use Rattle.std.proofs.Common.{◌≡◌, ℕ, Bool, true, cond, ◌&&◌, List, [], ◌∷◌, map, refl, sym, ap, ◌∙◌, subst}
use Rattle.std.specs.Prelude.{◌||◌, MatchOption, Option, Some, None}
use denote.Ref.{Bor}
use Rattle.std.specs.List.{list_all, list_any}
use Rattle.std.specs.Ordering.{is_eq}
use Rattle.std.specs.declared.cmp.Ordering.{Ordering}
use Rattle.std.specs.declared.cmp.Ordering.TheVariants.{Less, Equal, Greater}
use Rattle.lv_values.specs.declared.value.Value.{Value}
use Rattle.lv_values.specs.Order.{value_cmp, value_eq}
use Rattle.lv_values.specs.OrderLaws.{value_exact}
use Rattle.lv_values.specs.Rows.{value_in}
use Rattle.lv_schema.specs.declared.cond.Cond.{Cond}
use Rattle.lv_schema.specs.declared.cond.Cond.TheVariants.{And, rolls-And}
use Rattle.lv_schema.specs.declared.cond.Cond.TheOpen.{Cond-F}
use Rattle.lv_schema.specs.declared.cond.Cond.TheFolds.{fold-roll-Cond}
use Rattle.lv_schema.specs.declared.cond.Operand.{Operand}
use Rattle.lv_schema.specs.declared.logic.Truth.{Truth}
use Rattle.lv_schema.specs.declared.logic.Truth.TheVariants.{No, Unknown, Yes}
use Rattle.lv_schema.specs.Truth.{all_of, both, holds, is_yes, operand_value, truth}
use Rattle.lv_schema.specs.Tuples.{Tuple}
use Rattle.lv_schema.proofs.TruthLaws.{truth-And}
use Rattle.lv_effect.specs.FixedKeys.{Fixes, PartsFix, SidesFix, literal_value, says_column, says_step}

-- ---- a comparison
equal_of : (o : Ordering) → is_eq o ≡ true → o ≡ Equal
equal_of Less h = cc
equal_of Equal h = refl
equal_of Greater h = cc

same_values : (a b : Value) → value_eq a b ≡ true → a ≡ b
same_values a b h = value_exact a b (equal_of (value_cmp a b) h)

pub left_fixes : (column : ℕ) (left right : Operand) → ((row : List Value) → operand_value (row ∷ []) left ≡ value_in row column)
    → ((tuple : Tuple) → operand_value tuple right ≡ literal_value right) → SidesFix column left right (literal_value right)
left_fixes column left right l r row h = sym (l row) ∙ same_values _ _ h ∙ r (row ∷ [])

pub right_fixes : (column : ℕ) (left right : Operand) → ((row : List Value) → operand_value (row ∷ []) right ≡ value_in row column)
    → ((tuple : Tuple) → operand_value tuple left ≡ literal_value left) → SidesFix column left right (literal_value left)
right_fixes column left right r l row h = sym (r row) ∙ sym (same_values _ _ h) ∙ l (row ∷ [])

-- ---- parts that all hold
both_yes : (a b : Truth) → is_yes (both a b) ≡ true → (is_yes a ≡ true) × (is_yes b ≡ true)
both_yes No b h = cc
both_yes Yes b h = (refl, h)
both_yes Unknown No h = cc
both_yes Unknown Unknown h = cc
both_yes Unknown Yes h = cc

pub all_yes : (parts : List Cond) (tuple : Tuple) → is_yes (all_of (map (λ part. truth part tuple) parts)) ≡ true → list_all (λ part. holds part tuple) parts ≡ true
all_yes [] tuple h = refl
all_yes (part ∷ parts) tuple h =
    let each = both_yes (truth part tuple) (all_of (map (λ p. truth p tuple) parts)) h in
    (λ i. each.0 i && list_all (λ p. holds p tuple) parts) ∙ all_yes parts tuple each.1

pub parts_fix : (column : ℕ) (parts : List Cond) (v : Value) → PartsFix column parts v → Fixes column (And parts) v
parts_fix column parts v f row h = f row (all_yes parts (row ∷ []) (ap is_yes (sym (truth-And parts (row ∷ []))) ∙ h))

pub all_parts_fix : (column : ℕ) (seen parts : List Cond) (cond : Cond) (o : Option (Bor Operand)) → seen ≡ parts → cond ≡ And parts
    → MatchOption o (Unit {0}) (λ literal. PartsFix column seen (literal_value literal.now)) → MatchOption o (Unit {0}) (λ literal. Fixes column cond (literal_value literal.now))
all_parts_fix column seen parts cond None same is h = tt
all_parts_fix column seen parts cond (Some literal) same is h =
    subst (λ c. Fixes column c (literal_value literal.now)) (sym is)
    (parts_fix column parts (literal_value literal.now) (subst (λ ps. PartsFix column ps (literal_value literal.now)) same h))

-- ---- what a condition says
any_said : (column : ℕ) (parts : List Cond) → list_any (λ b. b) (map (λ c. says_column c column) parts) ≡ list_any (λ part. says_column part column) parts
any_said column [] = refl
any_said column (part ∷ parts) = ap (λ b. says_column part column || b) (any_said column parts)

pub says-And : (column : ℕ) (parts : List Cond) → says_column (And parts) column ≡ list_any (λ part. says_column part column) parts
says-And column parts = ap (λ c. says_column c column) (sym (rolls-And parts)) ∙ fold-roll-Cond Bool (says_step column) (Cond-F.And parts) ∙ any_said column parts
