-- A condition bounds what one of its parts bounds, where all of them have to hold.
use Rattle.std.proofs.Common.{◌≡◌, ℕ, Bool, true, false, cond, List, [], ◌∷◌, refl, sym, ap, ap₂, ◌∙◌, subst}
use Rattle.std.specs.Prelude.{MatchOption, Option, Some, None}
use denote.Ref.{Bor}
use Rattle.std.specs.Ordering.{is_gt, is_lt, ordering_reverse}
use Rattle.std.specs.declared.cmp.Ordering.{Ordering}
use Rattle.std.specs.declared.cmp.Ordering.TheVariants.{Less, Equal, Greater}
use Rattle.lv_values.specs.declared.value.Value.{Value}
use Rattle.lv_values.specs.Order.{value_cmp}
use Rattle.lv_values.specs.OrderLaws.{value_total}
use Rattle.lv_values.specs.Rows.{value_in}
use Rattle.lv_schema.specs.declared.cond.Cond.{Cond}
use Rattle.lv_schema.specs.declared.cond.Cond.TheVariants.{And, Cmp, rolls-And}
use Rattle.lv_schema.specs.declared.cond.Cond.TheOpen.{Cond-F}
use Rattle.lv_schema.specs.declared.cond.Cond.TheFolds.{fold-roll-Cond}
use Rattle.lv_schema.specs.declared.cond.Op.{Op}
use Rattle.lv_schema.specs.declared.cond.Op.TheVariants.{Eq, Ne, Lt, Le, Gt, Ge}
use Rattle.lv_schema.specs.declared.cond.Operand.{Operand}
use Rattle.lv_schema.specs.declared.logic.Truth.TheVariants.{No, Yes}
use Rattle.lv_schema.specs.Truth.{is_yes, op_holds, operand_value}
use Rattle.lv_schema.specs.Tuples.{Tuple}
use Rattle.lv_schema.proofs.TruthLaws.{truth-And, truth-Cmp}
use Rattle.lv_effect.specs.declared.bounding.Side.{Side}
use Rattle.lv_effect.specs.declared.bounding.Side.TheVariants.{Low, High}
use Rattle.lv_effect.specs.Bounds.{Bounds, IsWithin, PartsBound, SidesBound, bound_in, bound_of, bound_step, bounds, other_side}
use Rattle.lv_effect.specs.FixedKeys.{literal_value}
use Rattle.lv_effect.proofs.FixedKeys.{all_yes}

-- ---- a comparison
abbrev IsOn : Side → Ordering → Type 0
IsOn Low o = is_lt o ≡ false
IsOn High o = is_gt o ≡ false

on_side : (side : Side) (op : Op) (o : Ordering) → bounds side op ≡ true → op_holds op o ≡ true → IsOn side o
on_side Low Eq Less b h = cc
on_side Low Ne Less b h = cc
on_side Low Lt Less b h = cc
on_side Low Le Less b h = cc
on_side Low Gt Less b h = cc
on_side Low Ge Less b h = cc
on_side Low op Equal b h = refl
on_side Low op Greater b h = refl
on_side High op Less b h = refl
on_side High op Equal b h = refl
on_side High Eq Greater b h = cc
on_side High Ne Greater b h = cc
on_side High Lt Greater b h = cc
on_side High Le Greater b h = cc
on_side High Gt Greater b h = cc
on_side High Ge Greater b h = cc

turned_low : (o : Ordering) → is_gt o ≡ false → is_lt (ordering_reverse o) ≡ false
turned_low Less h = refl
turned_low Equal h = refl
turned_low Greater h = cc

turned_high : (o : Ordering) → is_lt o ≡ false → is_gt (ordering_reverse o) ≡ false
turned_high Less h = cc
turned_high Equal h = refl
turned_high Greater h = refl

turned : (side : Side) (bound v : Value) → IsOn (other_side side) (value_cmp bound v) → IsWithin side bound v
turned Low bound v h = ap is_lt (value_total.antisymm v bound) ∙ turned_low (value_cmp bound v) h
turned High bound v h = ap is_gt (value_total.antisymm v bound) ∙ turned_high (value_cmp bound v) h

pub right_bounds : (side : Side) (op : Op) (column : ℕ) (left right : Operand) → ((row : List Value) → operand_value (row ∷ []) right ≡ value_in row column)
    → ((tuple : Tuple) → operand_value tuple left ≡ literal_value left) → bounds (other_side side) op ≡ true → SidesBound side column op left right (literal_value left)
right_bounds side op column left right r l b row h =
    turned side (literal_value left) (value_in row column)
    (on_side (other_side side) op (value_cmp (literal_value left) (value_in row column)) b (ap (op_holds op) (ap₂ value_cmp (sym (l (row ∷ []))) (sym (r row))) ∙ h))

met : (b : Bool) → is_yes (cond b Yes No) ≡ true → b ≡ true
met true h = refl
met false h = cc

cmp_bounds : (side : Side) (column : ℕ) (op : Op) (left right : Operand) (v : Value) → SidesBound side column op left right v → Bounds side column (Cmp op left right) v
cmp_bounds side column op left right v s row h = s row (met _ (ap is_yes (sym (truth-Cmp op left right (row ∷ []))) ∙ h))

pub all_cmp_bounds : (side : Side) (column : ℕ) (op : Op) (left right : Operand) (c : Cond) (o : Option (Bor Operand)) → c ≡ Cmp op left right
    → MatchOption o (Unit {0}) (λ literal. SidesBound side column op left right (literal_value literal.now)) → MatchOption o (Unit {0}) (λ literal. Bounds side column c (literal_value literal.now))
all_cmp_bounds side column op left right c None is h = tt
all_cmp_bounds side column op left right c (Some literal) is h =
    subst (λ x. Bounds side column x (literal_value literal.now)) (sym is) (cmp_bounds side column op left right (literal_value literal.now) h)

-- ---- parts that all hold
parts_bound : (side : Side) (column : ℕ) (parts : List Cond) (v : Value) → PartsBound side column parts v → Bounds side column (And parts) v
parts_bound side column parts v f row h = f row (all_yes parts (row ∷ []) (ap is_yes (sym (truth-And parts (row ∷ []))) ∙ h))

pub all_parts_bound : (side : Side) (column : ℕ) (seen parts : List Cond) (c : Cond) (o : Option (Bor Operand)) → seen ≡ parts → c ≡ And parts
    → MatchOption o (Unit {0}) (λ literal. PartsBound side column seen (literal_value literal.now)) → MatchOption o (Unit {0}) (λ literal. Bounds side column c (literal_value literal.now))
all_parts_bound side column seen parts c None same is h = tt
all_parts_bound side column seen parts c (Some literal) same is h =
    subst (λ x. Bounds side column x (literal_value literal.now)) (sym is)
    (parts_bound side column parts (literal_value literal.now) (subst (λ ps. PartsBound side column ps (literal_value literal.now)) same h))

-- ---- what a condition says
pub bound-And : (side : Side) (column : ℕ) (parts : List Cond) → bound_of side (And parts) column ≡ bound_in side parts column
bound-And side column parts = ap (λ c. bound_of side c column) (sym (rolls-And parts)) ∙ fold-roll-Cond (Option Value) (bound_step side column) (Cond-F.And parts)
