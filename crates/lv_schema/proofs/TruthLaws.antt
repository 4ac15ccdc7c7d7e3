-- The truth of a condition, by the kind of the condition.
use Rattle.std.proofs.Common.{◌≡◌, List, map, sym, ap, ◌∙◌}
use Rattle.lv_schema.specs.declared.cond.Cond.{Cond}
use Rattle.lv_schema.specs.declared.cond.Cond.TheOpen.{Cond-F}
use Rattle.lv_schema.specs.declared.cond.Cond.TheFolds.{fold-roll-Cond}
use Rattle.lv_schema.specs.declared.cond.Cond.TheVariants.{True, Cmp, And, Or, Not, rolls-True, rolls-Cmp, rolls-And, rolls-Or, rolls-Not}
use Rattle.lv_schema.specs.declared.cond.Op.{Op}
use Rattle.lv_schema.specs.declared.cond.Operand.{Operand}
use Rattle.lv_schema.specs.declared.logic.Truth.{Truth}
use Rattle.lv_schema.specs.declared.logic.Truth.TheVariants.{Yes}
use Rattle.lv_schema.specs.Tuples.{Tuple}
use Rattle.lv_schema.specs.Truth.{operand_value, compared, opposite, all_of, any_of, truth_step, truth}

pub truth-True : (tuple : Tuple) → truth True tuple ≡ Yes
truth-True tuple = ap (λ c. truth c tuple) (sym rolls-True) ∙ fold-roll-Cond Truth (truth_step tuple) Cond-F.True

pub truth-Cmp : (op : Op) (left right : Operand) (tuple : Tuple) → truth (Cmp op left right) tuple ≡ compared op (operand_value tuple left) (operand_value tuple right)
truth-Cmp op left right tuple = ap (λ c. truth c tuple) (sym (rolls-Cmp op left right)) ∙ fold-roll-Cond Truth (truth_step tuple) (Cond-F.Cmp op left right)

pub truth-And : (parts : List Cond) (tuple : Tuple) → truth (And parts) tuple ≡ all_of (map (λ c. truth c tuple) parts)
truth-And parts tuple = ap (λ c. truth c tuple) (sym (rolls-And parts)) ∙ fold-roll-Cond Truth (truth_step tuple) (Cond-F.And parts)

pub truth-Or : (parts : List Cond) (tuple : Tuple) → truth (Or parts) tuple ≡ any_of (map (λ c. truth c tuple) parts)
truth-Or parts tuple = ap (λ c. truth c tuple) (sym (rolls-Or parts)) ∙ fold-roll-Cond Truth (truth_step tuple) (Cond-F.Or parts)

pub truth-Not : (part : Cond) (tuple : Tuple) → truth (Not part) tuple ≡ opposite (truth part tuple)
truth-Not part tuple = ap (λ c. truth c tuple) (sym (rolls-Not part)) ∙ fold-roll-Cond Truth (truth_step tuple) (Cond-F.Not part)
