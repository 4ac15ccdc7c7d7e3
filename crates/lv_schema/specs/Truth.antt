-- The truth of a condition on a tuple, in SQL's three-valued logic. Nothing is unknown as long as there are no
-- nulls; with them a comparison that has a null on a side is, and no other clause changes.
use Rattle.std.specs.Prelude.{Bool, true, false, cond, List, [], ◌∷◌}
use Rattle.std.specs.Ordering.{is_eq, is_ne, is_lt, is_le, is_gt, is_ge}
use Rattle.std.specs.declared.cmp.Ordering.{Ordering}
use Rattle.lv_values.specs.declared.value.Value.{Value}
use Rattle.lv_values.specs.declared.value.Value.TheVariants.{Num, Text as Word}
use Rattle.lv_values.specs.Order.{value_cmp}
use Rattle.lv_schema.specs.declared.cond.Cond.{Cond}
use Rattle.lv_schema.specs.declared.cond.Cond.TheOpen.{Cond-F, True, Cmp, And, Or, Not}
use Rattle.lv_schema.specs.declared.cond.Cond.TheFolds.{fold-Cond}
use Rattle.lv_schema.specs.declared.cond.Op.{Op}
use Rattle.lv_schema.specs.declared.cond.Op.TheVariants.{Eq, Ne, Lt, Le, Gt, Ge}
use Rattle.lv_schema.specs.declared.cond.Operand.{Operand}
use Rattle.lv_schema.specs.declared.cond.Operand.TheVariants.{Column, Number, Text}
use Rattle.lv_schema.specs.declared.logic.Truth.{Truth}
use Rattle.lv_schema.specs.declared.logic.Truth.TheVariants.{No, Unknown, Yes}
use Rattle.lv_schema.specs.Tuples.{Tuple, value_at}

abbrev pub operand_value : Tuple → Operand → Value
operand_value tuple (Column col) = value_at tuple col
operand_value tuple (Number n) = Num n
operand_value tuple (Text t) = Word t

-- whether two values in this order meet the sign
abbrev pub op_holds : Op → Ordering → Bool
op_holds Eq o = is_eq o
op_holds Ne o = is_ne o
op_holds Lt o = is_lt o
op_holds Le o = is_le o
op_holds Gt o = is_gt o
op_holds Ge o = is_ge o

-- a comparison
abbrev pub compared : Op → Value → Value → Truth
compared op a b = cond (op_holds op (value_cmp a b)) Yes No

abbrev pub opposite : Truth → Truth
opposite No = Yes
opposite Unknown = Unknown
opposite Yes = No

abbrev pub both : Truth → Truth → Truth
both No b = No
both Yes b = b
both Unknown No = No
both Unknown Unknown = Unknown
both Unknown Yes = Unknown

abbrev pub either : Truth → Truth → Truth
either Yes b = Yes
either No b = b
either Unknown No = Unknown
either Unknown Unknown = Unknown
either Unknown Yes = Yes

-- And of a list: no where a part is no, else unknown where one is unknown, else yes
abbrev pub all_of : List Truth → Truth
all_of [] = Yes
all_of (t ∷ ts) = both t (all_of ts)

-- Or of a list: yes where a part is yes, else unknown where one is unknown, else no
abbrev pub any_of : List Truth → Truth
any_of [] = No
any_of (t ∷ ts) = either t (any_of ts)

-- one node, with the truth of each part in its place
abbrev pub truth_step : Tuple → Cond-F Truth → Truth
truth_step tuple True = Yes
truth_step tuple (Cmp op left right) = compared op (operand_value tuple left) (operand_value tuple right)
truth_step tuple (And parts) = all_of parts
truth_step tuple (Or parts) = any_of parts
truth_step tuple (Not part) = opposite part

-- what a condition says of a tuple
abbrev pub truth : Cond → Tuple → Truth
truth c tuple = fold-Cond Truth (truth_step tuple) c

-- a tuple is kept where the condition says yes
abbrev pub is_yes : Truth → Bool
is_yes Yes = true
is_yes Unknown = false
is_yes No = false

abbrev pub holds : Cond → Tuple → Bool
holds c tuple = is_yes (truth c tuple)
