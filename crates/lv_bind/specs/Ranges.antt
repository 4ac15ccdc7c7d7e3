-- Fault 12, as far as it is seen in the statement: numbers in VALUES and SET that are outside signed 64 bits. The number
-- that SET adds to a column is none of them.
use Rattle.std.specs.Prelude.{ℤ, List, []}
use Rattle.std.specs.List.{flat_map}
use Rattle.lv_values.specs.declared.value.Value.{Value}
use Rattle.lv_values.specs.declared.value.Value.TheVariants as v
use Rattle.lv_parser.specs.declared.tree.AssignValue.{AssignValue}
use Rattle.lv_parser.specs.declared.tree.AssignValue.TheVariants as value
use Rattle.lv_parser.specs.declared.tree.Stmt.{Stmt}
use Rattle.lv_parser.specs.declared.tree.Stmt.TheVariants.{Insert, Update}
use Rattle.lv_parser.specs.declared.tree.Tuple.{Tuple}
use Rattle.lv_schema.specs.Databases.{is_int}
use Rattle.lv_bind.specs.Sources.{shown_unless}

abbrev pub wide_value : Value → List ℤ
wide_value (v.Num n) = shown_unless (is_int n) n
wide_value (v.Text t) = []

abbrev pub wide_tuple : Tuple → List ℤ
wide_tuple t = flat_map (λ l. wide_value l.value) t.values

abbrev pub wide_assign : AssignValue → List ℤ
wide_assign (value.Literal l) = wide_value l.value
wide_assign (value.Column col) = []
wide_assign (value.Plus col amount) = []

abbrev pub ranges : Stmt → List ℤ
ranges (Insert table tuples) = flat_map wide_tuple tuples
ranges (Update table sets c) = flat_map (λ a. wide_assign a.value) sets
ranges other = []
