-- Trees without their places.
use Rattle.std.specs.Prelude.{Bool, map, Option, option_map}
use Rattle.lv_parser.specs.declared.tree.Named.{Named}
use Rattle.lv_parser.specs.declared.tree.ColName.{ColName}
use Rattle.lv_parser.specs.declared.tree.Literal.{Literal}
use Rattle.lv_parser.specs.declared.tree.Tuple.{Tuple}
use Rattle.lv_parser.specs.declared.tree.ColumnTree.{ColumnTree}
use Rattle.lv_parser.specs.declared.tree.ItemTree.{ItemTree}
use Rattle.lv_parser.specs.declared.tree.ItemTree.TheVariants as i
use Rattle.lv_parser.specs.declared.tree.RefTree.{RefTree}
use Rattle.lv_parser.specs.declared.tree.Assign.{Assign}
use Rattle.lv_parser.specs.declared.tree.AssignValue.{AssignValue}
use Rattle.lv_parser.specs.declared.tree.AssignValue.TheVariants as a
use Rattle.lv_parser.specs.declared.tree.OperandTree.{OperandTree}
use Rattle.lv_parser.specs.declared.tree.OperandTree.TheVariants as o
use Rattle.lv_parser.specs.declared.tree.CondTree.{CondTree}
use Rattle.lv_parser.specs.declared.tree.CondTree.TheVariants as c
use Rattle.lv_parser.specs.declared.tree.CondTree.TheOpen.{CondTree-F}
use Rattle.lv_parser.specs.declared.tree.CondTree.TheFolds.{fold-CondTree}
use Rattle.lv_parser.specs.declared.tree.Stmt.{Stmt}
use Rattle.lv_parser.specs.declared.tree.Stmt.TheVariants as st

abbrev pub bare_name : Named → Named
bare_name n = record { name = n.name; byte = 0 }

abbrev pub bare_name_if : Option Named → Option Named
bare_name_if = option_map bare_name

abbrev pub bare_col : ColName → ColName
bare_col c = record { qualifier = bare_name_if c.qualifier; name = bare_name c.name }

abbrev pub bare_literal : Literal → Literal
bare_literal l = record { value = l.value; byte = 0 }

abbrev pub bare_tuple : Tuple → Tuple
bare_tuple t = record { byte = 0; values = map bare_literal t.values }

abbrev pub bare_operand : OperandTree → OperandTree
bare_operand (o.Column c) = o.Column (bare_col c)
bare_operand (o.Literal l) = o.Literal (bare_literal l)

-- one level, whose parts have no places
abbrev pub bare_step : CondTree-F CondTree → CondTree
bare_step CondTree-F.True = c.True
bare_step (CondTree-F.Cmp op left right) = c.Cmp op (bare_operand left) (bare_operand right)
bare_step (CondTree-F.And parts) = c.And parts
bare_step (CondTree-F.Or parts) = c.Or parts
bare_step (CondTree-F.Not part) = c.Not part

unfoldable pub bare_cond : CondTree → CondTree
bare_cond = fold-CondTree CondTree bare_step

abbrev pub bare_column : ColumnTree → ColumnTree
bare_column c = record { name = bare_name c.name; kind = c.kind }

abbrev pub bare_item : ItemTree → ItemTree
bare_item (i.Plain col output) = i.Plain (bare_col col) (bare_name_if output)
bare_item (i.Sum col output) = i.Sum (bare_col col) (bare_name output)
bare_item (i.Count output) = i.Count (bare_name output)

abbrev pub bare_ref : RefTree → RefTree
bare_ref r = record { name = bare_name r.name; alias = bare_name_if r.alias }

abbrev pub bare_value : AssignValue → AssignValue
bare_value (a.Literal l) = a.Literal (bare_literal l)
bare_value (a.Column column) = a.Column (bare_name column)
bare_value (a.Plus column amount) = a.Plus (bare_name column) amount

abbrev pub bare_assign : Assign → Assign
bare_assign x = record { column = bare_name x.column; value = bare_value x.value }

abbrev pub bare_ord : ColName × Bool → ColName × Bool
bare_ord x = (bare_col x.0, x.1)

abbrev pub bare : Stmt → Stmt
bare (st.CreateTable table columns key) = st.CreateTable (bare_name table) (map bare_column columns) (map bare_name key)
bare (st.CreateView view items refs cond groups) = st.CreateView (bare_name view) (map bare_item items) (map bare_ref refs) (bare_cond cond) (map bare_col groups)
bare (st.Insert table tuples) = st.Insert (bare_name table) (map bare_tuple tuples)
bare (st.Update table sets cond) = st.Update (bare_name table) (map bare_assign sets) (bare_cond cond)
bare (st.Delete table cond) = st.Delete (bare_name table) (bare_cond cond)
bare (st.Select listed refs cond order) = st.Select (option_map (map bare_col) listed) (map bare_ref refs) (bare_cond cond) (map bare_ord order)
bare st.Begin = st.Begin
bare st.Commit = st.Commit
bare st.Rollback = st.Rollback
bare st.ShowTasks = st.ShowTasks
