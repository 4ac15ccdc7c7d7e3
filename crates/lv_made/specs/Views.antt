-- The rows of tables at a commit, and a view that is made over them.
use Rattle.std.specs.Prelude.{◌≡◌, ℕ, List, map}
use Rattle.lv_values.specs.declared.value.Value.{Value}
use Rattle.lv_schema.specs.declared.view.ViewDef.{ViewDef}
use Rattle.lv_schema.specs.Differences.{groups_over}
use Rattle.lv_schema.specs.Groups.{view_rows_over}
use Rattle.lv_viewrows.specs.Kept.{ViewKept}
use Rattle.lv_stands.specs.Kept.{shown}
use Rattle.lv_stands.specs.Moves.{versions_made}
use Rattle.lv_base.specs.Bases.{BaseRoom, table_in}

-- the rows of a table at a commit, and those of the table of each alias
abbrev pub rows_at : BaseRoom → ℕ → ℕ → List (List Value)
rows_at b commit t = shown commit (table_in b.tables t).versions

abbrev pub parts_at : BaseRoom → ℕ → List ℕ → List (List (List Value))
parts_at b commit tables = map (rows_at b commit) tables

-- the rows of a view, or its groups, over these rows of its aliases, from a commit on
pub record IsMadeView (def : ViewDef) (number : ℕ) (parts : List (List (List Value))) (v : ViewKept) : Type 0 where
  pub def_is : v.def ≡ def
  pub at_is : v.at ≡ number
  pub versions_are : v.versions ≡ versions_made def (view_rows_over def parts) (groups_over def parts)
