-- The difference of a view over two lists of rows for each alias: what becomes of each of its rows or groups.
use Rattle.std.specs.Prelude.{pos, ◌-ℤ◌, Bool, not, if◌then◌else◌, ◌&&◌, List, [], ◌++◌, map, filter, length, Option, Some, None}
use Rattle.std.specs.List.{filter_map, list_all}
use Rattle.std.specs.Int.{int_wrap, w128}
use Rattle.std.specs.Ordering.{int_eq}
use Rattle.lv_values.specs.declared.value.Value.{Value}
use Rattle.lv_values.specs.Order.{row_cmp, row_eq}
use Rattle.lv_schema.specs.declared.cond.Col.{Col}
use Rattle.lv_schema.specs.declared.signed.SignedRow.{SignedRow}
use Rattle.lv_schema.specs.declared.view.Item.{Item}
use Rattle.lv_schema.specs.declared.view.Item.TheVariants.{Plain, Sum, Count}
use Rattle.lv_schema.specs.declared.view.ViewDef.{ViewDef}
use Rattle.lv_schema.specs.Databases.{Db}
use Rattle.lv_schema.specs.Groups.{total, number_at}
use Rattle.lv_schema.specs.JoinViews.{parts_of, selected, plain_columns}
use Rattle.lv_schema.specs.Once.{once}
use Rattle.lv_schema.specs.Tuples.{Tuple, listed}

-- the columns that a list sums
abbrev pub summed_column : Item → Option Col
summed_column (Plain col name) = None
summed_column (Sum col name) = Some col
summed_column (Count name) = None

abbrev pub summed_columns : ViewDef → List Col
summed_columns view = filter_map summed_column view.items

-- the columns that tell the rows or groups of a view apart: those of GROUP BY, or those that a join view lists
abbrev pub key_columns : ViewDef → List Col
key_columns view = if view.grouped then view.groups else plain_columns view.items

abbrev pub key_of : ViewDef → Tuple → List Value
key_of view tuple = listed (key_columns view) tuple

-- the tuples of one row or group
abbrev pub tuples_of : ViewDef → List Value → List Tuple → List Tuple
tuples_of view row kept = filter (λ tuple. row_eq row (key_of view tuple)) kept

-- what becomes of one row or group: how many more tuples it has, and by how much each sum is more, wrapped to 128 bits
abbrev pub change_of : ViewDef → List Tuple → List Tuple → List Value → SignedRow
change_of view was is row =
    let lost = tuples_of view row was in
    let gained = tuples_of view row is in
    record {
      row = row;
      count = pos (length gained) -ℤ pos (length lost);
      sums = map (λ col. int_wrap w128 (total (number_at col) gained -ℤ total (number_at col) lost)) (summed_columns view);
    }

-- whether one of its numbers is not 0
abbrev pub is_change : SignedRow → Bool
is_change s = not (int_eq s.count (pos 0) && list_all (λ n. int_eq n (pos 0)) s.sums)

-- what becomes of these rows, each once, in ascending order, without those that stay
abbrev pub changes : (List Value → SignedRow) → List (List Value) → List SignedRow
changes change rows = map change (once row_cmp (filter (λ row. is_change (change row)) rows))

-- the view over `after` less the view over `before`
abbrev pub difference : ViewDef → List (List (List Value)) → List (List (List Value)) → List SignedRow
difference view before after =
    let was = selected view.cond before in
    let is = selected view.cond after in
    changes (change_of view was is) (map (key_of view) (was ++ is))

-- of two databases
abbrev pub view_difference : ViewDef → Db → Db → List SignedRow
view_difference view db db' = difference view (parts_of view.tables db) (parts_of view.tables db')

-- the rows or groups of a view with their numbers: the difference from nothing
abbrev pub groups_over : ViewDef → List (List (List Value)) → List SignedRow
groups_over view parts = let is = selected view.cond parts in changes (change_of view [] is) (map (key_of view) is)

abbrev pub groups_of : ViewDef → Db → List SignedRow
groups_of view db = groups_over view (parts_of view.tables db)
