-- The answer of a query: of the tuples that its condition keeps the listed columns, equal rows as often as they occur,
-- in the order of the ORDER BY columns, each up or down, and then of the rows themselves.
use Rattle.std.specs.Prelude.{Bool, true, false, List, map}
use Rattle.lv_values.specs.declared.value.Value.{Value}
use Rattle.lv_values.specs.Ascending.{ascending}
use Rattle.lv_schema.specs.declared.directed.Directed.{Directed}
use Rattle.lv_schema.specs.declared.directed.Directed.TheVariants.{Up, Down}
use Rattle.lv_schema.specs.declared.directed.SortedRow.{SortedRow}
use Rattle.lv_schema.specs.declared.query.OrderCol.{OrderCol}
use Rattle.lv_schema.specs.declared.query.Query.{Query}
use Rattle.lv_schema.specs.declared.query.Rel.{Rel}
use Rattle.lv_schema.specs.declared.query.Rel.TheVariants.{Table, View}
use Rattle.lv_schema.specs.declared.view.ViewDef.{ViewDef}
use Rattle.lv_schema.specs.AnswerOrder.{sorted_cmp}
use Rattle.lv_schema.specs.Databases.{Db, rows_of}
use Rattle.lv_schema.specs.Groups.{view_rows}
use Rattle.lv_schema.specs.JoinViews.{selected}
use Rattle.lv_schema.specs.Tuples.{Tuple, value_at, listed}
use Rattle.lv_schema.specs.World.{view_at}

-- a value in the direction of its column
abbrev pub directed : Bool → Value → Directed
directed true v = Down v
directed false v = Up v

abbrev pub order_value : Tuple → OrderCol → Directed
order_value tuple by = directed by.descending (value_at tuple by.col)

-- the listed row, with the values of the ORDER BY columns
abbrev pub sorted_row : Query → Tuple → SortedRow
sorted_row query tuple = record { order = map (order_value tuple) query.order; row = listed query.list tuple }

-- the answer over these rows of its aliases
abbrev pub answer_over : Query → List (List (List Value)) → List (List Value)
answer_over query parts = map (λ r. r.row) (ascending sorted_cmp (map (sorted_row query) (selected query.cond parts)))

-- the rows of a table, or of a view by its definition
abbrev pub rel_rows : List ViewDef → Db → Rel → List (List Value)
rel_rows views db (Table t) = rows_of db t
rel_rows views db (View v) = view_rows (view_at views v) db

-- the answer over a database
abbrev pub answer_of : List ViewDef → Query → Db → List (List Value)
answer_of views query db = answer_over query (map (rel_rows views db) query.rels)
