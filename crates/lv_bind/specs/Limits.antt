-- Fault 6: limits. Of each kind of statement, in the order in which they are shown, the limits that it may pass, each
-- with the sizes that must not be larger.
use Rattle.std.specs.Prelude.{ℕ, suc, ◌+◌, Bool, not, nat_lt, List, [], ◌∷◌, ◌++◌, map, length, Option, Some, None}
use Rattle.std.specs.List.{list_any, flat_map}
use Rattle.lv_values.specs.declared.value.Value.{Value}
use Rattle.lv_values.specs.declared.value.Value.TheVariants as v
use Rattle.lv_parser.specs.declared.tree.AssignValue.{AssignValue}
use Rattle.lv_parser.specs.declared.tree.AssignValue.TheVariants as value
use Rattle.lv_parser.specs.declared.tree.ColName.{ColName}
use Rattle.lv_parser.specs.declared.tree.ColumnTree.{ColumnTree}
use Rattle.lv_parser.specs.declared.tree.ItemTree.{ItemTree}
use Rattle.lv_parser.specs.declared.tree.Named.{Named}
use Rattle.lv_parser.specs.declared.tree.OperandTree.{OperandTree}
use Rattle.lv_parser.specs.declared.tree.OperandTree.TheVariants as side
use Rattle.lv_parser.specs.declared.tree.RefTree.{RefTree}
use Rattle.lv_parser.specs.declared.tree.Stmt.{Stmt}
use Rattle.lv_parser.specs.declared.tree.Stmt.TheVariants.{CreateTable, CreateView, Insert, Update, Delete, Select, Begin, Commit, Rollback, ShowTasks}
use Rattle.lv_parser.specs.declared.tree.Tuple.{Tuple}
use Rattle.lv_schema.specs.declared.fault.Fault.{Fault}
use Rattle.lv_schema.specs.declared.fault.Fault.TheVariants.{Limit}
use Rattle.lv_schema.specs.declared.fault.LimitKind.{LimitKind}
use Rattle.lv_schema.specs.declared.fault.LimitKind.TheVariants as limit
use Rattle.lv_schema.specs.declared.table.TableDef.{TableDef}
use Rattle.lv_schema.specs.declared.view.ViewDef.{ViewDef}
use Rattle.lv_bind.specs.declared.limits.Measure.{Measure}
use Rattle.lv_bind.specs.InUse.{output_of}
use Rattle.lv_bind.specs.Pieces.{Sides, comparisons_in}
use Rattle.lv_bind.specs.Sources.{Alias, alias_of, sources_of, shown_unless}

-- a limit of so many, and whether one of the sizes is larger
abbrev pub measured : LimitKind → ℕ → List ℕ → Measure
measured which most sizes = record { which = which; most = most; passed = list_any (nat_lt most) sizes }

abbrev pub passed_limits : List Measure → List Fault
passed_limits measures = flat_map (λ m. shown_unless (not m.passed) (Limit m.which m.most)) measures

-- the text that a value is, if it is one
abbrev pub value_texts : Value → List (List ℕ)
value_texts (v.Num n) = []
value_texts (v.Text t) = t ∷ []

abbrev pub tuple_texts : Tuple → List (List ℕ)
tuple_texts t = flat_map (λ l. value_texts l.value) t.values

abbrev pub assign_texts : AssignValue → List (List ℕ)
assign_texts (value.Literal l) = value_texts l.value
assign_texts (value.Column col) = []
assign_texts (value.Plus col amount) = []

abbrev pub side_texts : OperandTree → List (List ℕ)
side_texts (side.Column col) = []
side_texts (side.Literal l) = value_texts l.value

abbrev pub compared_texts : List Sides → List (List ℕ)
compared_texts = flat_map (λ sides. side_texts sides.0 ++ side_texts sides.1)

abbrev pub lengths : List (List ℕ) → List ℕ
lengths = map length

-- the names that aliases go by, and the output names of a view's list
abbrev pub alias_names : List RefTree → List (List ℕ)
alias_names refs = map (λ r. (alias_of r).name) refs

abbrev pub output_names : List ItemTree → List (List ℕ)
output_names items = map (λ i. (output_of i).name) items

-- the columns of all aliases together, which `*` lists
abbrev pub column_total : List Alias → ℕ
column_total [] = 0
column_total (s ∷ more) = length s.columns + column_total more

abbrev pub list_length : List Alias → Option (List ColName) → ℕ
list_length sources None = column_total sources
list_length sources (Some cols) = length cols

-- of CREATE TABLE, on a schema of so many tables
abbrev pub table_measures : ℕ → Named → List ColumnTree → List Measure
table_measures tables name cols =
    measured limit.Name 32 (lengths (name.name ∷ map (λ c. c.name.name) cols))
    ∷ measured limit.Tables 32 (suc tables ∷ [])
    ∷ measured limit.Columns 16 (length cols ∷ []) ∷ []

-- of CREATE VIEW, on a schema of so many views
abbrev pub view_measures : ℕ → List Sides → Named → List ItemTree → List RefTree → List Measure
view_measures views sides name items refs =
    measured limit.Name 32 (lengths (name.name ∷ (output_names items ++ alias_names refs)))
    ∷ measured limit.Views 32 (suc views ∷ [])
    ∷ measured limit.Columns 16 (length items ∷ [])
    ∷ measured limit.Aliases 4 (length refs ∷ [])
    ∷ measured limit.Comparisons 16 (length sides ∷ [])
    ∷ measured limit.Text 256 (lengths (compared_texts sides)) ∷ []

-- of SELECT
abbrev pub query_measures : List Alias → List Sides → Option (List ColName) → List RefTree → List (ColName × Bool) → List Measure
query_measures sources sides list refs order =
    measured limit.Name 32 (lengths (alias_names refs))
    ∷ measured limit.Aliases 4 (length refs ∷ [])
    ∷ measured limit.Comparisons 16 (length sides ∷ [])
    ∷ measured limit.Text 256 (lengths (compared_texts sides))
    ∷ measured limit.List 64 (list_length sources list ∷ [])
    ∷ measured limit.Order 16 (length order ∷ []) ∷ []

-- a statement with these aliases and comparisons, on a schema of so many tables and views
abbrev pub measures : ℕ → ℕ → List Alias → List Sides → Stmt → List Measure
measures tables views sources sides (CreateTable name cols key) = table_measures tables name cols
measures tables views sources sides (CreateView name items refs c groups) = view_measures views sides name items refs
measures tables views sources sides (Insert table tuples) =
    measured limit.Text 256 (lengths (flat_map tuple_texts tuples))
    ∷ measured limit.Tuples 1000 (length tuples ∷ []) ∷ []
measures tables views sources sides (Update table sets c) =
    measured limit.Comparisons 16 (length sides ∷ [])
    ∷ measured limit.Text 256 (lengths (flat_map (λ a. assign_texts a.value) sets ++ compared_texts sides)) ∷ []
measures tables views sources sides (Delete table c) =
    measured limit.Comparisons 16 (length sides ∷ [])
    ∷ measured limit.Text 256 (lengths (compared_texts sides)) ∷ []
measures tables views sources sides (Select list refs c order) = query_measures sources sides list refs order
measures tables views sources sides Begin = []
measures tables views sources sides Commit = []
measures tables views sources sides Rollback = []
measures tables views sources sides ShowTasks = []

abbrev pub limits : List TableDef → List ViewDef → Stmt → List Fault
limits tables views stmt = passed_limits (measures (length tables) (length views) (sources_of tables views stmt) (comparisons_in stmt) stmt)
