-- What a statement names, each kind of thing as a list in the order of its places.
use Rattle.std.specs.Prelude.{List, [], ◌∷◌, ◌++◌, map, Option, Some, None}
use Rattle.std.specs.List.{flat_map}
use Rattle.lv_parser.specs.declared.tree.Assign.{Assign}
use Rattle.lv_parser.specs.declared.tree.AssignValue.{AssignValue}
use Rattle.lv_parser.specs.declared.tree.AssignValue.TheVariants as value
use Rattle.lv_parser.specs.declared.tree.ColName.{ColName}
use Rattle.lv_parser.specs.declared.tree.CondTree.{CondTree}
use Rattle.lv_parser.specs.declared.tree.CondTree.TheOpen.{CondTree-F, True, Cmp, And, Or, Not}
use Rattle.lv_parser.specs.declared.tree.CondTree.TheFolds.{fold-CondTree}
use Rattle.lv_parser.specs.declared.tree.ItemTree.{ItemTree}
use Rattle.lv_parser.specs.declared.tree.ItemTree.TheVariants as item
use Rattle.lv_parser.specs.declared.tree.Named.{Named}
use Rattle.lv_parser.specs.declared.tree.OperandTree.{OperandTree}
use Rattle.lv_parser.specs.declared.tree.OperandTree.TheVariants as side
use Rattle.lv_parser.specs.declared.tree.Stmt.{Stmt}
use Rattle.lv_parser.specs.declared.tree.Stmt.TheVariants.{CreateView, Update, Delete, Select}

-- lists, one after another
abbrev pub joined : {A : Type 0} → List (List A) → List A
joined [] = []
joined (xs ∷ more) = xs ++ joined more

-- the two sides of a comparison
abbrev pub Sides : Type 0
Sides = OperandTree × OperandTree

-- the comparisons of a condition
abbrev pub sides_step : CondTree-F (List Sides) → List Sides
sides_step True = []
sides_step (Cmp op left right) = (left, right) ∷ []
sides_step (And parts) = joined parts
sides_step (Or parts) = joined parts
sides_step (Not part) = part

abbrev pub sides_of : CondTree → List Sides
sides_of = fold-CondTree (List Sides) sides_step

-- the comparisons of a statement
abbrev pub comparisons_in : Stmt → List Sides
comparisons_in (CreateView name items refs c groups) = sides_of c
comparisons_in (Update table sets c) = sides_of c
comparisons_in (Delete table c) = sides_of c
comparisons_in (Select list refs c order) = sides_of c
comparisons_in other = []

-- the columns of one side, and of comparisons
abbrev pub side_columns : OperandTree → List ColName
side_columns (side.Column col) = col ∷ []
side_columns (side.Literal l) = []

abbrev pub compared_columns : List Sides → List ColName
compared_columns = flat_map (λ sides. side_columns sides.0 ++ side_columns sides.1)

-- a name that stands alone as a column
abbrev pub unqualified : Named → ColName
unqualified name = record { qualifier = None; name = name }

-- the columns that an item lists
abbrev pub item_columns : ItemTree → List ColName
item_columns (item.Plain col output) = col ∷ []
item_columns (item.Sum col output) = col ∷ []
item_columns (item.Count output) = []

-- the column that is set, and the one that it is set from
abbrev pub source_columns : AssignValue → List ColName
source_columns (value.Literal l) = []
source_columns (value.Column col) = unqualified col ∷ []
source_columns (value.Plus col amount) = unqualified col ∷ []

abbrev pub assign_columns : Assign → List ColName
assign_columns a = unqualified a.column ∷ source_columns a.value

-- `*` names no column
abbrev pub listed_columns : Option (List ColName) → List ColName
listed_columns None = []
listed_columns (Some cols) = cols

-- the columns that a statement names of its aliases
abbrev pub columns_in : Stmt → List ColName
columns_in (CreateView name items refs c groups) = flat_map item_columns items ++ (compared_columns (sides_of c) ++ groups)
columns_in (Update table sets c) = flat_map assign_columns sets ++ compared_columns (sides_of c)
columns_in (Delete table c) = compared_columns (sides_of c)
columns_in (Select list refs c order) = listed_columns list ++ (compared_columns (sides_of c) ++ map (λ by. by.0) order)
columns_in other = []
