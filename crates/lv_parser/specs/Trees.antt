-- What the rules make of what they read.
use Rattle.std.specs.Prelude.{ℤ, pos, ◌-ℤ◌, List, [], ◌∷◌, map, Option, Some, None}
use Rattle.lv_values.specs.declared.value.Value.TheVariants as v
use Rattle.lv_lexer.specs.declared.terminals.Terminal.{Terminal}
use Rattle.lv_parser.specs.declared.sources.Joined.{Joined}
use Rattle.lv_parser.specs.declared.tree.Named.{Named}
use Rattle.lv_parser.specs.declared.tree.ColName.{ColName}
use Rattle.lv_parser.specs.declared.tree.Literal.{Literal}
use Rattle.lv_parser.specs.declared.tree.AssignValue.{AssignValue}
use Rattle.lv_parser.specs.declared.tree.AssignValue.TheVariants as a
use Rattle.lv_parser.specs.declared.tree.RefTree.{RefTree}
use Rattle.lv_parser.specs.declared.tree.CondTree.{CondTree}
use Rattle.lv_parser.specs.declared.tree.CondTree.TheVariants as c

abbrev pub named_of : Terminal → Named
named_of t = record { name = t.text; byte = t.byte }

-- what stands alone, or before and behind a point
abbrev pub column_of : Named → Option Named → ColName
column_of first None = record { qualifier = None; name = first }
column_of first (Some second) = record { qualifier = Some first; name = second }

-- the number, negated behind a minus, at whose place it then stands
abbrev pub number_at : Option Terminal → Terminal → Literal
number_at None n = record { value = v.Num (pos n.number); byte = n.byte }
number_at (Some minus) n = record { value = v.Num (pos 0 -ℤ pos n.number); byte = minus.byte }

abbrev pub text_at : Terminal → Literal
text_at t = record { value = v.Text t.text; byte = t.byte }

-- another column, with the amount that is added to it, where there is one
abbrev pub source_of : Named → Option ℤ → AssignValue
source_of column None = a.Column column
source_of column (Some amount) = a.Plus column amount

-- no part is no condition, one part stands alone, two or more are one node
abbrev pub gathered : (List CondTree → CondTree) → List CondTree → CondTree
gathered node [] = c.True
gathered node (part ∷ []) = part
gathered node (first ∷ second ∷ more) = node (first ∷ second ∷ more)

abbrev pub cond_or_true : Option CondTree → CondTree
cond_or_true None = c.True
cond_or_true (Some found) = found

abbrev pub list_or_none : {A : Type 0} → Option (List A) → List A
list_or_none None = []
list_or_none (Some found) = found

abbrev pub with_on : Option CondTree → List CondTree → List CondTree
with_on None more = more
with_on (Some on) more = on ∷ more

-- the tables and views after FROM
abbrev pub tables_of : List Joined → List RefTree
tables_of = map (λ j. j.table)

-- the ON conditions in order, and then that of WHERE
abbrev pub parts_of : List Joined → Option CondTree → List CondTree
parts_of [] filter = with_on filter []
parts_of (j ∷ more) filter = with_on j.on (parts_of more filter)

-- their And
abbrev pub condition_of : List Joined → Option CondTree → CondTree
condition_of joined filter = gathered c.And (parts_of joined filter)
