-- Links: the equations between columns of two different aliases that every tuple meets which the condition keeps.
-- Where one alias has a changed row, they tell which rows of the others can join it, as in a semijoin (Bernstein and
-- Chiu, "Using Semi-Joins to Solve Relational Queries", 1981).
use Rattle.std.specs.Prelude.{◌==◌, cond, List, [], Option, Some, None}
use Rattle.std.specs.List.{cons_option, filter_map}
use Rattle.lv_schema.specs.declared.cond.Col.{Col}
use Rattle.lv_schema.specs.declared.cond.Cond.{Cond}
use Rattle.lv_schema.specs.declared.cond.Cond.TheOpen.{Cond-F, True, Cmp, And, Or, Not}
use Rattle.lv_schema.specs.declared.cond.Cond.TheFolds.{fold-Cond}
use Rattle.lv_schema.specs.declared.cond.Op.{Op}
use Rattle.lv_schema.specs.declared.cond.Op.TheVariants.{Eq, Ne, Lt, Le, Gt, Ge}
use Rattle.lv_schema.specs.declared.cond.Operand.{Operand}
use Rattle.lv_schema.specs.declared.cond.Operand.TheVariants.{Column, Number, Text}
use Rattle.lv_reach.specs.declared.link.Link.{Link}

-- the list of what there is
abbrev pub as_list : Option Link → List Link
as_list link = cons_option link []

-- an equation of two columns, where they are of two aliases
abbrev pub link_of_columns : Col → Col → Option Link
link_of_columns left right = cond (left.alias == right.alias) None (Some (record { left = left; right = right }))

-- an equation of two sides, where both are columns
abbrev pub link_of_operands : Operand → Operand → Option Link
link_of_operands (Column left) (Column right) = link_of_columns left right
link_of_operands (Column left) (Number n) = None
link_of_operands (Column left) (Text t) = None
link_of_operands (Number n) right = None
link_of_operands (Text t) right = None

-- a comparison, where it is an equation
abbrev pub link_of_comparison : Op → Operand → Operand → Option Link
link_of_comparison Eq left right = link_of_operands left right
link_of_comparison Ne left right = None
link_of_comparison Lt left right = None
link_of_comparison Le left right = None
link_of_comparison Gt left right = None
link_of_comparison Ge left right = None

-- what a part of a condition is: the link that it is by itself, and the links that it has where it is the whole
pub record Found : Type 0 where
  pub own : Option Link
  pub whole : List Link

-- a comparison has its own link; an And has the own link of each part, in the order of their place
abbrev pub found_step : Cond-F Found → Found
found_step True = record { own = None; whole = [] }
found_step (Cmp op left right) = record { own = link_of_comparison op left right; whole = as_list (link_of_comparison op left right) }
found_step (And parts) = record { own = None; whole = filter_map (λ part. part.own) parts }
found_step (Or parts) = record { own = None; whole = [] }
found_step (Not part) = record { own = None; whole = [] }

abbrev pub found : Cond → Found
found = fold-Cond Found found_step

-- the link that a condition is
abbrev pub link_of : Cond → Option Link
link_of c = (found c).own

-- the links of a whole condition
abbrev pub links_of : Cond → List Link
links_of c = (found c).whole
