-- Conditions in which only the whole may be missing: no part of a chain or of NOT is.
use Rattle.std.specs.Prelude.{◌≡◌, ◌⊎◌, Bool, true, false}
use Rattle.std.specs.List.{list_all}
use Rattle.lv_parser.specs.declared.tree.CondTree.{CondTree}
use Rattle.lv_parser.specs.declared.tree.CondTree.TheOpen.{CondTree-F, True, Cmp, And, Or, Not}
use Rattle.lv_parser.specs.declared.tree.CondTree.TheFolds.{fold-CondTree}
use Rattle.lv_parser.specs.declared.tree.CondTree.TheVariants as c
use Rattle.lv_parser.specs.declared.tree.Stmt.{Stmt}
use Rattle.lv_parser.specs.declared.tree.Stmt.TheVariants.{CreateTable, CreateView, Insert, Update, Delete, Select, Begin, Commit, Rollback, ShowTasks}

abbrev pub whole_step : CondTree-F Bool → Bool
whole_step True = false
whole_step (Cmp sign left right) = true
whole_step (And parts) = list_all (λ part. part) parts
whole_step (Or parts) = list_all (λ part. part) parts
whole_step (Not part) = part

abbrev pub is_whole : CondTree → Bool
is_whole = fold-CondTree Bool whole_step

abbrev pub IsWhole : CondTree → Type 0
IsWhole tree = (tree ≡ c.True) ⊎ (is_whole tree ≡ true)

-- the condition of a new view is whole
abbrev pub IsWholeView : Stmt → Type 0
IsWholeView (CreateTable name cols key) = Unit {0}
IsWholeView (CreateView name items refs whole groups) = IsWhole whole
IsWholeView (Insert table tuples) = Unit {0}
IsWholeView (Update table sets cond) = Unit {0}
IsWholeView (Delete table cond) = Unit {0}
IsWholeView (Select list refs cond order) = Unit {0}
IsWholeView Begin = Unit {0}
IsWholeView Commit = Unit {0}
IsWholeView Rollback = Unit {0}
IsWholeView ShowTasks = Unit {0}
