-- What a line is bound to is allowed to its session, and what it is refused for is shown by the line.
use Rattle.std.proofs.Common.{◌≡◌, ℕ, Bool, true, false, List, refl, subst}
use Rattle.std.specs.Prelude.{not, ◌&&◌, Result, Ok, Err}
use Rattle.lv_parser.specs.declared.tree.Stmt.{Stmt}
use Rattle.lv_parser.specs.declared.tree.Stmt.TheVariants as stmt
use Rattle.lv_parser.specs.Parsed.{parsed}
use Rattle.lv_schema.specs.declared.bound.Bound.{Bound}
use Rattle.lv_schema.specs.declared.fault.Fault.{Fault}
use Rattle.lv_schema.specs.declared.fault.Fault.TheVariants.{Syntax, NotSetup, InTransaction, NoTransaction}
use Rattle.lv_schema.specs.declared.table.TableDef.{TableDef}
use Rattle.lv_schema.specs.declared.view.ViewDef.{ViewDef}
use Rattle.lv_bind.specs.Allowed.{IsAllowed}
use Rattle.lv_bind.specs.Binding.{bound_among}
use Rattle.lv_bind.specs.Reads.{bound_or_stopped, is_shown_by_line, reads}
use Rattle.lv_bind.specs.Sources.{sources_of}
use Rattle.lv_bind.proofs.FoundFaults.{HasRights, rightful, shown_well}
use Rattle.lv_bind.proofs.LineFaults.{refused_by_line}

outside : (setup live : Bool) → not (setup && live) ≡ true → setup ≡ true → live ≡ false
outside true true e is = cc
outside true false e is = refl
outside false live e is = cc

not_live : (live : Bool) → not live ≡ true → live ≡ false
not_live true e = cc
not_live false e = refl

module _ (tables : List TableDef) (views : List ViewDef) (setup live : Bool) where
  by_rights : (s : Stmt) → HasRights setup live s → IsAllowed setup live (bound_among tables views (sources_of tables views s) s)
  by_rights (stmt.CreateTable name cols key) h =
      let is : setup ≡ true = shown_well setup NotSetup h.in_setup in (is, outside setup live (shown_well (not (setup && live)) InTransaction h.outside) is)
  by_rights (stmt.CreateView name items refs c groups) h =
      let is : setup ≡ true = shown_well setup NotSetup h.in_setup in (is, outside setup live (shown_well (not (setup && live)) InTransaction h.outside) is)
  by_rights (stmt.Insert table tuples) h = tt
  by_rights (stmt.Update table sets c) h = tt
  by_rights (stmt.Delete table c) h = tt
  by_rights (stmt.Select list refs c order) h = tt
  by_rights stmt.Begin h = not_live live (shown_well (not live) InTransaction h.outside)
  by_rights stmt.Commit h = shown_well live NoTransaction h.inside
  by_rights stmt.Rollback h = shown_well live NoTransaction h.inside
  by_rights stmt.ShowTasks h = tt

  parsed_allowed : (r : Result Stmt ℕ) (b : Bound) → bound_or_stopped tables views setup live r ≡ Ok b → IsAllowed setup live b
  parsed_allowed (Ok s) b e = let clean = rightful tables views setup live s b e in subst (IsAllowed setup live) clean.1 (by_rights s clean.0)
  parsed_allowed (Err byte) b e = cc

  parsed_shown : (r : Result Stmt ℕ) (f : Fault) → bound_or_stopped tables views setup live r ≡ Err f → is_shown_by_line f ≡ true
  parsed_shown (Ok s) f e = refused_by_line tables views setup live s f e
  parsed_shown (Err byte) f e = let same : Syntax byte ≡ f = cc in subst (λ g. is_shown_by_line g ≡ true) same refl

pub reads_allowed : (tables : List TableDef) (views : List ViewDef) (setup live : Bool) (line : List ℕ) (b : Bound) → reads tables views setup live line ≡ Ok b → IsAllowed setup live b
unfolding reads
reads_allowed tables views setup live line b e = parsed_allowed tables views setup live (parsed line) b e

pub reads_shown : (tables : List TableDef) (views : List ViewDef) (setup live : Bool) (line : List ℕ) (f : Fault) → reads tables views setup live line ≡ Err f → is_shown_by_line f ≡ true
unfolding reads
reads_shown tables views setup live line f e = parsed_shown tables views setup live (parsed line) f e
