-- Faults 8 to 10: what a session may not do now. CREATE belongs to the setup, and to no transaction; BEGIN opens a
-- transaction where none is live, and COMMIT and ROLLBACK end one that is.
use Rattle.std.specs.Prelude.{Bool, not, ◌&&◌, List, []}
use Rattle.lv_parser.specs.declared.tree.Stmt.{Stmt}
use Rattle.lv_parser.specs.declared.tree.Stmt.TheVariants.{CreateTable, CreateView, Begin, Commit, Rollback}
use Rattle.lv_schema.specs.declared.fault.Fault.{Fault}
use Rattle.lv_schema.specs.declared.fault.Fault.TheVariants.{NotSetup, InTransaction, NoTransaction}
use Rattle.lv_bind.specs.Sources.{shown_unless}

abbrev pub outside_setup : Bool → Stmt → List Fault
outside_setup setup (CreateTable name cols key) = shown_unless setup NotSetup
outside_setup setup (CreateView name items refs c groups) = shown_unless setup NotSetup
outside_setup setup other = []

abbrev pub in_transaction : Bool → Bool → Stmt → List Fault
in_transaction setup live (CreateTable name cols key) = shown_unless (not (setup && live)) InTransaction
in_transaction setup live (CreateView name items refs c groups) = shown_unless (not (setup && live)) InTransaction
in_transaction setup live Begin = shown_unless (not live) InTransaction
in_transaction setup live other = []

abbrev pub no_transaction : Bool → Stmt → List Fault
no_transaction live Commit = shown_unless live NoTransaction
no_transaction live Rollback = shown_unless live NoTransaction
no_transaction live other = []
