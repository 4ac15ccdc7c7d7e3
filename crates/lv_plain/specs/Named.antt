-- Entries that name what is in use: each number of a session, a table or a view that they hold is one of those that there
-- are.
use Rattle.std.specs.Prelude.{◌≡◌, ℕ, ◌<◌, Bool, List, length, Err}
use Rattle.std.specs.List.{AllByRecursion}
use Rattle.lv_schema.specs.declared.fault.Fault.{Fault}
use Rattle.lv_schema.specs.declared.fault.Fault.TheVariants.{Duplicate, TableFull, Conflict, MergedFull}
use Rattle.lv_schema.specs.declared.table.TableDef.{TableDef}
use Rattle.lv_schema.specs.declared.view.ViewDef.{ViewDef}
use Rattle.lv_schema.specs.World.{Visible}
use Rattle.lv_plain.specs.declared.entry.Entry.{Entry}
use Rattle.lv_plain.specs.declared.entry.Entry.TheVariants.{Session, Fetched, Installed, Moved, Marked}
use Rattle.lv_plain.specs.declared.entry.MarkOutcome.{MarkOutcome}
use Rattle.lv_plain.specs.declared.entry.MarkOutcome.TheVariants as mark
use Rattle.lv_plain.specs.declared.entry.Reply.{Reply}
use Rattle.lv_plain.specs.declared.entry.Reply.TheVariants.{Tasks, Refused}
use Rattle.lv_plain.specs.declared.program.Program.{Program}
use Rattle.lv_plain.specs.Programs.{session_count}
use Rattle.lv_plain.specs.Turns.{Reading}

-- how many sessions, the setup among them, how many tables and how many views there are
pub record Counts : Type 0 where
  pub sessions : ℕ
  pub tables : ℕ
  pub views : ℕ

abbrev pub in_use : Program → Visible → Counts
in_use p s = record { sessions = session_count p; tables = length s.tables; views = length s.views }

abbrev pub IsNamedFault : Counts → Fault → Type 0
IsNamedFault n (Duplicate table key) = table < n.tables
IsNamedFault n (TableFull table) = table < n.tables
IsNamedFault n (Conflict table key commit) = table < n.tables
IsNamedFault n (MergedFull table) = table < n.tables
IsNamedFault n fault = Unit {0}

abbrev pub IsNamedReply : Counts → Reply → Type 0
IsNamedReply n (Tasks tasks) = AllByRecursion (λ task. task.0 < n.views) tasks
IsNamedReply n (Refused fault) = IsNamedFault n fault
IsNamedReply n reply = Unit {0}

abbrev pub IsNamedOutcome : Counts → MarkOutcome → Type 0
IsNamedOutcome n (mark.Refused fault) = IsNamedFault n fault
IsNamedOutcome n outcome = Unit {0}

abbrev pub IsNamedEntry : Counts → Entry → Type 0
IsNamedEntry n (Session session place forced reply) = (session < n.sessions) × AllByRecursion (λ f. f.view < n.views) forced × IsNamedReply n reply
IsNamedEntry n (Fetched worker view lo hi) = view < n.views
IsNamedEntry n (Installed worker view lo hi) = view < n.views
IsNamedEntry n (Moved worker view lo hi point) = view < n.views
IsNamedEntry n (Marked view outcome) = (view < n.views) × IsNamedOutcome n outcome
IsNamedEntry n entry = Unit {0}

abbrev pub AreNamed : Counts → List Entry → Type 0
AreNamed n entries = AllByRecursion (IsNamedEntry n) entries

-- what a reading refuses a line with names no table: it would be named even where there is none
abbrev pub nothing_in_use : Counts
nothing_in_use = record { sessions = 0; tables = 0; views = 0 }

abbrev pub NamesNoTable : Reading → Type 0
NamesNoTable reading = (tables : List TableDef) (views : List ViewDef) (setup live : Bool) (line : List ℕ) (fault : Fault) → reading tables views setup live line ≡ Err fault
    → IsNamedFault nothing_in_use fault
