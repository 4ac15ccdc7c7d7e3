-- Entries that name what is in use do so where more is in use.
use Rattle.std.proofs.Common.{◌≡◌, ℕ, ◌<◌, List, [], ◌∷◌, ◌++◌, length, map, ap, arith}
use Rattle.std.specs.List.{AllByRecursion}
use Rattle.std.proofs.lemmas.List.{length-map}
use Rattle.lv_schema.specs.declared.fault.Fault.{Fault}
use Rattle.lv_schema.specs.declared.fault.Fault.TheVariants.{Duplicate, TableFull, Conflict, MergedFull}
use Rattle.lv_schema.specs.declared.forced.Forced.{Forced}
use Rattle.lv_schema.specs.declared.table.TableDef.{TableDef}
use Rattle.lv_schema.specs.declared.view.ViewDef.{ViewDef}
use Rattle.lv_schema.specs.World.{Visible}
use Rattle.lv_plain.specs.declared.entry.Entry.{Entry}
use Rattle.lv_plain.specs.declared.entry.Entry.TheVariants.{Session, Fetched, Installed, Moved, Marked}
use Rattle.lv_plain.specs.declared.entry.MarkOutcome.{MarkOutcome}
use Rattle.lv_plain.specs.declared.entry.MarkOutcome.TheVariants as mark
use Rattle.lv_plain.specs.declared.entry.Reply.{Reply}
use Rattle.lv_plain.specs.declared.entry.Reply.TheVariants.{Tasks, Refused}
use Rattle.lv_plain.specs.declared.program.Program.{Program}
use Rattle.lv_plain.specs.declared.program.Script.{Script}
use Rattle.lv_plain.specs.Named.{AreNamed, Counts, IsNamedEntry, IsNamedFault, IsNamedOutcome, IsNamedReply, in_use}
use Rattle.lv_plain.specs.SessionNames.{session_names}
use Rattle.lv_lines.specs.declared.names.Names.{Names}
use Rattle.lv_lines.specs.Entries.{HasNames, numbers_in_use}
use Rattle.lv_namelaw.specs.MoreNames.{AreAtMost}

-- ---- lists

all_weaker : {X : Type 0} (P Q : X → Type 0) → ((x : X) → P x → Q x) → (xs : List X) → AllByRecursion P xs → AllByRecursion Q xs
all_weaker P Q f [] a = tt
all_weaker P Q f (x ∷ xs) a = (f x a.0, all_weaker P Q f xs a.1)

one_of_all : {X : Type 0} (P : X → Type 0) (xs : List X) (x : X) (ys : List X) → AllByRecursion P (xs ++ x ∷ ys) → P x
one_of_all P [] x ys a = a.0
one_of_all P (w ∷ xs) x ys a = one_of_all P xs x ys a.1

-- ---- where more is in use

fault_at_most : (n m : Counts) (f : Fault) → IsNamedFault n f → AreAtMost n m → IsNamedFault m f
fault_at_most n m (Duplicate table key) named most = omega (arith, named, most.tables)
fault_at_most n m (TableFull table) named most = omega (arith, named, most.tables)
fault_at_most n m (Conflict table key commit) named most = omega (arith, named, most.tables)
fault_at_most n m (MergedFull table) named most = omega (arith, named, most.tables)
fault_at_most n m _ named most = tt

views_at_most : {X : Type 0} (view_of : X → ℕ) (n m : Counts) (xs : List X) → AllByRecursion (λ x. view_of x < n.views) xs → AreAtMost n m → AllByRecursion (λ x. view_of x < m.views) xs
views_at_most view_of n m xs named most = all_weaker (λ x. view_of x < n.views) (λ x. view_of x < m.views) (λ x lt. omega (arith, lt, most.views)) xs named

reply_at_most : (n m : Counts) (r : Reply) → IsNamedReply n r → AreAtMost n m → IsNamedReply m r
reply_at_most n m (Tasks tasks) named most = views_at_most (λ (task : ℕ × ℕ). task.0) n m tasks named most
reply_at_most n m (Refused fault) named most = fault_at_most n m fault named most
reply_at_most n m _ named most = tt

outcome_at_most : (n m : Counts) (o : MarkOutcome) → IsNamedOutcome n o → AreAtMost n m → IsNamedOutcome m o
outcome_at_most n m (mark.Refused fault) named most = fault_at_most n m fault named most
outcome_at_most n m _ named most = tt

pub entry_at_most : (n m : Counts) (e : Entry) → IsNamedEntry n e → AreAtMost n m → IsNamedEntry m e
entry_at_most n m (Session session place forced reply) named most =
    (omega (arith, named.0, most.sessions), views_at_most (λ (f : Forced). f.view) n m forced named.1 most, reply_at_most n m reply named.2 most)
entry_at_most n m (Fetched worker view lo hi) named most = omega (arith, named, most.views)
entry_at_most n m (Installed worker view lo hi) named most = omega (arith, named, most.views)
entry_at_most n m (Moved worker view lo hi point) named most = omega (arith, named, most.views)
entry_at_most n m (Marked view outcome) named most = (omega (arith, named.0, most.views), outcome_at_most n m outcome named.1 most)
entry_at_most n m _ named most = tt

pub entries_at_most : (n m : Counts) (es : List Entry) → AreNamed n es → AreAtMost n m → AreNamed m es
entries_at_most n m es named most = all_weaker (IsNamedEntry n) (IsNamedEntry m) (λ e each. entry_at_most n m e each most) es named

-- ---- where there are names for all that is in use

pub each_has_names : (n : Counts) (names : Names) (es : List Entry) (e : Entry) (fs : List Entry) → AreNamed n (es ++ e ∷ fs) → AreAtMost n (numbers_in_use names) → HasNames names e
each_has_names n names es e fs named most = entry_at_most n (numbers_in_use names) e (one_of_all (IsNamedEntry n) es e fs named) most

pub all_named : (program : Program) (s : Visible) (setup : List ℕ) (names : Names) → names.sessions ≡ setup ∷ session_names program
    → names.tables ≡ map (λ t. t.name) s.tables → names.views ≡ map (λ v. v.name) s.views → AreAtMost (in_use program s) (numbers_in_use names)
all_named program s setup names sessions tables views = record {
  sessions = omega (arith, ap (λ (l : List (List ℕ)). length l) sessions, length-map program.sessions (λ (script : Script). script.name));
  tables = omega (arith, ap (λ (l : List (List ℕ)). length l) tables, length-map s.tables (λ (t : TableDef). t.name));
  views = omega (arith, ap (λ (l : List (List ℕ)). length l) views, length-map s.views (λ (v : ViewDef). v.name));
}
