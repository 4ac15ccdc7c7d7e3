-- What the calls of the parts do to what is kept.
use Rattle.std.specs.Prelude.{◌≡◌, ◌⊎◌, ℕ, zero, suc, ◌+◌, ◌-◌, ◌^◌, min, ◌≤◌, ◌<◌, Bool, false, not, ◌&&◌, nat_lt, nat_le, slice_index, slice_index_or, List, [], ◌∷◌, ◌++◌, map, filter, length, slice_get, slice_set, replicate, option_map, Option, Some, None, Result, Ok, Err, ◌==◌, if◌then◌else◌}
use Rattle.std.specs.List.{flat_map, range_with_len, sum_by}
use Rattle.lv_values.specs.declared.value.Value.{Value}
use Rattle.lv_values.specs.Ascending.{ascending}
use Rattle.lv_values.specs.Order.{row_cmp}
use Rattle.lv_schema.specs.declared.action.Action.{Action}
use Rattle.lv_schema.specs.declared.action.DeltaEntry.{DeltaEntry}
use Rattle.lv_schema.specs.declared.fault.Fault.{Fault}
use Rattle.lv_schema.specs.declared.fault.Fault.TheVariants.{MergedFull, Store, JournalFull}
use Rattle.lv_schema.specs.declared.forced.Forced.{Forced}
use Rattle.lv_schema.specs.declared.net.Net.{Net}
use Rattle.lv_schema.specs.declared.pending.Pending.{Pending}
use Rattle.lv_schema.specs.declared.rec.Rec.{Rec}
use Rattle.lv_schema.specs.declared.rec.Rec.TheVariants.{Table, View, Commit, Mark}
use Rattle.lv_schema.specs.declared.signed.SignedRow.{SignedRow}
use Rattle.lv_schema.specs.declared.table.TableDef.{TableDef}
use Rattle.lv_schema.specs.declared.view.ViewDef.{ViewDef}
use Rattle.lv_schema.specs.Applicable.{with_changes}
use Rattle.lv_schema.specs.Cases.{Outcome, good, failed, full}
use Rattle.lv_schema.specs.Commits.{conflict_in}
use Rattle.lv_schema.specs.Condensed.{condensed}
use Rattle.lv_schema.specs.Differences.{view_difference}
use Rattle.lv_schema.specs.Effects.{first_fault}
use Rattle.lv_schema.specs.declared.part.Part.{Part}
use Rattle.lv_schema.specs.Nets.{has_row, with_net}
use Rattle.lv_schema.specs.Records.{record_size}
use Rattle.lv_schema.specs.Steady.{IsStep}
use Rattle.lv_schema.specs.Tasks.{actions_on}
use Rattle.lv_schema.specs.Policies.{chosen}
use Rattle.lv_schema.specs.StepPlans.{is_inside}
use Rattle.lv_schema.specs.World.{least, Visible, World, snap, view_at, point, Settings}
use Rattle.lv_schema.specs.UpkeepCases.{with_steps, Fetched, busy, idle, fetched, no_pending}
use Rattle.lv_schema.specs.declared.version.RowVersion.{RowVersion}
use Rattle.lv_schema.specs.Versions.{new_version, end_by, ends_after, delta_entry}
use Rattle.lv_overlay.specs.declared.put.Put.{Put}
use Rattle.lv_tasks.specs.declared.task.Task.{Task}
use Rattle.lv_txn.specs.Kept.{TransactionKept, begun, changed_by, live_kept}
use Rattle.lv_txn.specs.Written.{put_of}
use Rattle.lv_upkeep.specs.Kept.{claim_kept, planned_in, unclaimed_in, upkeep_empty}
use Rattle.lv_upkeep.specs.Moves.{upkeep_claimed, upkeep_marked, upkeep_stepped, upkeep_with_view}
use Rattle.lv_viewrows.specs.declared.version.GroupVersion.{GroupVersion}
use Rattle.lv_viewrows.specs.Changed.{groups_with}
use Rattle.lv_viewrows.specs.Kept.{ViewKept as ViewRoom, groups_at, one_row, version_from}
use Rattle.lv_stands.specs.Kept.{TableKept, BaseKept, ViewKept, EngineKept, table_kept, view_kept, shown, rows_shown}
use Rattle.lv_stands.specs.Stands.{HaveSame}

-- a version after a commit that takes these rows away
abbrev pub lost : ℕ → List (List Value) → RowVersion → RowVersion
lost number rows v = record v { until = end_by v.until (not (has_row v.row rows)) number }

abbrev pub no_net : Net
no_net = record { minus = []; plus = [] }

-- a table takes a net change as commit m + 1
pub record TableCommits (m : ℕ) (net : Net) (old new : TableKept) : Type 0 where
  pub def_stays : new.def ≡ old.def
  pub last_by : new.last ≤ suc m
  pub floor_stays : new.floor ≡ old.floor
  pub before : (n : ℕ) → n ≤ m → shown n new.versions ≡ shown n old.versions
  pub from : (n : ℕ) → m < n → shown n new.versions ≡ with_net old.def.key net (shown m old.versions)
  pub versions_are : HaveSame (map (lost (suc m) net.minus) old.versions ++ map (new_version (suc m)) net.plus) new.versions

-- the base takes actions as the next commit: each table takes the net change that they condense to
pub record BaseCommits (tables : List TableDef) (actions : List Action) (old new : BaseKept) : Type 0 where
  pub all : length new.tables ≡ length old.tables
  pub each : (t : ℕ) → t < length old.tables → TableCommits old.number (condensed tables actions t) (table_kept old.tables t) (table_kept new.tables t)
  pub entries_are : new.entries ≡ old.entries ++ map (delta_entry (suc old.number)) actions
  pub number_is : new.number ≡ suc old.number
  pub pruned_stays : new.pruned ≡ old.pruned

-- a clean-up drops the versions that ended at or below the floor, and the entries up to it
pub record TableCleaned (floor : ℕ) (old new : TableKept) : Type 0 where
  pub def_stays : new.def ≡ old.def
  pub last_stays : new.last ≡ old.last
  pub floor_is : new.floor ≡ floor
  pub from : (n : ℕ) → floor ≤ n → shown n new.versions ≡ shown n old.versions
  pub versions_are : new.versions ≡ filter (λ v. ends_after floor v.until) old.versions

pub record BaseCleaned (floor : ℕ) (old new : BaseKept) : Type 0 where
  pub all : length new.tables ≡ length old.tables
  pub each : (t : ℕ) → t < length old.tables → TableCleaned floor (table_kept old.tables t) (table_kept new.tables t)
  pub entries_are : new.entries ≡ filter (λ e. nat_lt floor e.number) old.entries
  pub number_stays : new.number ≡ old.number
  pub pruned_is : new.pruned ≡ floor

-- the tasks of a commit: one more for each view with an action on its tables
abbrev pub with_task : ℕ → ℕ → List Task → List Task
with_task number zero tasks = tasks
with_task number (suc n) tasks = tasks ++ record { commit = number; actions = suc n } ∷ []

abbrev pub with_tasks : ℕ → List Action → List ViewDef → List (List Task) → List (List Task)
with_tasks number actions [] tasks = tasks
with_tasks number actions (view ∷ views) [] = []
with_tasks number actions (view ∷ views) (first ∷ tasks) = with_task number (actions_on view actions) first ∷ with_tasks number actions views tasks

-- a view's rows take a difference: below its end they stay, as far down as a number, the floor; and from its end on its
-- rows or groups are those before with the difference
pub record ViewInstalls (floor : ℕ) (view : ViewDef) (hi : ℕ) (changes : List SignedRow) (old new : ViewKept) : Type 0 where
  pub at_is : new.at ≡ hi
  pub before : (n : ℕ) → floor ≤ n → n < hi → groups_at n new.versions ≡ groups_at n old.versions
  pub from : (n : ℕ) → hi ≤ n → groups_at n new.versions ≡ groups_with changes (groups_at old.at old.versions)
  pub rows : view.grouped ≡ false → (n : ℕ) → hi ≤ n → rows_shown view n new ≡ with_changes changes (rows_shown view old.at old)

-- a view's rows lose the versions that ended at or below a number
pub record ViewCleaned (m : ℕ) (old new : ViewKept) : Type 0 where
  pub at_stays : new.at ≡ old.at
  pub versions_are : new.versions ≡ filter (λ v. ends_after m v.until) old.versions
  pub reads : (n : ℕ) → (m ≤ n) ⊎ (old.at ≤ n) → groups_at n new.versions ≡ groups_at n old.versions

pub record ViewsCleaned (m : ℕ) (old new : List ViewKept) : Type 0 where
  pub all : length new ≡ length old
  pub each : (v : ℕ) → v < length old → ViewCleaned m (view_kept old v) (view_kept new v)

-- ---- the calls of the engine
-- BEGIN, and ROLLBACK
abbrev pub with_transaction : ℕ → Option TransactionKept → EngineKept → EngineKept
with_transaction session k e = record e { sessions = slice_set e.sessions session k }

abbrev pub engine_began : ℕ → EngineKept → EngineKept
engine_began session e = with_transaction session (Some (begun e.base.number)) e

abbrev pub engine_rolled_back : ℕ → EngineKept → EngineKept
engine_rolled_back session e = with_transaction session None e

-- the journal's length with one more record
abbrev pub journal_with : Rec → ℕ → ℕ
journal_with rec journal = min (journal + record_size rec + 5) (2 ^ 64 - 1)

-- COMMIT: the base with the actions, a task of each view on whose tables one of them is, and the record
abbrev pub engine_committed : ℕ → TransactionKept → BaseKept → EngineKept → EngineKept
engine_committed session k base e = record e {
  base = base;
  upkeep = record e.upkeep { tasks = with_tasks (suc e.base.number) k.actions e.views e.upkeep.tasks };
  sessions = slice_set e.sessions session None;
  journal = journal_with (Commit (e.base.number + 1) k.actions) e.journal;
}

-- a step of a view
abbrev pub engine_stepped : Forced → ViewKept → EngineKept → EngineKept
engine_stepped f rows e = record e { upkeep = upkeep_stepped f e.upkeep; rows = slice_set e.rows f.view rows }

-- a clean-up
abbrev pub engine_cleaned : BaseKept → List ViewKept → EngineKept → EngineKept
engine_cleaned base rows e = record e { base = base; rows = rows }

-- the floor of a clean-up, and the number below which no view's rows are read
abbrev pub floor_kept : EngineKept → ℕ
floor_kept e = least (least e.base.number e.upkeep.points) (live_kept e.sessions)

abbrev pub least_read : EngineKept → ℕ
least_read e = least e.base.number (live_kept e.sessions)

-- how many versions and entries are kept
abbrev pub versions_counted : BaseKept → ℕ
versions_counted b = sum_by (λ t. length (table_kept b.tables t).versions) (range_with_len 0 (length b.tables))

-- steps, one after another: each is computed between its two states, and its view's rows take the difference
abbrev pub StepsRun : Visible → List Forced → EngineKept → EngineKept → Type 0
StepsRun s [] e last = last ≡ e
StepsRun s (f ∷ fs) e last =
    (new : ViewKept)
    × ViewInstalls (least_read e) (view_at e.views f.view) f.hi (view_difference (view_at e.views f.view) (snap s f.lo) (snap s f.hi)) (view_kept e.rows f.view) new
    × StepsRun s fs (engine_stepped f new e) last

-- steps of which each begins where its view stands then
abbrev pub StepsFollow : World → List Forced → Type 0
StepsFollow w [] = Unit {0}
StepsFollow w (f ∷ fs) = IsStep w.visible f × (point w.upkeep f.view ≡ f.lo) × StepsFollow (record { visible = w.visible; upkeep = with_steps (f ∷ []) w.upkeep }) fs

-- the difference of a view that a step takes it over, and those of steps, one after another
abbrev pub step_changes : Visible → Forced → List SignedRow
step_changes s f = view_difference (view_at s.views f.view) (snap s f.lo) (snap s f.hi)

abbrev pub changes_of : Visible → List Forced → List SignedRow
changes_of s fs = flat_map (step_changes s) fs

-- a view's rows with the view itself, and how many more versions go in without memory
abbrev pub with_room : ViewDef → ℕ → ViewKept → ViewRoom
with_room view spare k = record { def = view; at = k.at; versions = k.versions; spare = spare }

-- the writes of actions, the last one first
abbrev pub with_puts : List TableDef → List Action → List Put → List Put
with_puts tables [] puts = puts
with_puts tables (a ∷ actions) puts = with_puts tables actions (put_of tables a ∷ puts)

-- INSERT, UPDATE or DELETE in a transaction
abbrev pub engine_changed : ℕ → List Put → List Action → TransactionKept → EngineKept → EngineKept
engine_changed session puts actions k e = with_transaction session (Some (changed_by puts actions k)) e

-- ---- why a commit is refused, told from what is kept
-- the first table that would pass 65,535 rows
abbrev pub rows_after : ℕ → Net → ℕ
rows_after rows net = rows + length net.plus - length net.minus

abbrev pub full_in : List TableDef → BaseKept → List Action → Option Fault
full_in tables b actions =
    option_map MergedFull (slice_get (filter (λ t. nat_lt 65535 (rows_after (length (shown b.number (table_kept b.tables t).versions)) (condensed tables actions t))) (range_with_len 0 (length tables))) 0)

abbrev pub refusal_in : EngineKept → TransactionKept → Option Fault
refusal_in e k = first_fault (conflict_in e.tables e.base.entries k.snapshot k.actions) (full_in e.tables e.base k.actions)

-- COMMIT in all its cases: what it answers, and what is kept then, where `base` is the base with the actions
abbrev pub answer_written : Outcome → ℕ → Result (Option ℕ) Fault
answer_written good number = Ok (Some number)
answer_written failed number = Err Store
answer_written (full needed limit) number = Err (JournalFull needed limit)

abbrev pub answer_unless : Option Fault → Outcome → ℕ → Result (Option ℕ) Fault
answer_unless (Some fault) outcome number = Err fault
answer_unless None outcome number = answer_written outcome number

abbrev pub commit_answer : (Rec → Outcome) → EngineKept → TransactionKept → Result (Option ℕ) Fault
commit_answer outcome e k = if length k.actions == 0 then Ok None else answer_unless (refusal_in e k) (outcome (Commit (e.base.number + 1) k.actions)) (e.base.number + 1)

abbrev pub kept_written : Outcome → ℕ → TransactionKept → BaseKept → EngineKept → EngineKept
kept_written good session k base e = engine_committed session k base e
kept_written failed session k base e = e
kept_written (full needed limit) session k base e = e

abbrev pub kept_unless : Option Fault → Outcome → ℕ → TransactionKept → BaseKept → EngineKept → EngineKept
kept_unless (Some fault) outcome session k base e = engine_rolled_back session e
kept_unless None outcome session k base e = kept_written outcome session k base e

abbrev pub commit_kept : (Rec → Outcome) → ℕ → TransactionKept → BaseKept → EngineKept → EngineKept
commit_kept outcome session k base e = if length k.actions == 0 then engine_rolled_back session e else kept_unless (refusal_in e k) (outcome (Commit (e.base.number + 1) k.actions)) session k base e

-- ---- workers and marks
abbrev pub engine_claimed : ℕ → Option Forced → EngineKept → EngineKept
engine_claimed worker claim e = record e { upkeep = upkeep_claimed worker claim e.upkeep }

-- whether a live snapshot is at or above the one number and below the other
abbrev pub inside_kept : EngineKept → ℕ → ℕ → Bool
inside_kept e = is_inside (live_kept e.sessions)

-- a mark
abbrev pub engine_marked : ℕ → EngineKept → EngineKept
engine_marked v e = record e { upkeep = upkeep_marked v e.upkeep; journal = journal_with (Mark v (slice_index e.upkeep.points v)) e.journal }

-- ---- what a step is computed from, told from what is kept: for each alias the rows at its beginning, and the net
-- change to which the entries up to its end condense
abbrev pub is_between : ℕ → ℕ → DeltaEntry → Bool
is_between lo hi e = nat_lt lo e.number && nat_le e.number hi

abbrev pub actions_kept : List DeltaEntry → ℕ → ℕ → List Action
actions_kept entries lo hi = map (λ e. e.action) (filter (is_between lo hi) entries)

abbrev pub part_in : List TableDef → BaseKept → ℕ → ℕ → ℕ → Part
part_in tables b lo hi t =
    let net = condensed tables (actions_kept b.entries lo hi) t in
    record { old = shown lo (table_kept b.tables t).versions; minus = net.minus; plus = net.plus }

abbrev pub parts_in : EngineKept → Forced → List Part
parts_in e f = map (part_in e.tables e.base f.lo f.hi) (view_at e.views f.view).tables

-- CREATE TABLE
abbrev pub table_new : TableDef → TableKept
table_new def = record { def = def; versions = []; last = 0; floor = 0 }

abbrev pub engine_with_table : TableDef → EngineKept → EngineKept
engine_with_table def e = record e {
  tables = e.tables ++ def ∷ [];
  base = record e.base { tables = e.base.tables ++ table_new def ∷ [] };
  journal = journal_with (Table (record def { no = 0 })) e.journal;
}

-- CREATE VIEW: its rows, or the groups of a grouped view, are made at the last commit
abbrev pub versions_made : ViewDef → List (List Value) → List SignedRow → List GroupVersion
versions_made view rows groups = if view.grouped then map (version_from 0) groups else map (λ row. version_from 0 (one_row row)) (ascending row_cmp rows)

abbrev pub view_made_kept : ViewDef → ℕ → List (List Value) → List SignedRow → ViewKept
view_made_kept view number rows groups = record { at = number; versions = versions_made view rows groups }

-- an engine that opens with an empty journal
abbrev pub engine_empty : EngineKept
engine_empty = record {
  tables = [];
  views = [];
  base = record { tables = []; entries = []; number = 0; pruned = 0 };
  upkeep = upkeep_empty;
  rows = [];
  sessions = replicate 17 None;
  journal = 9;
}

abbrev pub engine_with_view : ViewDef → List (List Value) → List SignedRow → EngineKept → EngineKept
engine_with_view def rows groups e = record {
  tables = e.tables;
  views = e.views ++ record def { created = e.base.number } ∷ [];
  base = e.base;
  upkeep = upkeep_with_view e.base.number e.upkeep;
  rows = e.rows ++ view_made_kept def e.base.number rows groups ∷ [];
  sessions = e.sessions;
  journal = journal_with (View (record def { no = 0; created = e.base.number })) e.journal;
}

-- a worker fetches, told from what is kept
abbrev pub view_chosen : ℕ → EngineKept → ℕ
view_chosen kind e = (slice_index_or (unclaimed_in e.upkeep) (chosen kind (unclaimed_in e.upkeep)) no_pending).view

abbrev pub kept_fetched : Option Forced → ℕ → EngineKept → Fetched × EngineKept
kept_fetched None worker e = (idle, e)
kept_fetched (Some f) worker e = (fetched f, engine_claimed worker (Some f) e)

abbrev pub kept_among : List Pending → Settings → ℕ → EngineKept → Fetched × EngineKept
kept_among [] settings worker e = (idle, e)
kept_among (p ∷ ps) settings worker e = kept_fetched (planned_in (inside_kept e) settings.combine e.upkeep (view_chosen settings.policy e) e.base.number) worker e

abbrev pub kept_by : Option Forced → Settings → ℕ → EngineKept → Fetched × EngineKept
kept_by (Some f) settings worker e = (busy, e)
kept_by None settings worker e = kept_among (unclaimed_in e.upkeep) settings worker e

abbrev pub engine_fetching : Settings → ℕ → EngineKept → Fetched × EngineKept
engine_fetching settings worker e = kept_by (claim_kept e.upkeep worker) settings worker e
