-- One case for each thing that maintenance does: what it answers, and what maintenance sees after it. What statements
-- see is no part of it. Whether a record can be written is an argument.
use Rattle.std.specs.Prelude.{ℕ, ◌+◌, ◌-◌, ◌^◌, min, ◌==◌, nat_lt, if◌then◌else◌, Bool, List, [], ◌∷◌, ◌++◌, slice_index, slice_index_or, slice_set, Option, Some, None, Result, Ok, Err}
use Rattle.std.specs.List.{filter_map}
use Rattle.std.specs.Ordering.{nat_cmp}
use Rattle.lv_schema.specs.declared.fault.Fault.{Fault}
use Rattle.lv_schema.specs.declared.fault.Fault.TheVariants.{Store, JournalFull}
use Rattle.lv_schema.specs.declared.forced.Forced.{Forced}
use Rattle.lv_schema.specs.declared.pending.Pending.{Pending}
use Rattle.lv_schema.specs.declared.query.Query.{Query}
use Rattle.lv_schema.specs.declared.query.Rel.{Rel}
use Rattle.lv_schema.specs.declared.query.Rel.TheVariants as rel
use Rattle.lv_schema.specs.declared.rec.Rec.{Rec}
use Rattle.lv_schema.specs.declared.rec.Rec.TheVariants.{Table, View, Commit, Mark}
use Rattle.lv_schema.specs.Cases.{Outcome, good, failed, full}
use Rattle.lv_schema.specs.Once.{once}
use Rattle.lv_schema.specs.Records.{record_size}
use Rattle.lv_schema.specs.StepPlans.{planned, forced, advanced}
use Rattle.lv_schema.specs.Policies.{unclaimed, chosen}
use Rattle.lv_schema.specs.CleanUps.{floor, deltas_kept, versions_kept}
use Rattle.lv_schema.specs.World.{Upkeep, World, Settings, last, point, transaction}

-- the length that the journal would have with one more record, which is a length of 4 bytes, the record, and a gate
abbrev pub need : Upkeep → Rec → ℕ
need u rec = min (u.journal + record_size rec + 5) (2 ^ 64 - 1)

-- a record is refused where the journal's length would be past the limit; else it is for the disk
abbrev pub outcome_of : Settings → Bool → Upkeep → Rec → Outcome
outcome_of settings fails u rec = if nat_lt settings.limit (need u rec) then full (need u rec) settings.limit else if fails then failed else good

-- what maintenance sees of a record that is written: a view is maintained to its creation, and marked there
abbrev pub noted : Rec → Upkeep → Upkeep
noted (Table def) u = u
noted (View def) u = record u { points = u.points ++ def.created ∷ []; marks = u.marks ++ def.created ∷ [] }
noted (Commit number actions) u = u
noted (Mark view upto) u = record u { marks = slice_set u.marks view upto }

abbrev pub with_record : Option Rec → Upkeep → Upkeep
with_record None u = u
with_record (Some rec) u = record (noted rec u) { journal = need u rec }

-- a query forces the steps that bring its views up to its snapshot
abbrev pub view_number : Rel → Option ℕ
view_number (rel.Table t) = None
view_number (rel.View v) = Some v

abbrev pub views_of : Query → List ℕ
views_of query = once nat_cmp (filter_map view_number query.rels)

abbrev pub forced_by : Settings → ℕ → Query → World → List Forced
forced_by settings session query w = forced settings w (views_of query) (transaction session w.visible).snapshot

abbrev pub with_steps : List Forced → Upkeep → Upkeep
with_steps steps u = record u { points = advanced u.points steps }

-- a worker's claim
abbrev pub claim_of : Upkeep → ℕ → Option Forced
claim_of u worker = slice_index_or u.claims worker None

abbrev pub with_claim : ℕ → Option Forced → Upkeep → Upkeep
with_claim worker claim u = record u { claims = slice_set u.claims worker claim }

-- a worker fetches: it is busy with its claim, it is idle as no unclaimed view has a pending task, or the planned step
-- of the view that the policy chooses becomes its claim
pub data Fetched : Type 0 where
  busy : Fetched
  idle : Fetched
  fetched : Forced → Fetched

abbrev pub no_pending : Pending
no_pending = record { view = 0; oldest = 0; actions = 0 }

abbrev pub chosen_view : ℕ → World → ℕ
chosen_view kind w = (slice_index_or (unclaimed w) (chosen kind (unclaimed w)) no_pending).view

abbrev pub fetched_step : Option Forced → ℕ → Upkeep → Fetched × Upkeep
fetched_step None worker u = (idle, u)
fetched_step (Some f) worker u = (fetched f, with_claim worker (Some f) u)

abbrev pub fetch_among : List Pending → Settings → ℕ → World → Fetched × Upkeep
fetch_among [] settings worker w = (idle, w.upkeep)
fetch_among (p ∷ ps) settings worker w = fetched_step (planned settings (chosen_view settings.policy w) w (last w.visible)) worker w.upkeep

abbrev pub fetch_by : Option Forced → Settings → ℕ → World → Fetched × Upkeep
fetch_by (Some f) settings worker w = (busy, w.upkeep)
fetch_by None settings worker w = fetch_among (unclaimed w) settings worker w

abbrev pub fetching : Settings → ℕ → World → Fetched × Upkeep
fetching settings worker w = fetch_by (claim_of w.upkeep worker) settings worker w

-- a worker installs: it has no claim, its step is installed where the view is still where the step begins, or the view
-- has moved on; the claim ends
pub data Installed : Type 0 where
  empty : Installed
  installed : Forced → Installed
  moved : Forced → ℕ → Installed

abbrev pub install_by : Option Forced → ℕ → Upkeep → Installed × Upkeep
install_by None worker u = (empty, u)
install_by (Some f) worker u =
    if point u f.view == f.lo
    then (installed f, with_claim worker None (with_steps (f ∷ []) u))
    else (moved f (point u f.view), with_claim worker None u)

abbrev pub installing : ℕ → Upkeep → Installed × Upkeep
installing worker u = install_by (claim_of u worker) worker u

-- a worker gives its claim up
abbrev pub released : ℕ → Upkeep → Upkeep
released worker u = with_claim worker None u

-- a mark writes down how far a view is maintained; it answers none where that was marked already
pub record Marking : Type 0 where
  pub answer : Result (Option ℕ) Fault
  pub next : Upkeep
  pub attempted : Option Rec

abbrev pub mark_record : ℕ → Upkeep → Rec
mark_record v u = Mark v (point u v)

abbrev pub marked_by : Outcome → ℕ → Upkeep → Marking
marked_by good v u = record { answer = Ok (Some (point u v)); next = with_record (Some (mark_record v u)) u; attempted = Some (mark_record v u) }
marked_by failed v u = record { answer = Err Store; next = u; attempted = Some (mark_record v u) }
marked_by (full needed limit) v u = record { answer = Err (JournalFull needed limit); next = u; attempted = None }

abbrev pub marking : (Rec → Outcome) → ℕ → Upkeep → Marking
marking outcome v u =
    if slice_index u.marks v == point u v
    then record { answer = Ok None; next = u; attempted = None }
    else marked_by (outcome (mark_record v u)) v u

-- a clean-up drops what nobody needs below the floor, and shows what it keeps
pub record Cleaned : Type 0 where
  pub floor : ℕ
  pub versions : ℕ
  pub deltas : ℕ

abbrev pub cleaning : World → Cleaned × Upkeep
cleaning w = (record { floor = floor w; versions = versions_kept w.visible (floor w); deltas = deltas_kept w.visible (floor w) }, record w.upkeep { pruned = floor w })
