-- What the calls of workers and clean-ups say of the plain machine, in each world that the engine stood for.
use Rattle.std.specs.Prelude.{◌≡◌, ℕ, ◌+◌, ◌≤◌, min, List, [], ◌∷◌, slice_set, Option, Some, None, IsTrue}
use Rattle.std.specs.List.{AllByRecursion}
use Rattle.lv_schema.specs.declared.forced.Forced.{Forced}
use Rattle.lv_schema.specs.declared.pending.Pending.{Pending}
use Rattle.lv_schema.specs.StepPlans.{is_inside}
use Rattle.lv_schema.specs.UpkeepCases.{Fetched, busy, idle, fetched, Installed, empty, installed, moved}
use Rattle.lv_schema.specs.UpkeepCases as schema
use Rattle.lv_schema.specs.Versions.{ends_after}
use Rattle.lv_schema.specs.WholeWorld.{Done}
use Rattle.lv_schema.specs.World.{Visible}
use Rattle.lv_maint.specs.Inputs.{Input}
use Rattle.lv_stands.specs.Kept.{ViewKept}
use Rattle.lv_stands.specs.Moves.{ViewCleaned, view_chosen}
use Rattle.lv_txn.specs.Kept.{live_kept}
use Rattle.lv_upkeep.specs.Kept.{planned_in, unclaimed_in}
use Rattle.lv_viewrows.specs.Kept as viewrows
use Rattle.lv_store.specs.declared.cleaned.Cleaned.{Cleaned}
use Rattle.lv_store.specs.declared.installed.Installed.{Installed as InstallAnswer}
use Rattle.lv_store.specs.declared.installed.Installed.TheVariants as answer
use Rattle.lv_store.specs.declared.store.Store.{Store}
use Rattle.lv_store.specs.Answering.{IsCostBetween, IsInputBetween}
use Rattle.lv_store.specs.Kept.{StoreKept, Stands, kept, rows_in, rows_of, store_of}

-- what a worker is given: what its step is computed from, if it is given one
abbrev pub IsGiven : Visible → Fetched → Option Input → Type 0
IsGiven s busy given = given ≡ None
IsGiven s idle given = given ≡ None
IsGiven s (fetched f) given = (input : Input) × (given ≡ Some input) × IsInputBetween s f input

-- how much is read for it: at most what its step costs
abbrev pub TakesGiven : Visible → Fetched → ℕ → ℕ → Type 0
TakesGiven s busy old new = new ≡ old
TakesGiven s idle old new = new ≡ old
TakesGiven s (fetched f) old new = (n : ℕ) → IsCostBetween s f n → new ≤ old + n

pub record GivesFetch (s : Visible) (done : Done Fetched) (input : Option Input) (new : StoreKept) : Type 0 where
  pub input_is : IsGiven s done.answer input
  pub stands : Stands done.next new

-- what a claim tells: the step that is claimed, or that there is none
abbrev pub step_told : Option Forced → Fetched
step_told None = idle
step_told (Some f) = fetched f

pub record GivesClaim (done : Done Fetched) (step : Option Forced) (new : StoreKept) : Type 0 where
  pub step_is : step_told step ≡ done.answer
  pub stands : Stands done.next new

-- what became of a step that was claimed
abbrev pub told : InstallAnswer → Installed
told (answer.Done view lo hi) = installed (record { view = view; lo = lo; hi = hi })
told (answer.Moved view lo hi point) = moved (record { view = view; lo = lo; hi = hi }) point

pub record GivesInstall (done : Done Installed) (a : InstallAnswer) (new : StoreKept) : Type 0 where
  pub answer_is : told a ≡ done.answer
  pub stands : Stands done.next new

-- how much an install reads: at most what its step costs, and nothing where the view has moved on
abbrev pub TakesInstalled : Visible → Installed → ℕ → ℕ → Type 0
TakesInstalled s empty old new = new ≡ old
TakesInstalled s (installed f) old new = (n : ℕ) → IsCostBetween s f n → new ≤ old + n
TakesInstalled s (moved f point) old new = new ≡ old

-- what a clean-up shows
abbrev pub shown_by : Cleaned → schema.Cleaned
shown_by c = record { floor = c.floor; versions = c.versions; deltas = c.deltas }

pub record GivesCleaned (done : Done schema.Cleaned) (a : Cleaned) (new : StoreKept) : Type 0 where
  pub answer_is : shown_by a ≡ done.answer
  pub stands : Stands done.next new

-- no version of a view's rows is kept that ended at or below a number
abbrev pub KeepsNoneBelow : ℕ → List ViewKept → Type 0
KeepsNoneBelow number rows = AllByRecursion (λ k. AllByRecursion (λ v. IsTrue (ends_after number v.until)) k.versions) rows

-- ---- told from the parts
-- the step that a worker would be given: the planned step of the view that a policy of this kind chooses
abbrev pub next_among : List Pending → ℕ → Store → Option Forced
next_among [] kind p = None
next_among (q ∷ qs) kind p = planned_in (is_inside (live_kept p.txns)) p.settings.combine p.upkeep.kept (view_chosen kind (kept 0 (store_of p))) p.base.number

abbrev pub next_in : ℕ → Store → Option Forced
next_in kind p = next_among (unclaimed_in p.upkeep.kept) kind p

-- one of the views has other room, and nothing else changes
abbrev pub RoomChanges : ℕ → List viewrows.ViewKept → List viewrows.ViewKept → Type 0
RoomChanges view old new = (spare : ℕ) × (new ≡ slice_set old view (record (rows_in old view) { spare = spare }))

-- the rows of a view lose the versions that ended at or below a number
pub record RowsPruned (number : ℕ) (old new : viewrows.ViewKept) : Type 0 where
  pub def_stays : new.def ≡ old.def
  pub cleaned : ViewCleaned number (rows_of old) (rows_of new)

-- the lesser of a number and another one, if there is another
abbrev pub lesser : ℕ → Option ℕ → ℕ
lesser n None = n
lesser n (Some k) = min n k
