-- Differences of views that are computed and not installed yet.
use Rattle.std.specs.Prelude.{◌≡◌, ℕ, ◌+◌, ◌<◌, ◌≤◌, ◌==◌, List, [], ◌∷◌, ◌++◌, length, map, filter, slice_index_or, slice_set}
use Rattle.std.specs.List.{AllByRecursion}
use Rattle.lv_schema.specs.declared.forced.Forced.{Forced}
use Rattle.lv_txn.specs.Kept.{transaction_of}
use Rattle.lv_viewrows.specs.Changed.{CanInstall}
use Rattle.lv_viewrows.specs.Kept.{ViewKept}
use Rattle.lv_store.specs.declared.pending.Difference.{Difference}
use Rattle.lv_store.specs.declared.store.Store.{Store}
use Rattle.lv_store.specs.Querying.{RowsInstall, changes_in}
use Rattle.lv_store.specs.Kept.{rows_in}

-- ---- each view has its own
-- those of the view with this number; and one more for a view
abbrev pub pending_at : List (List Difference) → ℕ → List Difference
pending_at pending v = slice_index_or pending v []

abbrev pub with_difference : ℕ → Difference → List (List Difference) → List (List Difference)
with_difference v d pending = slice_set pending v (pending_at pending v ++ d ∷ [])

-- the difference that a step gives, and the steps of one view
abbrev pub difference_in : Store → Forced → Difference
difference_in p f = record { hi = f.hi; changes = changes_in p f }

abbrev pub on_view : ℕ → List Forced → List Forced
on_view v fs = filter (λ f. f.view == v) fs

-- each view has the differences of its steps among these, in their order
pub record ArePending (p : Store) (fs : List Forced) (pending : List (List Difference)) : Type 0 where
  pub all : length pending ≡ length p.rows.list
  pub each : (v : ℕ) → v < length p.rows.list → pending_at pending v ≡ map (difference_in p) (on_view v fs)

-- ---- what they make of the rows of views
-- the rows of a view take differences, one after another, and stay below each as far down as the floor; of the room
-- nothing is said
abbrev pub TakesEach : ℕ → List Difference → ViewKept → ViewKept → Type 0
TakesEach floor [] old new = new ≡ record old { spare = new.spare }
TakesEach floor (d ∷ ds) old new = (next : ViewKept) × RowsInstall floor d.hi d.changes old next × TakesEach floor ds next new

-- and each can be installed where those before it are
abbrev pub CanTakeEach : ℕ → List Difference → ViewKept → Type 0
CanTakeEach floor [] old = Unit {0}
CanTakeEach floor (d ∷ ds) old = CanInstall old d.hi d.changes × ((next : ViewKept) → RowsInstall floor d.hi d.changes old next → CanTakeEach floor ds next)

-- the same of each view
pub record AllTake (floor : ℕ) (pending : List (List Difference)) (old new : List ViewKept) : Type 0 where
  pub all : length new ≡ length old
  pub each : (v : ℕ) → v < length old → TakesEach floor (pending_at pending v) (rows_in old v) (rows_in new v)

pub record CanAllTake (floor : ℕ) (pending : List (List Difference)) (old : List ViewKept) : Type 0 where
  pub all : length pending ≡ length old
  pub each : (v : ℕ) → v < length old → CanTakeEach floor (pending_at pending v) (rows_in old v)

-- how many rows differences have, and room for those of each view
abbrev pub changed_rows : List Difference → ℕ
changed_rows [] = 0
changed_rows (d ∷ ds) = length d.changes + changed_rows ds

abbrev pub HaveRoom : List (List Difference) → List ViewKept → Type 0
HaveRoom pending rows = (v : ℕ) → v < length rows → changed_rows (pending_at pending v) ≤ (rows_in rows v).spare

-- ---- what a session reads
-- differences that end at or below a commit
abbrev pub AreUpTo : ℕ → List Difference → Type 0
AreUpTo n ds = AllByRecursion (λ d. d.hi ≤ n) ds

-- differences that can be installed in copies of what is kept, where every read below them stays, and that end at or
-- below the session's snapshot
pub record CanRead (p : Store) (session : ℕ) (pending : List (List Difference)) : Type 0 where
  pub can : CanAllTake 0 pending p.rows.list
  pub upto : (v : ℕ) → v < length p.rows.list → AreUpTo (transaction_of p.txns session).snapshot (pending_at pending v)
