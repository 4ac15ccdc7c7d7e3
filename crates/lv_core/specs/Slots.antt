-- Slots of workers, and what is put into them.
use Rattle.std.specs.Prelude.{◌≡◌, ℕ, List, slice_index_or, slice_set, Option, Some, None}
use Rattle.lv_schema.specs.UpkeepCases.{fetching}
use Rattle.lv_maint.specs.Inputs.{Input}
use Rattle.lv_store.specs.Maintaining.{IsGiven}
use Rattle.lv_core.specs.Run.{CoreView, state_of}

-- for each worker what the step that it has fetched is computed from, until that is taken out or the claim ends
abbrev pub SlotsKept : Type 0
SlotsKept = List (Option Input)

-- a worker's slot, and the slots when it is empty
abbrev pub slot_of : SlotsKept → ℕ → Option Input
slot_of slots worker = slice_index_or slots worker None

abbrev pub slots_without : ℕ → SlotsKept → SlotsKept
slots_without worker slots = slice_set slots worker None

-- the slots after a fetch: where a step is fetched, the worker's has what it is computed from
abbrev pub slots_given : ℕ → Option Input → SlotsKept → SlotsKept
slots_given worker None slots = slots
slots_given worker (Some input) slots = slice_set slots worker (Some input)

-- what a worker is given now: what the step is computed from that it fetches
abbrev pub IsNextInput : {D : Type 0} → CoreView D → ℕ → Option Input → Type 0
IsNextInput c worker given = let w = (state_of c).world in IsGiven w.visible (fetching c.settings worker w).0 given

-- and is put into its slot
pub record GivesSlot {D : Type 0} (c : CoreView D) (worker : ℕ) (old new : SlotsKept) : Type 0 where
  pub given : Option Input
  pub is : IsNextInput c worker given
  pub slots : new ≡ slots_given worker given old
