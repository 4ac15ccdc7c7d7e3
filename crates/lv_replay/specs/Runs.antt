-- What the records that are written keep of a world.
use Rattle.std.specs.Prelude.{◌≡◌, ℕ, true, List, [], ◌∷◌, Option, Some, None, Result, Ok, Err}
use Rattle.lv_schema.specs.declared.fault.Fault.{Fault}
use Rattle.lv_schema.specs.declared.rec.Rec.{Rec}
use Rattle.lv_schema.specs.UpkeepCases.{Marking}
use Rattle.lv_schema.specs.World.{World}
use Rattle.lv_replay.specs.Applies.{applies}
use Rattle.lv_replay.specs.Replayed.{durable, replayed}

-- What a stop leaves of the next world is what the record that was written makes of what it left before; that record
-- applies there. Where none was written a stop leaves the same.
abbrev pub Keeps : Option Rec → World → World → Type 0
Keeps None w next = durable next ≡ durable w
Keeps (Some rec) w next = (applies rec (durable w) ≡ true) × (durable next ≡ replayed rec (durable w))

-- the record that a mark wrote
abbrev pub mark_written : Marking → Option Rec
mark_written m = by m.answer
  where
    by : Result (Option ℕ) Fault → Option Rec
    by (Ok (Some upto)) = m.attempted
    by (Ok None) = None
    by (Err fault) = None

-- the records of a run, and this one where it was written
abbrev pub noted_record : Option Rec → List Rec
noted_record None = []
noted_record (Some rec) = rec ∷ []

-- a world that a stop leaves as it is
abbrev pub IsStopped : World → Type 0
IsStopped w = durable w ≡ w
