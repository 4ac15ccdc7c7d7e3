-- What a reader has read.
use Rattle.std.specs.Prelude.{◌≡◌, ◌≤◌, ℕ, List, ◌∷◌, length, take, drop, Option, IfSome, true}
use Rattle.std.specs.List.{AllByRecursion}
use Rattle.lv_outside.specs.Images.{OnlyTold}
use Rattle.std.specs.Int.{to_le_bytes}
use Rattle.std.proofs.Common.{w32}
use Rattle.lv_journal.specs.Bytes.{magic, spelled, found_at, IsPayload, Closed, Begins}
use Rattle.lv_journal.specs.declared.found.Found.TheVariants.{Open}
use Rattle.lv_journal.specs.declared.scan.Scan.{Scan}

-- the reader has answered these records, and stands at the gate behind them; what is told begins with them, and is all
-- that a crash may leave; once the reader has ended, that gate is there and closed
pub record IsRead {D : Type 0} (seen : D → Option (List ℕ)) (may_leave : D → List ℕ → Type 0) (scan : Scan D) (ps : List (List ℕ)) : Type 0 where
  pub payloads : AllByRecursion IsPayload ps
  pub place : scan.gate ≡ length (spelled ps)
  pub within : scan.gate ≤ scan.size
  pub size : IfSome (seen scan.disk) (λ f. length f ≡ scan.size)
  pub told : IfSome (seen scan.disk) (Begins ps)
  pub images : OnlyTold (seen scan.disk) (may_leave scan.disk)
  pub ended : scan.ended ≡ true → IfSome (seen scan.disk) (Closed ps)

-- the reader has answered some records
abbrev pub IsReading : {D : Type 0} → (D → Option (List ℕ)) → (D → List ℕ → Type 0) → Scan D → Type 0
IsReading seen may_leave scan = (ps : List (List ℕ)) × IsRead seen may_leave scan ps

-- a disk that was prepared for reading: what is told has this length and begins with the magic
pub record IsReady (n : ℕ) (bytes : List ℕ) : Type 0 where
  pub size : length bytes ≡ n
  pub begins : take 8 bytes ≡ magic

-- at this place an open gate stands, with a whole frame of so many bytes
pub record OpensAt (gate count : ℕ) (bytes : List ℕ) : Type 0 where
  pub found : found_at (drop gate bytes) ≡ Open count
  pub head : take 5 (drop gate bytes) ≡ 1 ∷ to_le_bytes w32 count
