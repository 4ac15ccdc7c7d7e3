-- The bytes of a journal: a magic, then gates and frames up to the first closed gate. A gate is one byte, open
-- only as 1. A frame is a length of four bytes, the lowest first, and a payload of that length, which is not empty.
use Rattle.std.specs.Prelude.{◌≡◌, ◌≢◌, ◌<◌, ◌+◌, ◌^◌, ◌&&◌, ◌==◌, ℕ, Bool, List, [], ◌∷◌, ◌++◌, length, take, drop, nat_lt, nat_le, if◌then◌else◌, codes, Option, Some, None, sum_by}
use Rattle.std.specs.Int.{to_le_bytes, from_le_bytes}
use Rattle.std.specs.Str.{bytes_eq}
use Rattle.std.proofs.Common.{w32, zero, suc}
use Rattle.lv_journal.specs.declared.found.Found.{Found}
use Rattle.lv_journal.specs.declared.found.Found.TheVariants.{Missing, Shut, Broken, Open}

abbrev pub magic : List ℕ
magic = codes "LVJRNL01"

abbrev pub frame : List ℕ → List ℕ
frame payload = to_le_bytes w32 (length payload) ++ payload

-- each payload's frame behind an open gate
abbrev pub opened : List (List ℕ) → List ℕ
opened [] = []
opened (p ∷ ps) = 1 ∷ frame p ++ opened ps

-- the bytes of these records, up to the gate behind them
abbrev pub spelled : List (List ℕ) → List ℕ
spelled ps = magic ++ opened ps

-- the length of a journal with these records, which ends with its closed gate
abbrev pub length_with : List (List ℕ) → ℕ
length_with ps = 9 + sum_by (λ p. length p + 5) ps

abbrev pub length_of : List ℕ → ℕ
length_of bytes = from_le_bytes w32 (take 4 bytes)

-- the bytes begin with a whole frame, of one byte or more
abbrev pub begins_frame : List ℕ → Bool
begins_frame bytes = nat_lt 0 (length_of bytes) && nat_le (4 + length_of bytes) (length bytes)

-- what the bytes begin with: no gate, a closed gate, an open one with no whole frame behind it, or an open one with a
-- frame of so many bytes
abbrev pub found_at : List ℕ → Found
found_at [] = Missing
found_at (gate ∷ rest) = if gate == 1 then (if begins_frame rest then Open (length_of rest) else Broken) else Shut

-- the payloads of the frames from a gate on, at most so many
abbrev pub payloads : ℕ → List ℕ → List (List ℕ)
payloads zero bytes = []
payloads (suc n) bytes = elim (found_at bytes) [
  | Missing ↦ []
  | Shut ↦ []
  | Broken ↦ []
  | Open count ↦ take count (drop 5 bytes) ∷ payloads n (drop (5 + count) bytes)
]

-- where the frames from a gate on are bad, which stands at this offset: a gate that is not there, or a frame that is
-- not whole or is empty. None where they end with a closed gate.
abbrev pub bad_from : ℕ → ℕ → List ℕ → Option ℕ
bad_from zero offset bytes = None
bad_from (suc n) offset bytes = elim (found_at bytes) [
  | Missing ↦ Some offset
  | Shut ↦ None
  | Broken ↦ Some (offset + 1)
  | Open count ↦ bad_from n (offset + (count + 5)) (drop (5 + count) bytes)
]

-- the records of a journal: the payloads before its first closed gate, or before the place where it is bad
abbrev pub records_of : List ℕ → List (List ℕ)
records_of bytes = payloads (length bytes) (drop 8 bytes)

-- where the bytes are no journal: at 0 where they do not begin with the magic
abbrev pub bad_place : List ℕ → Option ℕ
bad_place bytes = if bytes_eq (take 8 bytes) magic then bad_from (length bytes) 8 (drop 8 bytes) else Some 0

-- what can be a payload
pub record IsPayload (p : List ℕ) : Type 0 where
  pub some : 0 < length p
  pub fits : length p < 2 ^ 32

-- the records, and then a closed gate, whatever stands behind it
pub record Closed (ps : List (List ℕ)) (bytes : List ℕ) : Type 0 where
  pub gate : ℕ
  pub behind : List ℕ
  pub shut : gate ≢ 1
  pub is : bytes ≡ spelled ps ++ gate ∷ behind

-- the records, and then a gate of any value with a whole frame and a closed gate behind it
pub record Staged (ps : List (List ℕ)) (p bytes : List ℕ) : Type 0 where
  pub gate : ℕ
  pub next : ℕ
  pub behind : List ℕ
  pub shut : next ≢ 1
  pub is : bytes ≡ spelled ps ++ (gate ∷ frame p ++ next ∷ behind)

-- the records, and then anything
pub record Begins (ps : List (List ℕ)) (bytes : List ℕ) : Type 0 where
  pub rest : List ℕ
  pub is : bytes ≡ spelled ps ++ rest

-- a journal that is nowhere bad, with these records
pub record IsJournal (ps : List (List ℕ)) (bytes : List ℕ) : Type 0 where
  pub good : bad_place bytes ≡ None
  pub all : records_of bytes ≡ ps
