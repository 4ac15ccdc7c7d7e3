-- What the bytes of a journal open as, and where they are bad.
use Rattle.std.specs.Prelude.{◌≡◌, ◌≢◌, ◌⊎◌, ◌<◌, ℕ, true, false, List, [], ◌∷◌, ◌++◌, map, length, take, slice_get, Some, None}
use Rattle.std.specs.List.{AllByRecursion}
use Rattle.lv_schema.specs.declared.rec.Rec.{Rec}
use Rattle.lv_journal.specs.Bytes.{magic, length_with, records_of, bad_place}
use Rattle.lv_record.specs.Spelling.{Spells, spelling}
use Rattle.lv_replay.specs.Applies.{all_apply}
use Rattle.lv_engine.specs.Records.{IsSpelled}

-- each of these payloads spells the record at its place, and each record applies to what those before it make
pub record AreSpelled (payloads : List (List ℕ)) (recs : List Rec) : Type 0 where
  pub spelled : AllByRecursion IsSpelled recs
  pub payloads_are : payloads ≡ map spelling recs
  pub apply : all_apply recs ≡ true

-- a journal that is nowhere bad, and its payloads spell these records
pub record IsJournalOf (bytes : List ℕ) (recs : List Rec) : Type 0 where
  pub good : bad_place bytes ≡ None
  pub spelled : AreSpelled (records_of bytes) recs

-- the records as which bytes open: an empty disk is a journal with no record
abbrev pub OpensAs : List ℕ → List Rec → Type 0
OpensAs [] recs = recs ≡ []
OpensAs (byte ∷ bytes) recs = IsJournalOf (byte ∷ bytes) recs

-- ---- where bytes are bad
-- bytes that do not begin as a journal are bad at 0
pub record IsForeign (bytes : List ℕ) (offset : ℕ) : Type 0 where
  pub some : 0 < length bytes
  pub begins : take 8 bytes ≢ magic
  pub at : offset ≡ 0

-- behind these records a payload spells no record that applies; its frame stands at this place
pub record IsRefused (bytes : List ℕ) (recs : List Rec) (offset : ℕ) : Type 0 where
  pub payload : List ℕ
  pub next : slice_get (records_of bytes) (length recs) ≡ Some payload
  pub refused : (rec : Rec) → Spells payload rec → all_apply (recs ++ rec ∷ []) ≡ false
  pub at : offset ≡ length_with (map spelling recs)

-- behind these records is no payload, but a place where the bytes are bad
pub record IsCut (bytes : List ℕ) (recs : List Rec) (offset : ℕ) : Type 0 where
  pub all : records_of bytes ≡ map spelling recs
  pub at : bad_place bytes ≡ Some offset

-- bytes that begin as a journal, whose first payloads spell these records, are bad behind them
pub record IsBadBehind (bytes : List ℕ) (recs : List Rec) (offset : ℕ) : Type 0 where
  pub begins : take 8 bytes ≡ magic
  pub spelled : AreSpelled (take (length recs) (records_of bytes)) recs
  pub why : IsRefused bytes recs offset ⊎ IsCut bytes recs offset

abbrev pub BadAt : List ℕ → ℕ → Type 0
BadAt bytes offset = IsForeign bytes offset ⊎ ((recs : List Rec) × IsBadBehind bytes recs offset)
