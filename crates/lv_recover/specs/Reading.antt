-- Records that are read from a journal and taken.
use Rattle.std.specs.Prelude.{◌≡◌, ℕ, List, map, Option, None}
use Rattle.std.specs.List.{AllByRecursion}
use Rattle.lv_schema.specs.declared.rec.Rec.{Rec}
use Rattle.lv_journal.specs.Bytes.{records_of, bad_place}
use Rattle.lv_journal.specs.Reading.{IsRead}
use Rattle.lv_journal.specs.declared.scan.Scan.{Scan}
use Rattle.lv_loading.specs.Loads.{LoadingKept, Loads}
use Rattle.lv_record.specs.Spelling.{spelling}
use Rattle.lv_engine.specs.Records.{IsSpelled}

-- these records were read and taken
pub record HasRead {D : Type 0} (seen : D → Option (List ℕ)) (may_leave : D → List ℕ → Type 0) (recs : List Rec) (scan : Scan D) (k : LoadingKept) : Type 0 where
  pub spelled : AllByRecursion IsSpelled recs
  pub read : IsRead seen may_leave scan (map spelling recs)
  pub loads : Loads recs k

-- a journal ends behind these records
pub record EndsBehind (recs : List Rec) (bytes : List ℕ) : Type 0 where
  pub all : records_of bytes ≡ map spelling recs
  pub good : bad_place bytes ≡ None
