-- The records of an engine's journal, and what a call adds to them.
use Rattle.std.specs.Prelude.{◌≡◌, ◌⊎◌, ◌≤◌, ℕ, List, [], ◌∷◌, ◌++◌, map, Option, Some, None, IfSome, IsSomeAnd, option_map}
use Rattle.std.specs.List.{AllByRecursion}
use Rattle.lv_schema.specs.declared.rec.Rec.{Rec}
use Rattle.lv_journal.specs.Bytes.{IsJournal}
use Rattle.lv_journal.specs.Standing as journal
use Rattle.lv_journal.specs.declared.writer.Writer.{Writer}
use Rattle.lv_record.specs.Spelling.{Spells, spelling}

abbrev pub IsSpelled : Rec → Type 0
IsSpelled rec = Spells (spelling rec) rec

module _ {D : Type 0} (seen : D → Option (List ℕ)) (may_leave : D → List ℕ → Type 0) where
  -- the journal has these records, and perhaps one in doubt: so its disk tells, where it tells its bytes, and so does each
  -- image that a crash may leave
  pub record HasRecords (recs : List Rec) (doubt : Option Rec) (j : Writer D) : Type 0 where
    pub spelled : AllByRecursion IsSpelled recs
    pub doubtful : IfSome doubt IsSpelled
    pub stands : journal.Stands seen may_leave j (map spelling recs) (option_map spelling doubt)

-- what may be in doubt once the disk did not keep a record: what was before, nothing, or this record
abbrev pub IsDoubt : Option Rec → Rec → Option Rec → Type 0
IsDoubt before rec after = (after ≡ before) ⊎ (after ≡ None) ⊎ (after ≡ Some rec)

-- bytes that are a journal with these records
pub record IsJournalWith (recs : List Rec) (bytes : List ℕ) : Type 0 where
  pub spelled : AllByRecursion IsSpelled recs
  pub journal : IsJournal (map spelling recs) bytes

-- what a crash during a call leaves: a journal with the records, or with these and the one in doubt, or with these and the
-- one that the call asked the disk to keep
abbrev pub IsLeftBy : List Rec → Option Rec → Option Rec → List ℕ → Type 0
IsLeftBy recs doubt attempted bytes =
    IsJournalWith recs bytes ⊎ IsSomeAnd doubt (λ q. IsJournalWith (recs ++ q ∷ []) bytes) ⊎ IsSomeAnd attempted (λ rec. IsJournalWith (recs ++ rec ∷ []) bytes)

-- What a crash since an earlier moment may leave after a call: what it might have left before the call, or bytes that have P.
pub record LeavesMore {D : Type 0} (moment : D → ℕ) (left_since : D → ℕ → List ℕ → Type 0) (old new : D) (P : List ℕ → Type 0) : Type 0 where
  pub later : moment old ≤ moment new
  pub since : (t : ℕ) (c : List ℕ) → t ≤ moment old → left_since new t c → left_since old t c ⊎ P c

module _ {D : Type 0} (seen : D → Option (List ℕ)) (may_leave : D → List ℕ → Type 0) (moment : D → ℕ) (left_since : D → ℕ → List ℕ → Type 0) where
  -- a journal had these records and perhaps one in doubt, and has these and perhaps one in doubt; what a crash meanwhile may
  -- leave, by the record that the disk was asked to keep
  pub record Logged (recs : List Rec) (doubt attempted : Option Rec) (next : List Rec) (after : Option Rec) (old new : Writer D) : Type 0 where
    pub has : HasRecords seen may_leave next after new
    pub left : LeavesMore moment left_since old.disk new.disk (IsLeftBy recs doubt attempted)

  -- what a call does to the journal, by the record that it asked the disk to keep and the one that was written
  abbrev pub Logs : Option Rec → Option Rec → Writer D → Writer D → Type 0
  Logs None written old new = (recs : List Rec) (doubt : Option Rec) → HasRecords seen may_leave recs doubt old → Logged recs doubt None recs doubt old new
  Logs (Some rec) (Some written) old new = (recs : List Rec) (doubt : Option Rec) → HasRecords seen may_leave recs doubt old → Logged recs doubt (Some rec) (recs ++ rec ∷ []) None old new
  Logs (Some rec) None old new = (recs : List Rec) (doubt : Option Rec) → HasRecords seen may_leave recs doubt old → (after : Option Rec) × IsDoubt doubt rec after × Logged recs doubt (Some rec) recs after old new
