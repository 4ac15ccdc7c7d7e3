-- What a journal stands for.
use Rattle.std.specs.Prelude.{◌≡◌, ◌⊎◌, ◌<◌, ◌≤◌, ◌+◌, ◌^◌, ℕ, List, [], ◌∷◌, ◌++◌, length, Option, Some, None, IfSome, IsSomeAnd, is_some}
use Rattle.std.specs.Option.{option_map}
use Rattle.std.specs.List.{AllByRecursion}
use Rattle.lv_journal.specs.Bytes.{spelled, records_of, IsJournal, IsPayload, Closed, Staged}
use Rattle.lv_journal.specs.declared.writer.Writer.{Writer}

-- the records and no more, or the records and one whose gate may be open or closed
abbrev pub Keeps : List (List ℕ) → Option (List ℕ) → List ℕ → Type 0
Keeps ps None bytes = Closed ps bytes
Keeps ps (Some p) bytes = Staged ps p bytes

-- the journal has these records, and perhaps one in doubt; so has each image
pub record Stands {D : Type 0} (seen : D → Option (List ℕ)) (may_leave : D → List ℕ → Type 0) (journal : Writer D) (ps : List (List ℕ)) (doubt : Option (List ℕ)) : Type 0 where
  pub payloads : AllByRecursion IsPayload ps
  pub doubtful : IfSome doubt IsPayload
  pub place : journal.gate ≡ length (spelled ps)
  pub marked : journal.in_doubt ≡ is_some doubt
  pub told : IfSome (seen journal.disk) (Keeps ps doubt)
  pub images : (c : List ℕ) → may_leave journal.disk c → Keeps ps doubt c

-- the journal has some records, and perhaps one in doubt
abbrev pub IsStanding : {D : Type 0} → (D → Option (List ℕ)) → (D → List ℕ → Type 0) → Writer D → Type 0
IsStanding seen may_leave journal = (ps : List (List ℕ)) × (doubt : Option (List ℕ)) × Stands seen may_leave journal ps doubt

-- the bytes are a journal with the records, or with these and the one in doubt
abbrev pub RecordsIn : List (List ℕ) → Option (List ℕ) → List ℕ → Type 0
RecordsIn ps None bytes = IsJournal ps bytes
RecordsIn ps (Some q) bytes = IsJournal ps bytes ⊎ IsJournal (ps ++ q ∷ []) bytes

-- with the records, or with these and the one in doubt, or with these and the new one
abbrev pub RecordsOr : List (List ℕ) → Option (List ℕ) → List ℕ → List ℕ → Type 0
RecordsOr ps doubt p bytes =
    IsJournal ps bytes ⊎ IsSomeAnd doubt (λ q. IsJournal (ps ++ q ∷ []) bytes) ⊎ IsJournal (ps ++ p ∷ []) bytes

-- a put of n bytes takes no memory
pub record IsReserved {D : Type 0} (ready : D → ℕ → ℕ → ℕ → Type 0) (journal : Writer D) (n : ℕ) : Type 0 where
  pub room : ready journal.disk 6 (n + 7) (journal.gate + n + 6)
  pub frame : n + 6 ≤ journal.frame.room
  pub fits : journal.gate + n + 6 < 2 ^ 64

-- the length of a journal, which ends with its closed gate
abbrev pub journal_length : {D : Type 0} → Writer D → ℕ
journal_length journal = journal.gate + 1

-- the records of a journal, where its disk tells its bytes
abbrev pub records : {D : Type 0} → (D → Option (List ℕ)) → Writer D → Option (List (List ℕ))
records seen journal = option_map records_of (seen journal.disk)
