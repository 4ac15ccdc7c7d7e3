-- What is kept of the live transactions.
use Rattle.std.specs.Prelude.{◌≡◌, ℕ, ◌+◌, ◌≤◌, Bool, false, ◌&&◌, nat_le, nat_lt, min, List, [], ◌∷◌, ◌++◌, length, is_some, true, slice_index_or, slice_set, Option, Some, None, unwrap_or}
use Rattle.lv_schema.specs.declared.action.Action.{Action}
use Rattle.lv_schema.specs.declared.table.TableDef.{TableDef}
use Rattle.lv_schema.specs.Cases.{numbered}
use Rattle.lv_schema.specs.World.{least}
use Rattle.lv_overlay.specs.declared.put.Put.{Put}
use Rattle.lv_overlay.specs.Puts.{PutsTake}

-- the commit whose state a transaction reads, its writes, its actions in order, and how many of its changes were accepted
pub record TransactionKept : Type 0 where
  pub snapshot : ℕ
  pub puts : List Put
  pub actions : List Action
  pub changes : ℕ

-- a transaction that begins
abbrev pub begun : ℕ → TransactionKept
begun snapshot = record { snapshot = snapshot; puts = []; actions = []; changes = 0 }

-- a session's transaction, if it is live
abbrev pub transaction_at : List (Option TransactionKept) → ℕ → Option TransactionKept
transaction_at sessions session = slice_index_or sessions session None

abbrev pub IsLive : List (Option TransactionKept) → ℕ → Type 0
IsLive sessions session = is_some (transaction_at sessions session) ≡ true

abbrev pub transaction_of : List (Option TransactionKept) → ℕ → TransactionKept
transaction_of sessions session = unwrap_or (transaction_at sessions session) (begun 0)

-- no session from a number on is live
abbrev pub NoneLiveFrom : ℕ → List (Option TransactionKept) → Type 0
NoneLiveFrom used sessions = (session : ℕ) → used ≤ session → transaction_at sessions session ≡ None

-- a place for each session, where the live ones are all among the first so many
pub record ArePlaces (used : ℕ) (sessions : List (Option TransactionKept)) : Type 0 where
  pub each : length sessions ≡ 17
  pub within : used ≤ 17
  pub free : NoneLiveFrom used sessions

-- the snapshots of the live transactions, and the least of them
abbrev pub live_kept : List (Option TransactionKept) → List ℕ
live_kept [] = []
live_kept (None ∷ sessions) = live_kept sessions
live_kept (Some t ∷ sessions) = t.snapshot ∷ live_kept sessions

abbrev pub least_of : List ℕ → Option ℕ
least_of [] = None
least_of (n ∷ ns) = Some (least n ns)

-- the lesser of a snapshot and that of a transaction, if there is one
abbrev pub lesser : Option ℕ → Option TransactionKept → Option ℕ
lesser least None = least
lesser None (Some t) = Some t.snapshot
lesser (Some n) (Some t) = Some (min n t.snapshot)

-- whether a transaction's snapshot is at or above the one number and below the other
abbrev pub snapshot_inside : ℕ → ℕ → Option TransactionKept → Bool
snapshot_inside from below None = false
snapshot_inside from below (Some t) = nat_le from t.snapshot && nat_lt t.snapshot below

-- one more accepted change: its actions carry its number, and the writes take them
abbrev pub changed_by : List Put → List Action → TransactionKept → TransactionKept
changed_by puts actions t = record { snapshot = t.snapshot; puts = puts; actions = t.actions ++ numbered (t.changes + 1) actions; changes = t.changes + 1 }

pub record Changes (tables : List TableDef) (actions : List Action) (old new : TransactionKept) : Type 0 where
  pub is : new ≡ changed_by new.puts actions old
  pub take : PutsTake tables actions old.puts new.puts

-- a session's transaction changes, and every other one is as it was
pub record SessionChanges (tables : List TableDef) (actions : List Action) (session : ℕ) (old new : List (Option TransactionKept)) : Type 0 where
  pub is : new ≡ slice_set old session (Some (transaction_of new session))
  pub changes : Changes tables actions (transaction_of old session) (transaction_of new session)
