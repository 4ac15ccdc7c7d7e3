-- The forms of a transcript's entries.
use Rattle.std.specs.Prelude.{ℕ, Bool, true, false, not, ◌&&◌, ◌||◌, ◌⊎◌, List, [], ◌∷◌, codes, drop, slice_index}
use Rattle.std.proofs.Common.{inl, inr}
use Rattle.std.specs.Char.{is_ascii_digit}
use Rattle.std.specs.List.{AllByRecursion, prefix_len}
use Rattle.lv_reading.specs.Reading.{Reader, begins, pure, ◌>>=◌}
use Rattle.lv_schema.specs.declared.fault.Fault.{Fault}
use Rattle.lv_schema.specs.declared.fault.Fault.TheVariants as fault
use Rattle.lv_schema.specs.declared.forced.Forced.{Forced}
use Rattle.lv_plain.specs.declared.entry.Reply.{Reply}
use Rattle.lv_plain.specs.declared.entry.MarkOutcome.{MarkOutcome}
use Rattle.lv_plain.specs.declared.entry.MarkOutcome.TheVariants.{Upto, Already, Refused}
use Rattle.lv_plain.specs.declared.entry.Entry.{Entry}
use Rattle.lv_plain.specs.declared.entry.Entry.TheVariants as entry
use Rattle.lv_forms.specs.Forms.{Form, nothing, small, count, ended, pair, both, either, repeated, mapped, only}
use Rattle.lv_forms.specs.Tables.{Kind, kind, Fields, at, make_of, sum}
use Rattle.lv_lines.specs.declared.names.Names.{Names}
use Rattle.lv_lines.specs.Words.{word_len, is_numbered}
use Rattle.lv_lines.specs.declared.worker.Action.{Action}
use Rattle.lv_lines.specs.declared.worker.Action.TheVariants as action
use Rattle.lv_lines.specs.ValueForms.{name, own}
use Rattle.lv_lines.specs.FaultForms.{any_fault}
use Rattle.lv_lines.specs.ReplyForms.{any_reply, forced_line}
use Rattle.lv_lines.specs.WorkerForms.{any_action, worker}

-- ---- what comes next

-- Before its statement's line an entry has force lines alone, so that a session may be called force too.
abbrev pub is_forced : List ℕ → Bool
is_forced bytes = not (is_numbered bytes)

-- whether a clean-up's line comes next, and no statement of a session that is called clean
abbrev pub is_cleaned : List ℕ → Bool
is_cleaned bytes = begins (codes "clean ") bytes && begins (codes " versions ") (drop (prefix_len is_ascii_digit (drop 6 bytes)) (drop 6 bytes))

abbrev pub goes_on : List ℕ → Bool
goes_on [] = false
goes_on (b ∷ bytes) = true

-- ---- statements

-- the session's name, the statement's place and the reply
abbrev pub statement_line : Names → Form (ℕ × (ℕ × Reply))
statement_line names = pair (name names.sessions) (codes " ") (pair small (codes " ") (any_reply names))

-- the steps that it forced come first
abbrev pub Statement : Type 0
Statement = List Forced × (ℕ × (ℕ × Reply))

abbrev pub statement : Names → Form Statement
statement names = both (repeated is_forced (forced_line names)) (statement_line names)

-- a line whose second word is a number, or a step that was forced, but no clean-up
abbrev pub is_statement : List ℕ → Bool
is_statement bytes = not (is_cleaned bytes) && (begins (codes "force ") bytes || is_numbered bytes)

-- ---- marks

-- a disk that failed, or a full journal
abbrev pub is_store_fault : Fault → Bool
is_store_fault fault.Store = true
is_store_fault (fault.JournalFull need limit) = true
is_store_fault _ = false

abbrev pub store_fault : Names → Form Fault
store_fault names = only is_store_fault (any_fault names)

abbrev pub outcome_kinds : Names → List (Kind MarkOutcome)
outcome_kinds names =
    kind (codes "none") nothing (λ _. Already)
    ∷ kind (codes "fault ") (store_fault names) Refused
    ∷ []

abbrev pub outcome_of : (names : Names) → ℕ ⊎ Fields (outcome_kinds names) → MarkOutcome
outcome_of names (inl number) = Upto number
outcome_of names (inr x) = make_of (outcome_kinds names) x

abbrev pub outcome_parts : (names : Names) → MarkOutcome → ℕ ⊎ Fields (outcome_kinds names)
outcome_parts names (Upto number) = inl number
outcome_parts names Already = inr (at (outcome_kinds names) 0 tt)
outcome_parts names (Refused found) = inr (at (outcome_kinds names) 1 found)

abbrev pub starts_number : List ℕ → Bool
starts_number bytes = is_ascii_digit (slice_index bytes 0)

abbrev pub outcome : Names → Form MarkOutcome
outcome names = mapped (outcome_of names) (outcome_parts names) (either starts_number count (sum (outcome_kinds names)))

-- whether the word that comes next has no view
abbrev pub is_unknown : List ℕ → Bool
is_unknown bytes = begins (codes " unknown") (drop (word_len bytes) bytes)

abbrev pub mark : Names → Form (List ℕ ⊎ (ℕ × MarkOutcome))
mark names = either is_unknown (ended own (codes " unknown\n")) (pair (name names.views) (codes " ") (ended (outcome names) (codes "\n")))

abbrev pub mark_entry : List ℕ ⊎ (ℕ × MarkOutcome) → Entry
mark_entry (inl name) = entry.MarkUnknown name
mark_entry (inr p) = entry.Marked p.0 p.1

-- ---- entries

abbrev pub action_entry : ℕ → Action → Entry
action_entry worker (action.Fetch s) = entry.Fetched worker s.view s.lo s.hi
action_entry worker action.Idle = entry.Idle worker
action_entry worker action.Busy = entry.Busy worker
action_entry worker (action.Install s) = entry.Installed worker s.view s.lo s.hi
action_entry worker (action.Moved s point) = entry.Moved worker s.view s.lo s.hi point
action_entry worker action.Empty = entry.Empty worker
action_entry worker action.Release = entry.Released worker

abbrev pub entry_kinds : Names → List (Kind Entry)
entry_kinds names =
    kind (codes "mark ") (mark names) mark_entry
    ∷ kind (codes "w") (both worker (any_action names)) (λ p. action_entry p.0 p.1)
    ∷ kind (codes "clean ") (pair count (codes " versions ") (pair count (codes " deltas ") (ended count (codes "\n")))) (λ p. entry.Cleaned p.0 p.1.0 p.1.1)
    ∷ []

abbrev pub entry_of : (names : Names) → Statement ⊎ Fields (entry_kinds names) → Entry
entry_of names (inl s) = entry.Session s.1.0 s.1.1.0 s.0 s.1.1.1
entry_of names (inr x) = make_of (entry_kinds names) x

abbrev pub of_worker : (names : Names) → ℕ → Action → Statement ⊎ Fields (entry_kinds names)
of_worker names worker a = inr (at (entry_kinds names) 1 (worker, a))

abbrev pub step_of : ℕ → ℕ → ℕ → Forced
step_of view lo hi = record { view = view; lo = lo; hi = hi }

abbrev pub entry_parts : (names : Names) → Entry → Statement ⊎ Fields (entry_kinds names)
entry_parts names (entry.Session session place forced reply) = inl (forced, (session, (place, reply)))
entry_parts names (entry.Fetched worker view lo hi) = of_worker names worker (action.Fetch (step_of view lo hi))
entry_parts names (entry.Idle worker) = of_worker names worker action.Idle
entry_parts names (entry.Busy worker) = of_worker names worker action.Busy
entry_parts names (entry.Installed worker view lo hi) = of_worker names worker (action.Install (step_of view lo hi))
entry_parts names (entry.Moved worker view lo hi point) = of_worker names worker (action.Moved (step_of view lo hi) point)
entry_parts names (entry.Empty worker) = of_worker names worker action.Empty
entry_parts names (entry.Released worker) = of_worker names worker action.Release
entry_parts names (entry.Marked view outcome) = inr (at (entry_kinds names) 0 (inr (view, outcome)))
entry_parts names (entry.MarkUnknown name) = inr (at (entry_kinds names) 0 (inl name))
entry_parts names (entry.Cleaned floor versions deltas) = inr (at (entry_kinds names) 2 (floor, (versions, deltas)))

abbrev pub any_entry : Names → Form Entry
any_entry names = mapped (entry_of names) (entry_parts names) (either is_statement (statement names) (sum (entry_kinds names)))

-- The entries that have a text: each of their numbers has a name; numbers are of their types' widths, names are words, texts
-- are UTF-8 without a line feed, and each row and key has a value. The form of each line says it.
abbrev pub AreEntries : Names → List Entry → Type 0
AreEntries names list = AllByRecursion (any_entry names).Fits list

-- a whole transcript
abbrev pub entries : Names → Form (List Entry)
entries names = repeated goes_on (any_entry names)

-- ---- parts of the reader

abbrev pub read_statement : Names → Reader Entry
read_statement names = (statement names).read >>= λ s. pure (entry_of names (inl s))

abbrev pub read_mark : Names → Reader Entry
read_mark names = (mark names).read >>= λ m. pure (mark_entry m)
