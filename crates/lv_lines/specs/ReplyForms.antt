-- The forms of replies and of steps of maintenance.
use Rattle.std.specs.Prelude.{ℕ, List, [], ◌∷◌, codes, Option, Some, None}
use Rattle.lv_schema.specs.declared.forced.Forced.{Forced}
use Rattle.lv_plain.specs.declared.entry.Reply.{Reply}
use Rattle.lv_plain.specs.declared.entry.Reply.TheVariants.{Made, Changed, Alone, Began, Committed, RolledBack, Rows, Tasks, Refused}
use Rattle.lv_forms.specs.Forms.{Form, nothing, count, after, ended, pair, both, optional, counted, mapped}
use Rattle.lv_forms.specs.Tables.{Kind, kind, Fields, at, table}
use Rattle.lv_lines.specs.declared.names.Names.{Names}
use Rattle.lv_lines.specs.FaultForms.{any_fault}
use Rattle.lv_lines.specs.ValueForms.{name, row}

-- ---- replies

-- a commit's number behind a space, where there is a commit
abbrev pub commit_number : Form (Option ℕ)
commit_number = ended (optional (codes " ") count) (codes "\n")

-- what stands behind a number of changes: a commit, or none
abbrev pub tail_kinds : List (Kind (Option (Option ℕ)))
tail_kinds = kind (codes "\n") nothing (λ _. None) ∷ kind (codes " commit") commit_number Some ∷ []

abbrev pub tail_fields : Option (Option ℕ) → Fields tail_kinds
tail_fields None = at tail_kinds 0 tt
tail_fields (Some number) = at tail_kinds 1 number

abbrev pub changes : Form (ℕ × Option (Option ℕ))
changes = both count (table tail_kinds tail_fields)

abbrev pub changed : ℕ → Option (Option ℕ) → Reply
changed n None = Changed n
changed n (Some number) = Alone n number

-- the line of a pending task
abbrev pub task : Names → Form (ℕ × ℕ)
task names = after (codes "| ") (ended (pair (name names.views) (codes " | ") count) (codes "\n"))

abbrev pub reply_kinds : Names → List (Kind Reply)
reply_kinds names =
    kind (codes "ok\n") nothing (λ _. Made)
    ∷ kind (codes "ok ") changes (λ p. changed p.0 p.1)
    ∷ kind (codes "begin ") (ended count (codes "\n")) Began
    ∷ kind (codes "commit") commit_number Committed
    ∷ kind (codes "rollback\n") nothing (λ _. RolledBack)
    ∷ kind (codes "rows ") (counted count (codes "\n") row) Rows
    ∷ kind (codes "tasks ") (counted count (codes "\n") (task names)) Tasks
    ∷ kind (codes "fault ") (ended (any_fault names) (codes "\n")) Refused
    ∷ []

abbrev pub reply_fields : (names : Names) → Reply → Fields (reply_kinds names)
reply_fields names Made = at (reply_kinds names) 0 tt
reply_fields names (Changed count) = at (reply_kinds names) 1 (count, None)
reply_fields names (Alone count number) = at (reply_kinds names) 1 (count, Some number)
reply_fields names (Began snapshot) = at (reply_kinds names) 2 snapshot
reply_fields names (Committed number) = at (reply_kinds names) 3 number
reply_fields names RolledBack = at (reply_kinds names) 4 tt
reply_fields names (Rows rows) = at (reply_kinds names) 5 rows
reply_fields names (Tasks tasks) = at (reply_kinds names) 6 tasks
reply_fields names (Refused fault) = at (reply_kinds names) 7 fault

abbrev pub any_reply : Names → Form Reply
any_reply names = table (reply_kinds names) (reply_fields names)

-- ---- steps of maintenance

-- the view, from which commit and to which
abbrev pub forced : ℕ × (ℕ × ℕ) → Forced
forced p = record { view = p.0; lo = p.1.0; hi = p.1.1 }

abbrev pub step : Names → Form Forced
step names = mapped forced (λ f. (f.view, (f.lo, f.hi))) (pair (name names.views) (codes " ") (pair count (codes " ") count))

abbrev pub forced_line : Names → Form Forced
forced_line names = after (codes "force ") (ended (step names) (codes "\n"))
