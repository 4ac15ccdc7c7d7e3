-- The forms of a worker's line.
use Rattle.std.specs.Prelude.{ℕ, nat_le, ◌&&◌, List, [], ◌∷◌, codes}
use Rattle.lv_forms.specs.Forms.{Form, nothing, small, count, ended, pair, only}
use Rattle.lv_forms.specs.Tables.{Kind, kind, Fields, at, table}
use Rattle.lv_lines.specs.declared.names.Names.{Names}
use Rattle.lv_lines.specs.declared.worker.Action.{Action}
use Rattle.lv_lines.specs.declared.worker.Action.TheVariants.{Fetch, Idle, Busy, Install, Moved, Empty, Release}
use Rattle.lv_lines.specs.ReplyForms.{step}

abbrev pub action_kinds : Names → List (Kind Action)
action_kinds names =
    kind (codes " fetch ") (ended (step names) (codes "\n")) Fetch
    ∷ kind (codes " idle\n") nothing (λ _. Idle)
    ∷ kind (codes " busy\n") nothing (λ _. Busy)
    ∷ kind (codes " install ") (ended (step names) (codes "\n")) Install
    ∷ kind (codes " moved ") (pair (step names) (codes " at ") (ended count (codes "\n"))) (λ p. Moved p.0 p.1)
    ∷ kind (codes " empty\n") nothing (λ _. Empty)
    ∷ kind (codes " release\n") nothing (λ _. Release)
    ∷ []

abbrev pub action_fields : (names : Names) → Action → Fields (action_kinds names)
action_fields names (Fetch step) = at (action_kinds names) 0 step
action_fields names Idle = at (action_kinds names) 1 tt
action_fields names Busy = at (action_kinds names) 2 tt
action_fields names (Install step) = at (action_kinds names) 3 step
action_fields names (Moved step point) = at (action_kinds names) 4 (step, point)
action_fields names Empty = at (action_kinds names) 5 tt
action_fields names Release = at (action_kinds names) 6 tt

abbrev pub any_action : Names → Form Action
any_action names = table (action_kinds names) (action_fields names)

-- workers are numbered from 1 to 8
abbrev pub worker : Form ℕ
worker = only (λ n. nat_le 1 n && nat_le n 8) small
