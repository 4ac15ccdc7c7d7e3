-- The forms of a worker's line are exact.
use Rattle.std.proofs.Common.{rules, ◌≡◌, ℕ, true, nat_le, ◌&&◌, List, ◌++◌, codes, refl}
use Rattle.std.specs.Char.{is_ascii_digit}
use Rattle.lv_reading.specs.Reading.{stops}
use Rattle.lv_forms.proofs.Exact.{nothing_exact, ended_exact, pair_exact, both_exact, only_exact}
use Rattle.lv_forms.proofs.ExactTables.{table_exact}
use Rattle.lv_forms.specs.Forms.{IsExact, count, ended, pair, both}
use Rattle.lv_forms.specs.Tables.{make_of, text_of, FitsOf}
use Rattle.lv_lines.specs.declared.names.Names.{Names}
use Rattle.lv_lines.specs.Entries.{IsNames}
use Rattle.lv_lines.specs.declared.worker.Action.{Action}
use Rattle.lv_lines.specs.declared.worker.Action.TheVariants.{Idle}
use Rattle.lv_lines.specs.ReplyForms.{step}
use Rattle.lv_lines.specs.WorkerForms.{action_kinds, action_fields, any_action, worker}
use Rattle.lv_lines.proofs.ExactLines.{small_exact, began_exact, step_exact}

module _ (names : Names) (is : IsNames names) where
  line_exact : IsExact (ended (step names) (codes "\n"))
  line_exact = ended_exact (codes "\n") (step_exact names is) (λ rest. refl)

  moved_exact : IsExact (pair (step names) (codes " at ") (ended count (codes "\n")))
  moved_exact = pair_exact (codes " at ") (step_exact names is) (λ rest. refl) began_exact

  action_made : (e : Action) → make_of (action_kinds names) (action_fields names e) ≡ e
  action_made Idle = refl
  action_made _ = refl

  action_exact : IsExact (any_action names)
  action_exact = table_exact (action_kinds names) (action_fields names) refl (search (nothing_exact, line_exact, moved_exact)) action_made (search rules)

  -- no action begins with a digit
  action_ends : (e : Action) (rest : List ℕ) → FitsOf (action_kinds names) (action_fields names e) → stops is_ascii_digit (text_of (action_kinds names) (action_fields names e) ++ rest) ≡ true
  action_ends Idle rest fits = refl
  action_ends _ rest fits = refl

  pub any_action_exact : IsExact (both worker (any_action names))
  any_action_exact = both_exact (only_exact (λ n. nat_le 1 n && nat_le n 8) small_exact) action_ends action_exact
