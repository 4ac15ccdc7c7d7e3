use Rattle.std.proofs.Common.{◌++◌, ◌∷◌, [], ℕ, List, ap, ◌∙◌, append_assoc}
use Rattle.lv_forms.specs.Forms.{binary, listed}
use Rattle.lv_record.specs.Spelling.{action}
use Rattle.lv_record.proofs.records.print_commit.Goals as goal

pub returns-clause-appended : goal.returns-clause-appended
returns-clause-appended c =
    let number : List ℕ = (binary 8).text c.args.number in
    let actions : List ℕ = (listed (binary 4) action).text c.args.actions.now in
    let out = c.args.out.now in
    let at_number = c.in_ok-print.ensures.appended ∙ ap (λ (t : List ℕ). t ++ number) c.in_ok-push.ensures.added in
    c.in_ok-print-2.ensures.appended ∙ ap (λ (t : List ℕ). t ++ actions) at_number ∙ append_assoc (out ++ 3 ∷ []) number actions ∙ append_assoc out (3 ∷ []) (number ++ actions)
