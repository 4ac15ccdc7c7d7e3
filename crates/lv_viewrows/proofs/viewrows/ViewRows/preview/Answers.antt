use Rattle.std.proofs.Common.{◌≡◌, true, List, filter, ◌∙◌}
use Rattle.std.proofs.lemmas.Result.{IfOk-weaker}
use Rattle.lv_values.specs.declared.value.Value.{Value}
use Rattle.lv_viewrows.specs.Changed.{groups_with}
use Rattle.lv_viewrows.specs.Kept.{groups_at, rows_listed}
use Rattle.lv_viewrows.proofs.Passing.{all_pass}
use Rattle.lv_viewrows.proofs.viewrows.ViewRows.preview.Goals as goal

pub returns : goal.returns
returns c =
    let all = rows_listed c.args.self.now.def (groups_with c.args.changes.now (groups_at c.args.self.now.at c.args.self.now.versions)) in
    IfOk-weaker c.preview_passing.result (λ (found : List (List Value)). found ≡ filter (λ _. true) all) (λ (found : List (List Value)). found ≡ all) (λ (found : List (List Value)) e. e ∙ all_pass all) c.preview_passing.ensures
