use Rattle.std.proofs.Common.{◌≡◌, true, List, filter, ◌∙◌}
use Rattle.std.proofs.lemmas.Result.{IfOk-weaker}
use Rattle.lv_values.specs.declared.value.Value.{Value}
use Rattle.lv_viewrows.specs.Kept.{shown}
use Rattle.lv_viewrows.proofs.Passing.{all_pass}
use Rattle.lv_viewrows.proofs.viewrows.ViewRows.read_at.Goals as goal

pub returns : goal.returns
returns c =
    let all = shown c.args.n c.args.self.now in
    IfOk-weaker c.read_passing.result (λ (found : List (List Value)). found ≡ filter (λ _. true) all) (λ (found : List (List Value)). found ≡ all) (λ (found : List (List Value)) e. e ∙ all_pass all) c.read_passing.ensures
