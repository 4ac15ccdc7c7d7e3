use Rattle.std.proofs.Common.{ap, codes, ◌∙◌}
use Rattle.std.proofs.lemmas.Result.{IfOk-weaker}
use Rattle.clap.specs.Simple.{App, with_rule}
use Rattle.lv_words.specs.Line.{flag_rule, option_rule}
use Rattle.lv_words.proofs.command.command.Goals as goal

pub returns : goal.returns
returns c =
    let one = c.in_ok-one.ensures ∙ ap (λ (a : App). with_rule a (flag_rule (codes "threads"))) c.bare.ensures in
    let two = c.in_ok-two.ensures ∙ ap (λ (a : App). with_rule a (option_rule (codes "workers"))) one in
    let three = c.in_ok-three.ensures ∙ ap (λ (a : App). with_rule a (option_rule (codes "turns"))) two in
    let four = c.in_ok-four.ensures ∙ ap (λ (a : App). with_rule a (option_rule (codes "combine"))) three in
    let five = c.in_ok-five.ensures ∙ ap (λ (a : App). with_rule a (option_rule (codes "policy"))) four in
    let six = c.in_ok-six.ensures ∙ ap (λ (a : App). with_rule a (option_rule (codes "log"))) five in
    let seven = c.in_ok-seven.ensures ∙ ap (λ (a : App). with_rule a (option_rule (codes "log-limit"))) six in
    IfOk-weaker c.with_option-7.result _ _ (λ m h. h ∙ ap (λ (a : App). with_rule a (option_rule (codes "make"))) seven) c.with_option-7.ensures
