use Rattle.std.proofs.Common.{rules, ap, ◌≡◌, ◌∙◌}
use Rattle.std.proofs.lemmas.Result.{IfOk-weaker}
use Rattle.clap.specs.Walk.{rule_of}
use Rattle.clap.specs.Simple.{app_of, with_rule}
use Rattle.lv_words.specs.Line.{option_rule}
use Rattle.lv_words.proofs.command.with_option.Goals as goal

pub returns : goal.returns
returns c =
    let rule_is : rule_of c.action.result ≡ option_rule c.args.name.now = search rules in
    IfOk-weaker c.arg.result _ _ (λ m h. h.shape (search rules) ∙ ap (with_rule (app_of c.args.command)) rule_is) c.arg.ensures
