use Rattle.std.proofs.Common.{ap, true, ◌∙◌}
use Rattle.clap.specs.Simple.{app_of_fields, on_top}
use Rattle.lv_words.proofs.command.bare.Goals as goal

pub returns : goal.returns
returns c =
    ap app_of_fields c.disable_version_flag.ensures
    ∙ (ap (λ f. app_of_fields (record f { disable_version_flag = true })) c.disable_help_flag.ensures
    ∙ (ap (λ f. app_of_fields (record f { disable_help_flag = true; disable_version_flag = true })) c.no_binary_name.ensures
    ∙ ap (on_top (λ s. record s { no_binary_name = true; disable_help_flag = true; disable_version_flag = true })) c.new.ensures.app))
