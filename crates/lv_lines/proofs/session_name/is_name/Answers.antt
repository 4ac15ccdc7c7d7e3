use Rattle.std.proofs.Common.{sym, ◌∙◌}
use Rattle.lv_lines.proofs.SpelledNames.{is_name-spelled}
use Rattle.lv_lines.proofs.session_name.is_name.Goals as goal

pub returns : goal.returns
returns c = c.is_spelled.ensures ∙ sym (is_name-spelled c.args.word.now)
