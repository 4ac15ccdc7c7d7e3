use Rattle.lv_lines.proofs.NamesAreText.{name_utf8}
use Rattle.lv_lines.proofs.session_name.lowered.Goals as goal

pub unreachable-requires : goal.unreachable-requires
unreachable-requires c = c.in-Err.ensures.cases.0 (name_utf8 c.args.word.now c.requires)
