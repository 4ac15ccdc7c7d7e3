use Rattle.std.proofs.lemmas.Bool.{iff_false}
use Rattle.std.proofs.lemmas.Str.{is_utf8-from_IsUtf8}
use Rattle.lv_lines.proofs.Utf8.{not_utf8}
use Rattle.lv_lines.proofs.script_line.text_of.Goals as goal

pub returns-then-is_utf8_baseline : goal.returns-then-is_utf8_baseline
returns-then-is_utf8_baseline c = (c.from_utf8_unchecked.ensures, is_utf8-from_IsUtf8 c.args.line.now (c.is_utf8_baseline.ensures.0 c.if-is_utf8_baseline.true))

pub returns-else-is_utf8_baseline : goal.returns-else-is_utf8_baseline
returns-else-is_utf8_baseline c = not_utf8 c.args.line.now (iff_false c.is_utf8_baseline.ensures c.if-is_utf8_baseline.false)
