use Rattle.std.proofs.lemmas.Str.{is_utf8-from_IsUtf8}
use Rattle.lv_forms.proofs.Utf8.{not_utf8}
use Rattle.lv_forms.proofs.letters.utf8.Goals as goal

pub returns-in-Ok-clause-text : goal.returns-in-Ok-clause-text
returns-in-Ok-clause-text c = (c.in-Ok.ensures.same, is_utf8-from_IsUtf8 c.args.bytes.now c.in-Ok.ensures.utf8)

pub returns-in-Err-NotUtf8-clause-bad : goal.returns-in-Err-NotUtf8-clause-bad
returns-in-Err-NotUtf8-clause-bad c = λ _. not_utf8 c.args.bytes.now (c.in-Err-NotUtf8.ensures.not_utf8 (cc))
