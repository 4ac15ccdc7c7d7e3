use Rattle.std.proofs.Common.{◌∙◌, [], ap}
use Rattle.std.specs.Str.{is_utf8}
use Rattle.std.proofs.lemmas.Str.{is_utf8-from_IsUtf8, IsUtf8-nil}
use Rattle.lv_lexer.proofs.writing.Writer.new.Goals as goal

pub invariant_of-result : goal.invariant_of-result
invariant_of-result c = ap is_utf8 c.new.ensures ∙ is_utf8-from_IsUtf8 [] IsUtf8-nil
