use Rattle.std.proofs.Common.{◌∙◌, List, ℕ, Err, sym, ap, subst}
use Rattle.std.specs.Str.{IsUtf8}
use Rattle.std.proofs.lemmas.Str.{IsUtf8-from_is_utf8}
use Rattle.lv_lexer.proofs.writing.Writer.finish.Goals as goal

pub unreachable-requires : goal.unreachable-requires
unreachable-requires c =
    let P : List ℕ → Type 0 = λ bytes. IsUtf8 bytes in
    c.from_bytes.ensures.not_utf8 (c.in-Err-NotUtf8.is ∙ ap (λ e. Err e) c.in-Err-NotUtf8.field-0-is)
    (subst P (sym c.as_slice.ensures) (IsUtf8-from_is_utf8 c.self.inside.line c.self.invariant))
