use Rattle.std.proofs.Common.{◌∙◌, List, ℕ, sym, subst}
use Rattle.std.specs.Str.{IsUtf8}
use Rattle.lv_lexer.proofs.Doubled.{quoted_is_utf8}
use Rattle.lv_lexer.proofs.writing.Writer.text.Goals as goal

pub append-requires : goal.append-requires
append-requires c =
    let P : List ℕ → Type 0 = λ bytes. IsUtf8 bytes in
    subst P (sym (c.as_slice.ensures ∙ c.in_ok-quoted.ensures)) (quoted_is_utf8 c.as_bytes.result.now c.as_bytes.ensures.utf8)
