use Rattle.std.proofs.Common.{List, ℕ, ◌∙◌, ◌-◌, sym, ap, subst, arith, length, slice_range}
use Rattle.std.specs.Str.{IsUtf8}
use Rattle.lv_lexer.specs.declared.token.TokenKind.TheVariants.{Text}
use Rattle.lv_lexer.specs.Scan.{Spells}
use Rattle.lv_lexer.proofs.Said.{is_quoted, inside_is_utf8}
use Rattle.lv_lexer.proofs.Undoubled.{undoubled_is_utf8}
use Rattle.lv_lexer.proofs.reading.unquote.Goals as goal

pub overflow_sub-bytes : goal.overflow_sub-bytes
overflow_sub-bytes c = omega (arith, (is_quoted c.args.quoted.now c.requires).long, ap length c.as_bytes-bytes.ensures.value)

pub slice_bounds-undouble-count : goal.slice_bounds-undouble-count
slice_bounds-undouble-count c = omega (arith, (is_quoted c.args.quoted.now c.requires).long, ap length c.as_bytes-bytes.ensures.value)

pub slice_bounds-undouble-start : goal.slice_bounds-undouble-start
slice_bounds-undouble-start c = omega (arith, (is_quoted c.args.quoted.now c.requires).long, ap length c.as_bytes-bytes.ensures.value)

pub as_text-requires : goal.as_text-requires
as_text-requires c =
    let P : List ℕ → Type 0 = λ bytes. IsUtf8 bytes in
    let S : List ℕ → Type 0 = λ bytes. Spells bytes Text in
    let bytes = c.as_bytes-bytes.result.now in
    let quoted = is_quoted bytes (subst S (sym c.as_bytes-bytes.ensures.value) c.requires) in
    subst P (sym (c.as_slice.ensures ∙ c.in_ok-inside.ensures)) (undoubled_is_utf8 (slice_range bytes 1 (length bytes - 1)) (inside_is_utf8 bytes quoted c.as_bytes-bytes.ensures.utf8))
