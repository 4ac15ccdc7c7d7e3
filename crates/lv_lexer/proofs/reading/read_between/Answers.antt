use Rattle.std.proofs.Common.{List, ℕ, sym, subst}
use Rattle.std.specs.Str.{IsUtf8, IsCharBoundary}
use Rattle.lv_lexer.specs.Next.{token_at}
use Rattle.lv_lexer.proofs.Said.{token_bounds}
use Rattle.lv_lexer.proofs.reading.read_between.Goals as goal

pub range-name-requires-clause-start_boundary : goal.range-name-requires-clause-start_boundary
range-name-requires-clause-start_boundary c some =
    let t = token_at c.args.kind c.args.start c.args.end in
    let P : List ℕ → Type 0 = λ line. IsUtf8 line in
    let B : List ℕ → Type 0 = λ line. IsCharBoundary line t.start in
    subst B (sym c.as_str-text.ensures) (token_bounds c.args.line.now t c.requires.token (subst P c.as_str-text.ensures c.as_str-text.utf8)).0

pub range-name-requires-clause-end_boundary : goal.range-name-requires-clause-end_boundary
range-name-requires-clause-end_boundary c =
    let t = token_at c.args.kind c.args.start c.args.end in
    let P : List ℕ → Type 0 = λ line. IsUtf8 line in
    let B : List ℕ → Type 0 = λ line. IsCharBoundary line t.end in
    subst B (sym c.as_str-text.ensures) (token_bounds c.args.line.now t c.requires.token (subst P c.as_str-text.ensures c.as_str-text.utf8)).1

pub range-quoted-requires-clause-start_boundary : goal.range-quoted-requires-clause-start_boundary
range-quoted-requires-clause-start_boundary c some =
    let t = token_at c.args.kind c.args.start c.args.end in
    let P : List ℕ → Type 0 = λ line. IsUtf8 line in
    let B : List ℕ → Type 0 = λ line. IsCharBoundary line t.start in
    subst B (sym c.as_str-text.ensures) (token_bounds c.args.line.now t c.requires.token (subst P c.as_str-text.ensures c.as_str-text.utf8)).0

pub range-quoted-requires-clause-end_boundary : goal.range-quoted-requires-clause-end_boundary
range-quoted-requires-clause-end_boundary c =
    let t = token_at c.args.kind c.args.start c.args.end in
    let P : List ℕ → Type 0 = λ line. IsUtf8 line in
    let B : List ℕ → Type 0 = λ line. IsCharBoundary line t.end in
    subst B (sym c.as_str-text.ensures) (token_bounds c.args.line.now t c.requires.token (subst P c.as_str-text.ensures c.as_str-text.utf8)).1
