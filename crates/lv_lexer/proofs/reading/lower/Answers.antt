use Rattle.std.proofs.Common.{◌≡◌, List, ℕ, true, ◌∙◌, ◌==◌, sym, subst}
use Rattle.std.specs.Prelude.{IfOk}
use Rattle.std.specs.List.{list_all}
use Rattle.std.specs.Char.{to_ascii_lowercase}
use Rattle.lv_lexer.proofs.Said.{is_in_lower_case}
use Rattle.lv_lexer.proofs.reading.lower.Goals as goal

pub returns-then-is_lower : goal.returns-then-is_lower
returns-then-is_lower c =
    let P : List ℕ → Type 0 = λ w. list_all (λ byte. to_ascii_lowercase byte == byte) w ≡ true in
    let lower = subst P c.as_bytes.ensures.value (sym c.is_lower.ensures ∙ c.if-is_lower.true) in
    subst (λ (w : List ℕ). IfOk c.from_str.result (λ text. text ≡ w)) (sym (is_in_lower_case c.args.word.now lower)) c.from_str.ensures
