use Rattle.std.proofs.Common.{◌≡◌, ◌∙◌, Result, Ok, Err, OnOk, OnErr, true, ap, codes}
use Rattle.std.specs.Str.{is_utf8}
use Rattle.lv_values.specs.declared.memory.NoMemory.{NoMemory}
use Rattle.lv_lexer.proofs.Doubled.{utf8_append, space_is_utf8}
use Rattle.lv_lexer.proofs.writing.append.Goals as goal

either : (r : Result (Unit {0}) NoMemory) (A B C : Type 0) → OnOk r A → OnErr r B → (A → C) → (B → C) → C
either (Ok u) A B C a b f g = f a
either (Err e) A B C a b f g = g b

pub returns-then-not-space-clause-utf8 : goal.returns-then-not-space-clause-utf8
returns-then-not-space-clause-utf8 c = λ h.
    either c.extend_from_slice.result _ _ _ c.extend_from_slice.ensures.added c.extend_from_slice.ensures.refused
    (λ e. ap is_utf8 e ∙ utf8_append c.args.line.now c.args.bytes.now h c.requires) (λ e. ap is_utf8 e ∙ h)

pub returns-else-is_err-clause-utf8 : goal.returns-else-is_err-clause-utf8
returns-else-is_err-clause-utf8 c = λ h.
    let behind : is_utf8 c.push.new.self ≡ true = ap is_utf8 c.in_ok-push.ensures.added ∙ utf8_append c.args.line.now (codes " ") h space_is_utf8 in
    either c.extend_from_slice-appended.result _ _ _ c.extend_from_slice-appended.ensures.added c.extend_from_slice-appended.ensures.refused
    (λ e. ap is_utf8 e ∙ utf8_append c.push.new.self c.args.bytes.now behind c.requires) (λ e. ap is_utf8 e ∙ behind)
