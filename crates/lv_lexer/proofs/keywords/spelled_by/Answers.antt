use Rattle.std.proofs.Common.{◌∙◌, refl, sym, ap, List, [], ℕ, Bor}
use Rattle.std.proofs.lemmas.Bool.{false≢true}
use Rattle.std.specs.Str.{str_to_ascii_lowercase}
use Rattle.lv_lexer.specs.declared.terminals.Class.{Class}
use Rattle.lv_lexer.specs.declared.terminals.Class.TheVariants.{Name}
use Rattle.lv_lexer.proofs.Words.{found, passed}
use Rattle.lv_lexer.proofs.keywords.spelled_by.Goals as goal

nothing : Bor (List ℕ) × Class
nothing = (record { ref_ptr = (0, 0); now = [] }, Name)

pub returns-then-eq_ignore_ascii_case : goal.returns-then-eq_ignore_ascii_case
unfolding nothing
returns-then-eq_ignore_ascii_case c =
    let same = c.if-eq_ignore_ascii_case.ensures.test.0 refl ∙ ap str_to_ascii_lowercase c.as_bytes.ensures.value in
    sym (found c.args.table.now c.loop-spelling.spelling-index nothing (str_to_ascii_lowercase c.args.word.now) c.loop-spelling-test.true same) ∙ c.loop-spelling.invariant

pub loop-spelling-preserved : goal.loop-spelling-preserved
unfolding nothing
loop-spelling-preserved c =
    sym (passed c.args.table.now c.loop-spelling.spelling-index nothing (str_to_ascii_lowercase c.args.word.now) c.loop-spelling-test.true
    (λ e. false≢true (c.if-eq_ignore_ascii_case.ensures.test.1 (e ∙ sym (ap str_to_ascii_lowercase c.as_bytes.ensures.value))))) ∙ c.loop-spelling.invariant
