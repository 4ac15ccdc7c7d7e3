use Rattle.std.proofs.Common.{◌≡◌, ℕ, ◌≤◌, ◌<◌, length, sym, ◌∙◌, subst, arith}
use Rattle.lv_plain.specs.declared.program.Program.{Program}
use Rattle.lv_plain.specs.Programs.{lines_of, session_count}
use Rattle.lv_runner.proofs.Rounds.{all_done}
use Rattle.lv_runner.proofs.answering.answer_rest.Goals as goal

pub returns-clause-answered : goal.returns-clause-answered
returns-clause-answered g c =
    let run = c.loop-round.core.run in
    let same : c.program.result.now ≡ run.program = c.program.ensures ∙ sym c.loop-round.invariant.same.program in
    let most : (s : ℕ) → 1 ≤ s → s < session_count run.program → length (lines_of run.program s) ≤ c.most_statements-rounds.result =
    subst (λ (p : Program). (s : ℕ) → 1 ≤ s → s < session_count p → length (lines_of p s) ≤ c.most_statements-rounds.result) same c.most_statements-rounds.ensures in
    all_done run c.loop-round.round (λ s above there. omega (arith, most s above there, c.loop-round-test.false)) c.loop-round.invariant.done
