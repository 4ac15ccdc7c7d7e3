use Rattle.lv_runner.specs.Following.{GoesOn}
use Rattle.lv_runner.specs.Rounds.{HasTurned}
use Rattle.lv_runner.proofs.answering.answer_setup.Given as goal

abbrev pub invariant-loop : goal.invariant-loop
invariant-loop g l = record {
  same : GoesOn l.initial.core.run l.core.run;
  turned : HasTurned l.core.run.program l.core.run.places l.counter 0;
}
