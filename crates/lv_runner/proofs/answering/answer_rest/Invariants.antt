use Rattle.lv_runner.specs.Following.{GoesOn}
use Rattle.lv_runner.specs.Rounds.{IsRoundDone}
use Rattle.lv_runner.proofs.answering.answer_rest.Given as goal

abbrev pub invariant-loop-round : goal.invariant-loop-round
invariant-loop-round g l = record {
  same : GoesOn l.initial.core.run l.core.run;
  done : IsRoundDone l.core.run l.round 1;
}
