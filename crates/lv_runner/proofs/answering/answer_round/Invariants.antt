use Rattle.std.proofs.Common.{◌+◌}
use Rattle.lv_runner.specs.Following.{GoesOn}
use Rattle.lv_runner.specs.Rounds.{IsRoundDone}
use Rattle.lv_runner.proofs.answering.answer_round.Given as goal

abbrev pub invariant-loop-at : goal.invariant-loop-at
invariant-loop-at g l = record {
  same : GoesOn l.initial.core.run l.core.run;
  done : IsRoundDone l.core.run l.round (l.at + 1);
}
