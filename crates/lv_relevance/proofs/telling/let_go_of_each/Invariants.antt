use Rattle.std.proofs.Common.{◌≡◌}
use Rattle.lv_relevance.proofs.LettingGo.{told_until}
use Rattle.lv_relevance.proofs.telling.let_go_of_each.Given as goal

abbrev pub invariant-loop-alias : goal.invariant-loop-alias
invariant-loop-alias l = l.parts ≡ told_until l.cols 0 l.alias l.initial.parts
