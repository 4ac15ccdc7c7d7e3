use Rattle.std.proofs.Common.{◌≡◌, length, drop}
use Rattle.lv_store.specs.Querying.{upkeep_after}
use Rattle.lv_store.proofs.stepping.advance_each.Given as goal

abbrev pub invariant-loop-step : goal.invariant-loop-step
invariant-loop-step l = record {
  after : upkeep_after (drop l.step-index l.forced) l.upkeep.kept ≡ upkeep_after l.forced l.initial.upkeep.kept;
  points : length l.upkeep.kept.points ≡ length l.initial.upkeep.kept.points;
}
