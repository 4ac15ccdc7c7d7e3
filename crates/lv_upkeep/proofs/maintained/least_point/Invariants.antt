use Rattle.std.proofs.Common.{◌≡◌, take}
use Rattle.lv_schema.specs.World.{least}
use Rattle.lv_upkeep.proofs.Points.{points_of}
use Rattle.lv_upkeep.proofs.maintained.least_point.Given as goal

abbrev pub invariant-loop-view : goal.invariant-loop-view
invariant-loop-view l = l.least ≡ least l.most (points_of (take l.view-index l.views))
