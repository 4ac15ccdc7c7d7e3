use Rattle.std.proofs.Common.{◌≡◌, take}
use Rattle.lv_upkeep.specs.Kept.{forced_in}
use Rattle.lv_upkeep.proofs.upkeep.Upkeep.forced.Given as goal

abbrev pub invariant-loop-view : goal.invariant-loop-view
invariant-loop-view g l = l.steps ≡ forced_in (g.V.Live.inside l.live) l.combine l.self.kept (take l.view-index l.views) l.snapshot
