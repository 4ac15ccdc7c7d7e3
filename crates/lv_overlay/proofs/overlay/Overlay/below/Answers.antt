use Rattle.lv_overlay.proofs.Cutting.{below_falls}
use Rattle.lv_overlay.proofs.overlay.Overlay.below.Goals as goal

pub cut-requires : goal.cut-requires
cut-requires c = below_falls c.args.bound c.self.inside.writes.list c.self.invariant
