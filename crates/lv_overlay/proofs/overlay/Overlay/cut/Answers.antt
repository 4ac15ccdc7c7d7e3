use Rattle.lv_overlay.proofs.Cutting.{falls}
use Rattle.lv_overlay.proofs.overlay.Overlay.cut.Goals as goal

pub cut-requires : goal.cut-requires
cut-requires c = falls (c.args.table, c.args.key.now) c.self.inside.writes.list c.self.invariant
