use Rattle.std.proofs.Common.{arith}
use Rattle.lv_made.proofs.views.rows_at.Goals as goal

pub scan-requires : goal.scan-requires
scan-requires g c = omega (arith, c.versions.ensures.floor, c.requires.kept)
