use Rattle.std.proofs.Common.{◌≡◌, ◌+◌, length, arith}
use Rattle.lv_overlay.specs.Puts.{put_keys}
use Rattle.lv_overlay.proofs.Counting.{between_cuts}
use Rattle.lv_overlay.proofs.overlay.Overlay.count.Goals as goal

between : (c : goal.After-below-last) → c.below-first.result + length (put_keys c.args.self.now.list c.args.table) ≡ c.below-last.result
between c = between_cuts c.args.table c.args.self.now.list c.below-first.result c.below-last.result c.below-first.ensures.cut c.below-last.ensures.cut

pub overflow_sub-result : goal.overflow_sub-result
overflow_sub-result c = omega (arith, between c)

pub returns : goal.returns
returns c = omega (arith, between c)
