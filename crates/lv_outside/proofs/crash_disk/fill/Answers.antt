use Rattle.std.proofs.Common.{◌≡◌, ◌∙◌, length, ap, arith}
use Rattle.lv_outside.proofs.Crashes.{length-filling}
use Rattle.lv_outside.proofs.crash_disk.fill.Goals as goal

pub overflow_add-at : goal.overflow_add-at
overflow_add-at c =
    let count : length c.loop-k.piece.items ≡ c.loop-k.k = ap length c.loop-k.invariant ∙ length-filling c.args.pick c.args.image.now c.args.at c.loop-k.k in
    omega (arith, count, c.requires.place, c.requires.small, c.loop-k.piece.small, c.loop-k.piece.ok)
