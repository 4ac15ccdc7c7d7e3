use Rattle.std.proofs.Common.{arith}
use Rattle.lv_versions.proofs.Ranking.{one_byte_more}
use Rattle.lv_versions.proofs.rank.rank_of_text.Goals as goal

pub overflow_mul-rank : goal.overflow_mul-rank
overflow_mul-rank c =
    let more = one_byte_more c.loop-i.i c.loop-i.rank 0 c.loop-i-test.true c.loop-i.invariant.fits (omega arith) in
    omega (arith, more.0, more.1)

pub overflow_add-rank : goal.overflow_add-rank
overflow_add-rank c =
    let more = one_byte_more c.loop-i.i c.loop-i.rank c.byte_at.result c.loop-i-test.true c.loop-i.invariant.fits c.byte_at.type_inv in
    omega (arith, more.0, more.1)
