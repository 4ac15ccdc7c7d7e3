use Rattle.std.proofs.Common.{arith}
use Rattle.lv_plain.proofs.Apart.{same_at_each}
use Rattle.lv_plain.proofs.difference.sessions_apart.Goals as goal

pub returns-else-a-b : goal.returns-else-a-b
returns-else-a-b c = same_at_each c.args.a.now c.args.b.now c.if-a-b.false (λ k lt. c.loop-i.invariant k (omega (arith, c.loop-i-test.false)))
