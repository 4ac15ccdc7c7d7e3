use Rattle.std.proofs.Common.{◌≡◌, length, arith}
use Rattle.lv_schema.proofs.SameLists.{same_by_places}
use Rattle.lv_schema.proofs.same.+same_cond.Goals as goal

pub same_conds-returns : goal.same_conds-returns
same_conds-returns t c =
    let long : length c.args.a.now ≡ length c.args.b.now = omega arith in
    same_by_places c.args.a.now c.args.b.now long (λ k lt. c.loop-i.invariant k (omega (arith, c.loop-i-test.false)))
