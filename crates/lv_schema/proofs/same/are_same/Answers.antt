use Rattle.std.proofs.Common.{◌≡◌, length, arith}
use Rattle.lv_schema.proofs.SameLists.{same_by_places}
use Rattle.lv_schema.proofs.same.are_same.Goals as goal

pub returns : goal.returns
returns g c =
    let long : length c.args.a.now ≡ length c.args.b.now = omega arith in
    same_by_places c.args.a.now c.args.b.now long (λ k lt. c.loop-i.invariant k (omega (arith, c.loop-i-test.false)))
