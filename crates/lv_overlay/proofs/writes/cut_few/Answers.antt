use Rattle.std.proofs.Common.{arith, rules}
use Rattle.std.proofs.lemmas.Fn.{always_returns_same}
use Rattle.lv_shelf.proofs.Cutting.{cut_from, falls_at}
use Rattle.lv_overlay.proofs.writes.cut_few.Goals as goal

pub returns-clause-cut : goal.returns-clause-cut
returns-clause-cut g c =
    let test = g.P.Test.passed c.args.test.now in
    let few = c.args.few.now in
    let cut = c.partition_point.ensures.partitioned test (always_returns_same _ _ _ (λ a r f k. search rules)) (λ i j d. falls_at test few i j d c.requires) in
    cut_from test few c.partition_point.result c.partition_point.ensures.bound (λ k d lt. cut.0 k d (omega arith) lt) cut.1
