use Rattle.std.proofs.Common.{arith, rules}
use Rattle.std.proofs.lemmas.Int.{wraps}
use Rattle.lv_bags.proofs.SumsAdded.{added_step}
use Rattle.lv_bags.proofs.adding.add_each.Goals as goal

pub loop-j-preserved : goal.loop-j-preserved
loop-j-preserved c =
    added_step c.args.sums.now c.args.more.now c.loop-j.sums c.loop-j.j _ (omega arith) c.requires c.loop-j.invariant
    (search (rules, wraps))
