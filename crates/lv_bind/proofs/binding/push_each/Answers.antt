use Rattle.lv_bind.proofs.NarrowLemmas.{listed_more}
use Rattle.lv_bind.proofs.binding.push_each.Goals as goal

pub loop-column-preserved : goal.loop-column-preserved
loop-column-preserved c =
    listed_more c.args.alias c.args.width c.loop-column.column c.loop-column.out c.push.new.self _ c.loop-column-test.true c.in_ok-push.ensures.added c.loop-column.invariant
