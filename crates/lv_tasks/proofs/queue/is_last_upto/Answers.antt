use Rattle.std.proofs.Common.{◌<◌, arith}
use Rattle.std.proofs.lemmas.Bool.Decides.{nat_tests}
use Rattle.lv_tasks.proofs.Cuts.{one_apart}
use Rattle.lv_tasks.proofs.queue.is_last_upto.Goals as goal

pub returns-then-index-commit : goal.returns-then-index-commit
returns-then-index-commit c = λ gt.
    let next = c.index-then-index-commit.result.now in
    let above : c.args.commit < next.commit = grind (arith, nat_tests) in
    one_apart c.args.commit c.args.at c.args.tasks.now.items c.index.result.now next c.requires.order c.requires.within c.index.ensures c.if-index-commit.true c.index-then-index-commit.ensures above
