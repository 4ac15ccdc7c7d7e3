use Rattle.std.proofs.Common.{◌≡◌, ◌<◌, length, rules, arith}
use Rattle.std.proofs.lemmas.Fn.{always_returns_same}
use Rattle.std.proofs.lemmas.List.Sorted.{IsPartitionedBy-leb}
use Rattle.lv_tasks.specs.declared.task.Task.{Task}
use Rattle.lv_tasks.specs.Queues.{is_upto}
use Rattle.lv_tasks.proofs.Cuts.{all_upto, cut_from, none_there, none_upto}
use Rattle.lv_tasks.proofs.queue.place_above.Goals as goal
use Rattle.lv_tasks.proofs.queue.place_above.Goals.{then-count-eq0-via-then-count-eq0, then-count-eq0-via-else-count-eq0+then-index-commit}

pub returns-then-count-eq0-clause-cut : goal.returns-then-count-eq0-clause-cut
returns-then-count-eq0-clause-cut c =
    let tasks = c.args.tasks.now.items in
    let count = c.len-count.result in
    let long : count ≡ length tasks = omega (arith, c.len-count.ensures, c.args.tasks.now.ok) in
    elim c.then-count-eq0.branch [
      | then-count-eq0-via-then-count-eq0 w ↦ none_there c.args.commit count tasks (omega (arith, w.if-count-eq0.true)) long
      | then-count-eq0-via-else-count-eq0+then-index-commit w ↦ all_upto c.args.commit count tasks w.index.result.now c.requires (omega (arith, w.if-count-eq0.false)) long w.index.ensures (omega (arith, w.if-index-commit.true))
    ]

pub returns-then-index-commit-2-clause-cut : goal.returns-then-index-commit-2-clause-cut
returns-then-index-commit-2-clause-cut c =
    let tasks = c.args.tasks.now.items in
    let some : 0 < length tasks = omega (arith, c.len-count.ensures, c.args.tasks.now.ok, c.if-count-eq0.false) in
    none_upto c.args.commit tasks c.index-2.result.now c.requires some c.index-2.ensures (omega (arith, c.if-index-commit-2.true))

pub returns-clause-cut : goal.returns-clause-cut
returns-clause-cut c =
    let test = is_upto c.args.commit in
    let tasks = c.args.tasks.now.items in
    cut_from test tasks c.partition_point.result
    (c.partition_point.ensures.partitioned test (always_returns_same _ _ _ (λ a r f k. search rules)) (IsPartitionedBy-leb (λ (t : Task). t.commit) tasks c.args.commit c.requires))
