use Rattle.std.proofs.Common.{◌≡◌, ◌∙◌, ◌<◌, ◌+◌, ◌-◌, false, subst, sym, arith, get_or}
use Rattle.std.proofs.lemmas.List.{get_or_default}
use Rattle.lv_tasks.specs.declared.task.Task.{Task}
use Rattle.lv_tasks.proofs.Steps.{ends_at}
use Rattle.lv_tasks.proofs.queue.end_within.Goals as goal
use Rattle.lv_tasks.proofs.queue.end_within.Goals.{else-last-from-via-then-last-from+else-inside, else-last-from-via-else-last-from}

pub returns : goal.returns
returns g c =
    let tasks = c.args.tasks.now.items in
    let inside = g.V.Live.inside c.args.live.now in
    let last = c.args.from + c.min.result - 1 in
    let hi = c.index.result.now in
    let clear : c.args.from < last → inside (get_or tasks c.args.from hi).commit hi.commit ≡ false =
    elim c.else-last-from.branch [
      | else-last-from-via-then-last-from+else-inside w ↦ λ lt.
          let first = w.index-then-last-from.result.now in
          let there : first ≡ get_or tasks c.args.from hi = w.index-then-last-from.ensures ∙ get_or_default tasks c.args.from first hi (omega arith) in
          subst (λ (t : Task). inside t.commit hi.commit ≡ false) there (sym w.inside.ensures ∙ w.if-inside.false)
      | else-last-from-via-else-last-from w ↦ λ lt. absurd (omega (arith, w.if-last-from.false))
    ]
    in
    sym (ends_at inside (g.met.V.Live.narrower c.args.live.now) c.args.end tasks c.requires.order c.requires.within c.args.combine c.args.from last hi (omega arith) (omega arith) (omega arith) (λ h. omega arith) c.index.ensures clear)
