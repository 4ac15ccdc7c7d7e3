use Rattle.std.proofs.Common.{◌∙◌, sym, ap, arith, Some}
use Rattle.lv_tasks.proofs.Steps.{begins, goes_on, stops, ends}
use Rattle.lv_tasks.proofs.queue.end_by_task.Goals as goal

pub loop-more-init : goal.loop-more-init
loop-more-init g c = record {
  within = omega arith;
  so = begins (g.V.Live.inside c.args.live.now) c.args.end c.args.tasks.now.items c.args.combine c.args.from c.index.result.now (omega arith) c.requires.within c.index.ensures;
}

pub loop-more-preserved : goal.loop-more-preserved
loop-more-preserved g c = record {
  within = omega arith;
  so = c.loop-more.invariant.so ∙ ap Some (
      goes_on (g.V.Live.inside c.args.live.now) c.args.end c.args.tasks.now.items c.index.result.now.commit c.loop-more.hi c.loop-more.more c.loop-more.at c.index-in-loop-more.result.now
      (omega arith) (omega arith) c.requires.within c.index-in-loop-more.ensures (sym c.inside.ensures ∙ c.if-inside.false));
}

pub returns-then-inside : goal.returns-then-inside
returns-then-inside g c =
    sym (c.loop-more.invariant.so ∙ ap Some (
    stops (g.V.Live.inside c.args.live.now) c.args.end c.args.tasks.now.items c.index.result.now.commit c.loop-more.hi c.loop-more.more c.loop-more.at c.index-in-loop-more.result.now
    (omega arith) (omega arith) c.requires.within c.index-in-loop-more.ensures (sym c.inside.ensures ∙ c.if-inside.true)))

pub returns-else-at-end : goal.returns-else-at-end
returns-else-at-end g c =
    sym (c.loop-more.invariant.so ∙ ap Some (
    ends (g.V.Live.inside c.args.live.now) c.args.end c.args.tasks.now.items c.index.result.now.commit c.loop-more.hi c.loop-more.more c.loop-more.at (omega arith)))
