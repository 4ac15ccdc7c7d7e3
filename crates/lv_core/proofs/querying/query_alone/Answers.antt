use Rattle.std.proofs.Common.{None, sym, ◌∙◌, subst}
use Rattle.lv_schema.specs.Bound.{IsBoundQuery}
use Rattle.lv_schema.specs.Cases.{began}
use Rattle.lv_schema.specs.WholeWorld.{querying, world_after}
use Rattle.lv_core.proofs.CaseAnswers.{answers_outside, reads_none, reads_views, same_costs}
use Rattle.lv_core.proofs.Standing.{ended, ended_too, free_there, same_again, same_combine, same_journal, then_set}
use Rattle.lv_core.proofs.querying.query_alone.Goals as goal

pub query_inside-answered-requires-clause-bound : goal.query_inside-answered-requires-clause-bound
query_inside-answered-requires-clause-bound g c = subst (λ e. IsBoundQuery e.store.tables e.store.views c.args.query.now) (sym c.begin.ensures.others) c.requires.bound

pub returns-clause-case : goal.returns-clause-case
returns-clause-case g c = λ w settings combines stands.
    let session = c.args.session in
    let query = c.args.query.now in
    let old = c.args.engine.now in
    let begun = c.begin.new.self in
    let mid = c.query_inside-answered.new.engine in
    let new = c.rollback.new.self in
    let free = free_there w old session stands c.requires.free in
    let opening = world_after (began session w.visible) w in
    let inside = c.query_inside-answered.ensures.case opening settings (combines ∙ same_combine old begun _ c.begin.ensures.others) (c.begin.ensures.case w stands).1 in
    answers_outside g.D.Disk.seen g.D.Disk.may_leave g.D.Disk.moment g.D.Disk.left_since g.D.Disk.failures settings session query w free old begun mid new c.query_inside-answered.result (same_journal old begun _ c.begin.ensures.others) (same_journal mid new _ c.rollback.ensures.others) inside
    (c.rollback.ensures.case (querying settings session query opening).next) c.query_inside-answered.ensures.refused
    (λ same. same_again old new session c.requires.free (then_set old begun new session _ None c.begin.ensures.others (ended mid new session _ c.rollback.ensures.others c.rollback.ensures.free ∙ ended_too mid begun session same)))

pub returns-clause-fresh : goal.returns-clause-fresh
returns-clause-fresh g c = λ w stands reads.
    let free = free_there w c.args.engine.now c.args.session stands c.requires.free in
    c.query_inside-answered.ensures.fresh (world_after (began c.args.session w.visible) w) (c.begin.ensures.case w stands).1 (reads_none c.args.session c.args.query.now w free reads)

pub returns-clause-most : goal.returns-clause-most
returns-clause-most g c = λ w settings combines stands reads n costs.
    let session = c.args.session in
    let query = c.args.query.now in
    let old = c.args.engine.now in
    let begun = c.begin.new.self in
    let free = free_there w old session stands c.requires.free in
    c.query_inside-answered.ensures.most (world_after (began session w.visible) w) settings (combines ∙ same_combine old begun _ c.begin.ensures.others) (c.begin.ensures.case w stands).1 (reads_views session query w free reads) n
    (same_costs settings session query w n free costs)
