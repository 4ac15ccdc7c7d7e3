use Rattle.std.proofs.Common.{take, subst, sym}
use Rattle.lv_core.specs.Run.{Gave, state_of}
use Rattle.lv_plain.specs.declared.event.Event.{Event}
use Rattle.lv_plain.specs.Legal.{MayHappen}
use Rattle.lv_runner.specs.Following.{IsScheduled}
use Rattle.lv_runner.proofs.Followed.{followed_next, followed_same, may_next}
use Rattle.lv_runner.proofs.Texts.{goes_on_gave, goes_on_twice, on_err}
use Rattle.lv_runner.proofs.answering.answer_all.Goals as goal

pub answer_event-requires-clause-may : goal.answer_event-requires-clause-may
answer_event-requires-clause-may g c =
    let item = c.event-item.result in
    let run = c.loop-event.core.run in
    let there = may_next g.D.Disk.seen g.D.Disk.may_leave g.D.Disk.moment g.D.Disk.left_since g.D.Disk.failures c.args.core.now.run.program run c.args.events.now c.loop-event.event-index item c.requires.may
    c.loop-event.invariant.same.program c.loop-event.invariant.run c.loop-event.invariant.followed c.loop-event-test.true in
    subst (λ (e : Event). MayHappen run.program (state_of run) e) (sym c.event-item.is) there.0

pub answer_event-requires-clause-scheduled : goal.answer_event-requires-clause-scheduled
answer_event-requires-clause-scheduled g c =
    let item = c.event-item.result in
    let run = c.loop-event.core.run in
    let there = may_next g.D.Disk.seen g.D.Disk.may_leave g.D.Disk.moment g.D.Disk.left_since g.D.Disk.failures c.args.core.now.run.program run c.args.events.now c.loop-event.event-index item c.requires.may
    c.loop-event.invariant.same.program c.loop-event.invariant.run c.loop-event.invariant.followed c.loop-event-test.true in
    subst IsScheduled (sym c.event-item.is) there.1

pub returns-in_err-answer_event-clause-come : goal.returns-in_err-answer_event-clause-come
returns-in_err-answer_event-clause-come g c =
    on_err c.from_residual.result
    (record {
      count = c.loop-event.event-index;
      followed = followed_same c.loop-event.core.run c.answer_event.new.core.run (take c.loop-event.event-index c.args.events.now) c.in_err-answer_event.ensures.same c.loop-event.invariant.followed;
    })

pub loop-event-preserved : goal.loop-event-preserved
loop-event-preserved g c =
    let seen = g.D.Disk.seen in
    let may_leave = g.D.Disk.may_leave in
    let moment = g.D.Disk.moment in
    let left_since = g.D.Disk.left_since in
    let failures = g.D.Disk.failures in
    let item = c.event-item.result in
    let old = c.loop-event.core.run in
    let new = c.answer_event.new.core.run in
    let gave = c.in_ok-answer_event.ensures.gave in
    let there = subst (λ (e : Event). Gave seen may_leave moment left_since failures e old new) c.event-item.is gave in
    record {
      run = gave.run;
      same = goes_on_twice c.args.core.now.run old new c.loop-event.invariant.same (goes_on_gave seen may_leave moment left_since failures item old new gave);
      followed = followed_next seen may_leave moment left_since failures c.args.events.now c.loop-event.event-index item old new c.loop-event-test.true there c.loop-event.invariant.followed;
    }
