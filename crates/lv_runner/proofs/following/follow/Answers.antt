use Rattle.std.proofs.Common.{subst, sym, arith}
use Rattle.lv_core.specs.Run.{state_of}
use Rattle.lv_plain.specs.declared.event.Event.{Event}
use Rattle.lv_plain.specs.Legal.{MayHappen}
use Rattle.lv_runner.specs.Following.{HasAnswered, HasStoppedAt, IsScheduled}
use Rattle.lv_runner.proofs.Followed.{followed_next, may_next}
use Rattle.lv_runner.proofs.Texts.{goes_on_at, goes_on_gave, goes_on_twice, on_err, stopped_at, wrote_next}
use Rattle.lv_runner.proofs.following.follow.Goals as goal

pub follow_event-requires-clause-may : goal.follow_event-requires-clause-may
follow_event-requires-clause-may g c =
    let item = c.event-item.result in
    let run = c.loop-event.core.run in
    let there = may_next g.D.Disk.seen g.D.Disk.may_leave g.D.Disk.moment g.D.Disk.left_since g.D.Disk.failures c.args.core.now.run.program run c.args.events.now c.loop-event.event-index item c.requires.may
    c.loop-event.invariant.same.program c.loop-event.invariant.run c.loop-event.invariant.followed c.loop-event-test.true in
    subst (λ (e : Event). MayHappen run.program (state_of run) e) (sym c.event-item.is) there.0

pub follow_event-requires-clause-scheduled : goal.follow_event-requires-clause-scheduled
follow_event-requires-clause-scheduled g c =
    let item = c.event-item.result in
    let run = c.loop-event.core.run in
    let there = may_next g.D.Disk.seen g.D.Disk.may_leave g.D.Disk.moment g.D.Disk.left_since g.D.Disk.failures c.args.core.now.run.program run c.args.events.now c.loop-event.event-index item c.requires.may
    c.loop-event.invariant.same.program c.loop-event.invariant.run c.loop-event.invariant.followed c.loop-event-test.true in
    subst IsScheduled (sym c.event-item.is) there.1

pub returns-in_err-follow_event-clause-part : goal.returns-in_err-follow_event-clause-part
returns-in_err-follow_event-clause-part g c =
    let seen = g.D.Disk.seen in
    let item = c.event-item.result in
    let run = c.loop-event.core.run in
    let at = subst (λ (e : Event). HasStoppedAt seen g.D.Disk.may_leave g.D.Disk.moment g.D.Disk.left_since g.D.Disk.failures e run c.follow_event.new.core.run (g.K.Sink.written c.loop-event.sink) (g.K.Sink.written c.follow_event.new.sink))
    c.event-item.is c.in_err-follow_event.ensures.part in
    on_err c.from_residual.result
    (stopped_at seen g.D.Disk.may_leave g.D.Disk.moment g.D.Disk.left_since g.D.Disk.failures c.more_names_give_the_same_text.ensures.entries c.more_names_give_the_same_text.ensures.one c.args.events.now c.loop-event.event-index item run
    c.follow_event.new.core.run (g.K.Sink.written c.args.sink.now) (g.K.Sink.written c.loop-event.sink) (g.K.Sink.written c.follow_event.new.sink) c.loop-event.invariant.run c.loop-event-test.true
    c.loop-event.invariant.followed c.loop-event.invariant.wrote at)

pub returns-in_err-follow_event-clause-same : goal.returns-in_err-follow_event-clause-same
returns-in_err-follow_event-clause-same g c =
    let run = c.loop-event.core.run in
    goes_on_twice c.args.core.now.run run c.follow_event.new.core.run c.loop-event.invariant.same
    (goes_on_at g.D.Disk.seen g.D.Disk.may_leave g.D.Disk.moment g.D.Disk.left_since g.D.Disk.failures c.event-item.result run c.follow_event.new.core.run (g.K.Sink.written c.loop-event.sink) (g.K.Sink.written c.follow_event.new.sink)
    c.in_err-follow_event.ensures.part)

pub loop-event-preserved : goal.loop-event-preserved
loop-event-preserved g c =
    let seen = g.D.Disk.seen in
    let may_leave = g.D.Disk.may_leave in
    let moment = g.D.Disk.moment in
    let left_since = g.D.Disk.left_since in
    let failures = g.D.Disk.failures in
    let item = c.event-item.result in
    let old = c.loop-event.core.run in
    let new = c.follow_event.new.core.run in
    let written = g.K.Sink.written c.loop-event.sink in
    let written1 = g.K.Sink.written c.follow_event.new.sink in
    let inv = c.loop-event.invariant in
    let all = c.in_ok-follow_event.ensures.all in
    let there = subst (λ (e : Event). HasAnswered seen may_leave moment left_since failures e old new written written1) c.event-item.is all in
    let law = c.more_names_give_the_same_text.ensures in
    record {
      run = all.gave.run;
      same = goes_on_twice c.args.core.now.run old new inv.same (goes_on_gave seen may_leave moment left_since failures item old new all.gave);
      followed = followed_next seen may_leave moment left_since failures c.args.events.now c.loop-event.event-index item old new c.loop-event-test.true there.gave inv.followed;
      names = c.in_ok-follow_event.ensures.names;
      wrote = wrote_next seen may_leave moment left_since failures law.entries law.joined law.one item old new (g.K.Sink.written c.args.sink.now) written written1 inv.run inv.wrote all;
      later = omega (arith, inv.later, c.in_ok-follow_event.ensures.later);
    }
