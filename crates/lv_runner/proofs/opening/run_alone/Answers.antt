use Rattle.std.proofs.Common.{◌≡◌, ◌∙◌, subst, sym}
use Rattle.lv_core.specs.Run.{settings_of}
use Rattle.lv_engine.specs.Kept.{EngineView}
use Rattle.lv_plain.specs.declared.program.Program.{Program}
use Rattle.lv_plain.specs.Events.{schedule}
use Rattle.lv_runner.specs.Following.{MayFollow}
use Rattle.lv_runner.specs.Begun.{EndsFrom}
use Rattle.lv_runner.proofs.Followed.{may_follow}
use Rattle.lv_runner.proofs.Outputs.{ends_alone}
use Rattle.lv_runner.proofs.opening.run_alone.Goals as goal

pub run_ordered-requires-clause-may : goal.run_ordered-requires-clause-may
run_ordered-requires-clause-may g c =
    let events = c.as_slice.result.now in
    let all : events ≡ schedule c.args.plan.program = c.as_slice.ensures ∙ c.requires.plan.events in
    let here = may_follow c.args.plan.program events c.each_event_may_come.ensures c.requires.plan.followable all in
    subst (λ (p : Program). MayFollow p events) (sym c.in-Ok.ensures.program) here

pub returns-in-Ok-clause-ends : goal.returns-in-Ok-clause-ends
returns-in-Ok-clause-ends g c told bytes count begun =
    let made = c.in-Ok.ensures in
    let events = c.as_slice.result.now in
    let all : events ≡ schedule c.args.plan.program = c.as_slice.ensures ∙ c.requires.plan.events in
    ends_alone g.D.Disk.seen g.D.Disk.may_leave g.D.Disk.moment g.D.Disk.left_since g.D.Disk.failures c.args.words.now told bytes c.args.plan.program count c.args.engine begun c.what_a_crash_leaves_applies.ensures.crash c.requires.fresh
    (g.K.Sink.written c.args.sink.now) (g.K.Sink.written c.run_ordered.new.sink) (g.K.Sink.is_flushed c.run_ordered.new.sink) (g.K.Sink.faults c.args.sink.now) (g.K.Sink.faults c.run_ordered.new.sink)
    c.places_after_events.ensures c.all_is_answered.ensures c.requires.plan.followable c.requires.alone c.in-Ok.core.run events c.run_ordered.result.status c.run_ordered.result.disk
    made.program (made.settings ∙ (λ i. settings_of (c.requires.settings i) (c.requires.policy i))) made.opened all c.run_ordered.ensures.ends

pub returns-clause-ends : goal.returns-clause-ends
returns-clause-ends g c =
    let sink = c.args.sink.now in
    let written = g.K.Sink.written sink in
    let faults = g.K.Sink.faults sink in
    subst (λ (e : EngineView _). EndsFrom g.D.Disk.seen g.D.Disk.may_leave g.D.Disk.moment g.D.Disk.left_since g.D.Disk.failures c.args.words.now c.args.plan.program e written written (g.K.Sink.is_flushed sink) faults faults c.unbegun.result.status c.unbegun.result.disk) c.in-Err.ensures.refused
    (c.unbegun.ensures c.args.words.now c.args.plan.program written (g.K.Sink.is_flushed sink) faults)
