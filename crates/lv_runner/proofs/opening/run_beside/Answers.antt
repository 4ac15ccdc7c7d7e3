use Rattle.std.proofs.Common.{◌∙◌, subst}
use Rattle.lv_core.specs.Run.{settings_of}
use Rattle.lv_engine.specs.Kept.{EngineView}
use Rattle.lv_runner.specs.Begun.{EndsFrom}
use Rattle.lv_runner.proofs.Outputs.{ends_beside}
use Rattle.lv_runner.proofs.opening.run_beside.Goals as goal

pub returns-in-Ok-clause-ends : goal.returns-in-Ok-clause-ends
returns-in-Ok-clause-ends g c told bytes count begun =
    let made = c.in-Ok.ensures in
    ends_beside g.D.Disk.seen g.D.Disk.may_leave g.D.Disk.moment g.D.Disk.left_since g.D.Disk.failures c.args.words.now told bytes c.args.plan.program count c.args.engine begun c.what_a_crash_leaves_applies.ensures.crash c.requires.fresh
    (g.K.Sink.written c.args.sink.now) (g.K.Sink.written c.run_in_threads.new.sink) (g.K.Sink.is_flushed c.run_in_threads.new.sink) (g.K.Sink.faults c.args.sink.now) (g.K.Sink.faults c.run_in_threads.new.sink)
    c.requires.beside c.requires.apart c.in-Ok.core.run c.run_in_threads.result.status c.run_in_threads.result.disk
    made.program (made.settings ∙ (λ i. settings_of (c.requires.settings i) (c.requires.policy i))) made.opened c.run_in_threads.ensures.ends

pub returns-clause-ends : goal.returns-clause-ends
returns-clause-ends g c =
    let sink = c.args.sink.now in
    let written = g.K.Sink.written sink in
    let faults = g.K.Sink.faults sink in
    subst (λ (e : EngineView _). EndsFrom g.D.Disk.seen g.D.Disk.may_leave g.D.Disk.moment g.D.Disk.left_since g.D.Disk.failures c.args.words.now c.args.plan.program e written written (g.K.Sink.is_flushed sink) faults faults c.unbegun.result.status c.unbegun.result.disk) c.in-Err.ensures.refused
    (c.unbegun.ensures c.args.words.now c.args.plan.program written (g.K.Sink.is_flushed sink) faults)
