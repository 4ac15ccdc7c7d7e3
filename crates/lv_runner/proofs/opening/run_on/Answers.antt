use Rattle.std.proofs.Common.{List}
use Rattle.lv_core.proofs.FromRecords.{opened_from}
use Rattle.lv_core.specs.Run.{IsOpenedBy}
use Rattle.lv_schema.specs.declared.rec.Rec.{Rec}
use Rattle.lv_runner.proofs.HandedOut.{ends_unopened, over_opened, reopened_as_told}
use Rattle.lv_runner.proofs.opening.run_on.Goals as goal

pub run_over-requires-clause-records : goal.run_over-requires-clause-records
run_over-requires-clause-records g c lifetimes outlive =
    let opened = c.in-Ok.ensures.opened in
    let there : (recs : List Rec) × IsOpenedBy g.D.Disk.seen g.D.Disk.may_leave recs c.in-Ok.engine =
    (opened.0, opened_from g.D.Disk.seen g.D.Disk.may_leave opened.0 c.in-Ok.engine c.in-Ok.ensures.fresh opened.1.apply opened.1.stands opened.1.records) in
    there

pub returns-in-Ok-clause-ends : goal.returns-in-Ok-clause-ends
returns-in-Ok-clause-ends g c told bytes tells script =
    let seen = g.D.Disk.seen in
    let may_leave = g.D.Disk.may_leave in
    let moment = g.D.Disk.moment in
    let left_since = g.D.Disk.left_since in
    let failures = g.D.Disk.failures in
    let opened = c.in-Ok.ensures.opened in
    over_opened seen may_leave moment left_since failures c.args.words.now told bytes (failures c.args.disk) (g.K.Sink.written c.args.sink.now) (g.K.Sink.written c.run_over.new.sink) (g.K.Sink.is_flushed c.run_over.new.sink)
    (g.K.Sink.faults c.args.sink.now) (g.K.Sink.faults c.run_over.new.sink) c.run_over.result.status c.run_over.result.disk
    (c.run_over.ensures.ends told bytes (failures c.args.disk)
    (record { script = script; recs = opened.0; reopened = reopened_as_told seen may_leave moment left_since failures told c.args.disk opened.0 c.in-Ok.engine tells opened.1; counted = c.in-Ok.ensures.later }))

pub returns-in-Err-clause-ends : goal.returns-in-Err-clause-ends
returns-in-Err-clause-ends g c told bytes tells script =
    let back = c.in-Err.field-0 in
    ends_unopened g.D.Disk.seen g.D.Disk.may_leave g.D.Disk.moment g.D.Disk.left_since g.D.Disk.failures c.args.words.now told bytes (g.D.Disk.failures c.args.disk) c.args.disk (g.K.Sink.written c.args.sink.now) (g.K.Sink.is_flushed c.args.sink.now)
    (g.K.Sink.faults c.args.sink.now) back.cause back.disk c.unopened.result c.unopened.ensures tells c.in-Err.ensures.bad c.in-Err.ensures.stays c.in-Err.ensures.cause c.in-Err.ensures.left c.in-Err.ensures.begun
