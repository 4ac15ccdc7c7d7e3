use Rattle.std.proofs.Common.{[]}
use Rattle.std.proofs.lemmas.Result.{err_from_is_err_and}
use Rattle.lv_reading.specs.Reading.{times_from}
use Rattle.lv_reading.proofs.Loops.{times_more, times_stop, times_done, gives_err}
use Rattle.lv_reading.proofs.part.read_times.Goals as goal

pub returns-in_err-item : goal.returns-in_err-item
returns-in_err-item g c =
    let p = err_from_is_err_and c.from_residual.result c.from_residual.ensures.1 in
    let reader = g.P.Part.reader c.args.part.now in
    rw (p.1, p.2) (gives_err (reader c.each.cursor) c.in_err-item.field-0.0 c.read.new.cursor (times_from reader c.args.count [] c.args.cursor.now) c.in_err-item.ensures
    (λ e. times_stop reader c.args.count c.each.counter c.each.found c.each.cursor _ c.each-test.true e c.each.invariant))

pub each-preserved : goal.each-preserved
each-preserved g c =
    rw c.in_ok-push.ensures.added
    (times_more (g.P.Part.reader c.args.part.now) c.args.count c.each.counter c.each.found c.each.cursor _ _ _ c.each-test.true c.in_ok-item.ensures c.each.invariant)

pub returns : goal.returns
returns g c = times_done (g.P.Part.reader c.args.part.now) c.args.count c.each.counter c.each.found c.each.cursor _ c.each-test.false c.each.invariant
