use Rattle.std.proofs.Common.{◌<◌, [], arith}
use Rattle.std.proofs.lemmas.Result.{err_from_is_err_and}
use Rattle.lv_reading.specs.Reading.{times_from}
use Rattle.lv_reading.proofs.Loops.{times_more, times_stop, times_done, gives_err}
use Rattle.lv_record.specs.Spelling.{layers}
use Rattle.lv_record.proofs.Layers.{none_read, layer_read}
use Rattle.lv_record.proofs.conds.+read_cond.Goals as goal

pub read_cond-returns-then-layers-eq0 : goal.read_cond-returns-then-layers-eq0
read_cond-returns-then-layers-eq0 t c = none_read c.args.layers c.args.cursor.now c.if-layers-eq0.true

pub read_cond-returns : goal.read_cond-returns
read_cond-returns t c =
    let some : 0 < c.args.layers = omega arith in
    rw (← layer_read c.args.layers c.args.cursor.now some) c.read_layer.ensures

pub read_conds-returns-in_err-cond : goal.read_conds-returns-in_err-cond
read_conds-returns-in_err-cond t c =
    let p = err_from_is_err_and c.from_residual.result c.from_residual.ensures.1 in
    let reader = (layers c.args.layers).read in
    rw (p.1, p.2) (gives_err (reader c.each.cursor) c.in_err-cond.field-0.0 c.read_cond.new.cursor (times_from reader c.args.count [] c.args.cursor.now) c.in_err-cond.ensures
    (λ e. times_stop reader c.args.count c.each.counter c.each.found c.each.cursor _ c.each-test.true e c.each.invariant))

pub read_conds-each-preserved : goal.read_conds-each-preserved
read_conds-each-preserved t c =
    rw c.in_ok-push.ensures.added
    (times_more ((layers c.args.layers).read) c.args.count c.each.counter c.each.found c.each.cursor _ _ _ c.each-test.true c.in_ok-cond.ensures c.each.invariant)

pub read_conds-returns : goal.read_conds-returns
read_conds-returns t c = times_done ((layers c.args.layers).read) c.args.count c.each.counter c.each.found c.each.cursor _ c.each-test.false c.each.invariant
