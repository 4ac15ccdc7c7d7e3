use Rattle.std.proofs.Common.{◌<◌, ◌≤◌, length, sym, ◌∙◌, arith}
use Rattle.std.proofs.lemmas.Result.{err_from_is_err_and}
use Rattle.lv_reading.specs.Reading.{many_onto}
use Rattle.lv_reading.proofs.Loops.{many_begin, many_more, many_stop, many_done, many_full, gives_err}
use Rattle.lv_reading.proofs.part.read_onto.Goals as goal
use Rattle.lv_reading.proofs.part.read_onto.Goals.{else-each-test, then-each-test+then-not-comes_next}

pub each-init : goal.each-init
each-init g c = many_begin (g.P.Repeated.comes c.args.part.now) (g.P.Part.reader c.args.part.now) c.args.found c.args.cursor.now

pub returns-in_err-item : goal.returns-in_err-item
returns-in_err-item g c =
    let p = err_from_is_err_and c.from_residual.result c.from_residual.ensures.1 in
    let comes = g.P.Repeated.comes c.args.part.now in
    let reader = g.P.Part.reader c.args.part.now in
    let lt : c.each.counter < length c.args.cursor.now = omega (arith, c.len-end.ensures) in
    rw (p.1, p.2) (gives_err (reader c.each.cursor) c.in_err-item.field-0.0 c.read.new.cursor (many_onto comes reader c.args.found c.args.cursor.now) c.in_err-item.ensures
    (λ e. many_stop comes reader (length c.args.cursor.now) c.each.counter c.each.found c.each.cursor (many_onto comes reader c.args.found c.args.cursor.now) lt (sym c.comes_next.ensures ∙ c.if-not-comes_next.false) e c.each.invariant))

pub each-preserved : goal.each-preserved
each-preserved g c =
    let lt : c.each.counter < length c.args.cursor.now = omega (arith, c.len-end.ensures) in
    rw c.in_ok-push.ensures.added
    (many_more (g.P.Repeated.comes c.args.part.now) (g.P.Part.reader c.args.part.now) (length c.args.cursor.now) c.each.counter c.each.found c.each.cursor _ _ _ lt
    (sym c.comes_next.ensures ∙ c.if-not-comes_next.false) c.in_ok-item.ensures c.each.invariant)

pub returns : goal.returns
returns g c =
    let comes = g.P.Repeated.comes c.args.part.now in
    let reader = g.P.Part.reader c.args.part.now in
    elim c.each-test.branch [
      | else-each-test w ↦ (let le : length c.args.cursor.now ≤ c.each.counter = omega (arith, c.len-end.ensures) in
          many_full comes reader (length c.args.cursor.now) c.each.counter c.each.found c.each.cursor _ le c.each.invariant)
      | then-each-test+then-not-comes_next w ↦ (let lt : c.each.counter < length c.args.cursor.now = omega (arith, c.len-end.ensures) in
          many_done comes reader (length c.args.cursor.now) c.each.counter c.each.found c.each.cursor _ lt (sym w.comes_next.ensures ∙ w.if-not-comes_next.true) c.each.invariant)
    ]
