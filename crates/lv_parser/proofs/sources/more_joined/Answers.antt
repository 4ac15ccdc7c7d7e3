use Rattle.std.proofs.Common.{◌∙◌, sym}
use Rattle.std.proofs.lemmas.Result.{err_from_is_err_and}
use Rattle.lv_parser.specs.Read.{is_more, joined}
use Rattle.lv_parser.proofs.Loops.{loop_begins, loop_goes_on, loop_stops, loop_done, loop_full, gives_err}
use Rattle.lv_parser.proofs.sources.more_joined.Goals as goal
use Rattle.lv_parser.proofs.sources.more_joined.Goals.{else-each-test, then-each-test+then-not-is_more}

pub each-init : goal.each-init
each-init c = loop_begins is_more (joined c.args.within) c.len-end.result c.args.found c.args.cursor.now c.len-end.ensures

pub returns-in_err-item : goal.returns-in_err-item
returns-in_err-item c =
    let p = err_from_is_err_and c.from_residual.result c.from_residual.ensures.1 in
    rw (p.1, p.2)
    (gives_err (joined c.args.within c.each.cursor) c.in_err-item.field-0.0 c.next_joined.new.cursor _ c.in_err-item.ensures
    (λ e. loop_stops is_more (joined c.args.within) c.len-end.result c.each.counter c.each.found c.each.cursor _ _ c.each-test.true
    (sym c.is_more.ensures ∙ c.if-not-is_more.false) e c.each.invariant))

pub each-preserved : goal.each-preserved
each-preserved c =
    rw c.in_ok-push.ensures
    (loop_goes_on is_more (joined c.args.within) c.len-end.result c.each.counter c.each.found c.each.cursor _ _ _ c.each-test.true
    (sym c.is_more.ensures ∙ c.if-not-is_more.false) c.in_ok-item.ensures c.each.invariant)

pub returns : goal.returns
returns c =
    elim c.each-test.branch [
      | else-each-test w ↦ loop_full is_more (joined c.args.within) c.len-end.result c.each.counter c.each.found c.each.cursor _ w.each-test.false c.each.invariant
      | then-each-test+then-not-is_more w ↦ loop_done is_more (joined c.args.within) c.len-end.result c.each.counter c.each.found c.each.cursor _ w.each-test.true
          (sym w.is_more.ensures ∙ w.if-not-is_more.true) c.each.invariant
    ]
