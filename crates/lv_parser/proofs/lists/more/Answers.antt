use Rattle.std.proofs.Common.{◌∙◌, sym}
use Rattle.std.proofs.lemmas.Result.{err_from_is_err_and}
use Rattle.lv_parser.specs.Reading.{sees, behind}
use Rattle.lv_parser.proofs.Loops.{loop_begins, loop_goes_on, loop_stops, loop_done, loop_full, gives_err}
use Rattle.lv_parser.proofs.lists.more.Goals as goal
use Rattle.lv_parser.proofs.lists.more.Goals.{else-each-test, then-each-test+then-not-sees}

pub each-init : goal.each-init
each-init g c = loop_begins (sees c.args.class) (behind c.args.class g.T.Part.reader) c.len-end.result c.args.found c.args.cursor.now c.len-end.ensures

pub returns-in_err-item : goal.returns-in_err-item
returns-in_err-item g c =
    let p = err_from_is_err_and c.from_residual.result c.from_residual.ensures.1 in
    rw (p.1, p.2)
    (gives_err (behind c.args.class g.T.Part.reader c.each.cursor) c.in_err-item.field-0.0 c.behind.new.cursor _ c.in_err-item.ensures
    (λ e. loop_stops (sees c.args.class) (behind c.args.class g.T.Part.reader) c.len-end.result c.each.counter c.each.found c.each.cursor _ _ c.each-test.true
    (sym c.sees.ensures ∙ c.if-not-sees.false) e c.each.invariant))

pub each-preserved : goal.each-preserved
each-preserved g c =
    rw c.in_ok-push.ensures.added
    (loop_goes_on (sees c.args.class) (behind c.args.class g.T.Part.reader) c.len-end.result c.each.counter c.each.found c.each.cursor _ _ _ c.each-test.true
    (sym c.sees.ensures ∙ c.if-not-sees.false) c.in_ok-item.ensures c.each.invariant)

pub returns : goal.returns
returns g c =
    elim c.each-test.branch [
      | else-each-test w ↦ loop_full (sees c.args.class) (behind c.args.class g.T.Part.reader) c.len-end.result c.each.counter c.each.found c.each.cursor _ w.each-test.false c.each.invariant
      | then-each-test+then-not-sees w ↦ loop_done (sees c.args.class) (behind c.args.class g.T.Part.reader) c.len-end.result c.each.counter c.each.found c.each.cursor _ w.each-test.true
          (sym w.sees.ensures ∙ w.if-not-sees.true) c.each.invariant
    ]
