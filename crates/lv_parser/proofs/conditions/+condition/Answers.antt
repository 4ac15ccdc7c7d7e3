use Rattle.std.proofs.Common.{◌≡◌, suc, ◌-◌, ◌∙◌, sym, arith}
use Rattle.std.proofs.lemmas.Result.{err_from_is_err_and}
use Rattle.lv_lexer.specs.declared.terminals.Class.TheVariants as k
use Rattle.lv_parser.specs.Reading.{sees, behind}
use Rattle.lv_parser.specs.Read as read
use Rattle.lv_parser.proofs.Loops.{loop_begins, loop_goes_on, loop_stops, loop_done, loop_full, gives_err}
use Rattle.lv_parser.proofs.Units.{conj_stopped, conj_single, cond_stopped, cond_single, unit_negation, unit_bracketed, unit_other}
use Rattle.lv_parser.proofs.conditions.+condition.Goals as goal
use Rattle.lv_parser.proofs.conditions.+condition.Goals.{more_conjs-else-each-test, more_conjs-then-each-test+then-not-sees, more_units-else-each-test, more_units-then-each-test+then-not-sees}

pub more_units-each-init : goal.more_units-each-init
more_units-each-init t c = loop_begins (sees k.And) (behind k.And (read.unit c.args.within c.args.depth)) c.len-end.result c.args.found c.args.cursor.now c.len-end.ensures

pub more_units-returns-in_err-item : goal.more_units-returns-in_err-item
more_units-returns-in_err-item t c =
    let p = err_from_is_err_and c.from_residual.result c.from_residual.ensures.1 in
    rw (p.1, p.2)
    (gives_err (behind k.And (read.unit c.args.within c.args.depth) c.each.cursor) c.in_err-item.field-0.0 c.next_unit.new.cursor _ c.in_err-item.ensures
    (λ e. loop_stops (sees k.And) (behind k.And (read.unit c.args.within c.args.depth)) c.len-end.result c.each.counter c.each.found c.each.cursor _ _ c.each-test.true
    (sym c.sees.ensures ∙ c.if-not-sees.false) e c.each.invariant))

pub more_units-each-preserved : goal.more_units-each-preserved
more_units-each-preserved t c =
    rw c.in_ok-push.ensures.added
    (loop_goes_on (sees k.And) (behind k.And (read.unit c.args.within c.args.depth)) c.len-end.result c.each.counter c.each.found c.each.cursor _ _ _ c.each-test.true
    (sym c.sees.ensures ∙ c.if-not-sees.false) c.in_ok-item.ensures c.each.invariant)

pub more_units-returns : goal.more_units-returns
more_units-returns t c =
    elim c.each-test.branch [
      | more_units-else-each-test w ↦ loop_full (sees k.And) (behind k.And (read.unit c.args.within c.args.depth)) c.len-end.result c.each.counter c.each.found c.each.cursor _ w.each-test.false c.each.invariant
      | more_units-then-each-test+then-not-sees w ↦ loop_done (sees k.And) (behind k.And (read.unit c.args.within c.args.depth)) c.len-end.result c.each.counter c.each.found c.each.cursor _ w.each-test.true
          (sym w.sees.ensures ∙ w.if-not-sees.true) c.each.invariant
    ]

pub more_conjs-each-init : goal.more_conjs-each-init
more_conjs-each-init t c =
    loop_begins (sees k.Or) (behind k.Or (read.conj_of (read.unit c.args.within c.args.depth))) c.len-end.result c.args.found c.args.cursor.now c.len-end.ensures

pub more_conjs-returns-in_err-item : goal.more_conjs-returns-in_err-item
more_conjs-returns-in_err-item t c =
    let p = err_from_is_err_and c.from_residual.result c.from_residual.ensures.1 in
    rw (p.1, p.2)
    (gives_err (behind k.Or (read.conj_of (read.unit c.args.within c.args.depth)) c.each.cursor) c.in_err-item.field-0.0 c.next_conj.new.cursor _ c.in_err-item.ensures
    (λ e. loop_stops (sees k.Or) (behind k.Or (read.conj_of (read.unit c.args.within c.args.depth))) c.len-end.result c.each.counter c.each.found c.each.cursor _ _ c.each-test.true
    (sym c.sees.ensures ∙ c.if-not-sees.false) e c.each.invariant))

pub more_conjs-each-preserved : goal.more_conjs-each-preserved
more_conjs-each-preserved t c =
    rw c.in_ok-push.ensures.added
    (loop_goes_on (sees k.Or) (behind k.Or (read.conj_of (read.unit c.args.within c.args.depth))) c.len-end.result c.each.counter c.each.found c.each.cursor _ _ _ c.each-test.true
    (sym c.sees.ensures ∙ c.if-not-sees.false) c.in_ok-item.ensures c.each.invariant)

pub more_conjs-returns : goal.more_conjs-returns
more_conjs-returns t c =
    elim c.each-test.branch [
      | more_conjs-else-each-test w ↦ loop_full (sees k.Or) (behind k.Or (read.conj_of (read.unit c.args.within c.args.depth))) c.len-end.result c.each.counter c.each.found c.each.cursor _ w.each-test.false c.each.invariant
      | more_conjs-then-each-test+then-not-sees w ↦ loop_done (sees k.Or) (behind k.Or (read.conj_of (read.unit c.args.within c.args.depth))) c.len-end.result c.each.counter c.each.found c.each.cursor _ w.each-test.true
          (sym w.sees.ensures ∙ w.if-not-sees.true) c.each.invariant
    ]

pub unit-returns-then-sees : goal.unit-returns-then-sees
unit-returns-then-sees t c =
    let e : c.args.depth ≡ suc (c.args.depth - 1) = omega arith in
    rw (unit_negation c.args.within (c.args.depth - 1) c.args.depth c.args.cursor.now e (sym c.sees.ensures ∙ c.if-sees.true)) c.negation.ensures

pub unit-returns-then-sees-2 : goal.unit-returns-then-sees-2
unit-returns-then-sees-2 t c =
    let e : c.args.depth ≡ suc (c.args.depth - 1) = omega arith in
    rw (unit_bracketed c.args.within (c.args.depth - 1) c.args.depth c.args.cursor.now e (sym c.sees.ensures ∙ c.if-sees.false)
    (sym c.sees-2.ensures ∙ c.if-sees-2.true)) c.bracketed.ensures

pub unit-returns : goal.unit-returns
unit-returns t c =
    let e : c.args.depth ≡ suc (c.args.depth - 1) = omega arith in
    rw (unit_other c.args.within (c.args.depth - 1) c.args.depth c.args.cursor.now e (sym c.sees.ensures ∙ c.if-sees.false) (sym c.sees-2.ensures ∙ c.if-sees-2.false))
    c.comparison-2.ensures

pub conj-returns-then-is_err : goal.conj-returns-then-is_err
conj-returns-then-is_err t c =
    conj_stopped (read.unit c.args.within c.args.depth) c.args.cursor.now c.unit-first.new.cursor c.unit-first.result c.unit-first.ensures
    (sym c.is_err.ensures.value ∙ c.if-is_err.true)

pub conj-returns-then-not-sees : goal.conj-returns-then-not-sees
conj-returns-then-not-sees t c =
    conj_single (read.unit c.args.within c.args.depth) c.args.cursor.now c.unit-first.new.cursor c.unit-first.result c.unit-first.ensures
    (sym c.is_err.ensures.value ∙ c.if-is_err.false) (sym c.sees.ensures ∙ c.if-not-sees.true)

pub cond_within-returns-then-is_err : goal.cond_within-returns-then-is_err
cond_within-returns-then-is_err t c =
    cond_stopped (read.unit c.args.within c.args.depth) c.args.cursor.now c.conj-first.new.cursor c.conj-first.result c.conj-first.ensures
    (sym c.is_err.ensures.value ∙ c.if-is_err.true)

pub cond_within-returns-then-not-sees : goal.cond_within-returns-then-not-sees
cond_within-returns-then-not-sees t c =
    cond_single (read.unit c.args.within c.args.depth) c.args.cursor.now c.conj-first.new.cursor c.conj-first.result c.conj-first.ensures
    (sym c.is_err.ensures.value ∙ c.if-is_err.false) (sym c.sees.ensures ∙ c.if-not-sees.true)
