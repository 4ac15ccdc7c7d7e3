use Rattle.std.proofs.Common.{sym, ◌∙◌}
use Rattle.lv_values.specs.Rows.{value_in}
use Rattle.lv_reach.proofs.Asking.{behind_first, behind_other}
use Rattle.lv_reach.proofs.asked.behind_value.Goals as goal

pub returns-then-is_value_in-clause-some : goal.returns-then-is_value_in-clause-some
returns-then-is_value_in-clause-some c =
    behind_first c.args.link.now c.args.from c.args.to (value_in c.args.row.now c.args.column) c.in_ok-first.first.now c.args.values.now c.in_ok-first.rest.now
    (sym c.goes.ensures ∙ c.if-not-goes.false) c.in_ok-first.ensures.cases.0 (sym c.is_value_in.ensures ∙ c.if-is_value_in.true)

pub returns-else-is_value_in-clause-none : goal.returns-else-is_value_in-clause-none
returns-else-is_value_in-clause-none c =
    behind_other c.args.link.now c.args.from c.args.to (value_in c.args.row.now c.args.column) c.in_ok-first.first.now c.args.values.now c.in_ok-first.rest.now
    (sym c.goes.ensures ∙ c.if-not-goes.false) c.in_ok-first.ensures.cases.0 (sym c.is_value_in.ensures ∙ c.if-is_value_in.false)
