use Rattle.std.proofs.Common.{sym, ap, ap₂, ◌∙◌, arith}
use Rattle.std.specs.Ordering.{is_lt}
use Rattle.lv_values.specs.Order.{row_cmp}
use Rattle.lv_schema.specs.declared.signed.SignedRow.{SignedRow}
use Rattle.lv_bags.proofs.Placing.{rises_alone, rises_on}
use Rattle.lv_bags.proofs.netting.is_below_next.Goals as goal

pub returns-then-at-list : goal.returns-then-at-list
returns-then-at-list c = λ yes rest. rises_alone c.args.list.now c.args.at (omega arith)

pub returns : goal.returns
returns c = λ yes rest.
    let less = ap₂ (λ (x y : SignedRow). is_lt (row_cmp x.row y.row)) c.index-list-at.is c.index-list-at-2.is ∙ sym (ap is_lt c.cmp.ensures) ∙ sym c.is_lt.ensures ∙ yes in
    rises_on c.args.list.now c.args.at c.index-list-at.result c.index-list-at-2.result (omega (arith, c.requires, c.if-at-list.false)) c.index-list-at.is c.index-list-at-2.is less rest
