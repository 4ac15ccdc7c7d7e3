use Rattle.std.proofs.Common.{◌∙◌, sym, subst}
use Rattle.std.proofs.lemmas.List.{drop_more}
use Rattle.lv_effect.specs.Sums.{SumsFit}
use Rattle.lv_effect.proofs.Matching.{wide_step, first_some, first_none}
use Rattle.lv_effect.proofs.effects.first_wide.Goals as goal

pub returns-then-is_some : goal.returns-then-is_some
returns-then-is_some c =
    sym (
    wide_step c.args.sets.now c.args.cond.now c.args.rows.now c.loop-row.row-index c.row-item.result c.wide_where_kept-wide.result _ c.loop-row-test.true c.row-item.is c.wide_where_kept-wide.ensures c.loop-row.invariant.0
    ∙ first_some c.wide_where_kept-wide.result _ (sym c.is_some.ensures ∙ c.if-is_some.true)
    )

pub loop-row-preserved : goal.loop-row-preserved
loop-row-preserved c = (
  wide_step c.args.sets.now c.args.cond.now c.args.rows.now c.loop-row.row-index c.row-item.result c.wide_where_kept-wide.result _ c.loop-row-test.true c.row-item.is c.wide_where_kept-wide.ensures c.loop-row.invariant.0
      ∙ first_none c.wide_where_kept-wide.result _ (sym c.is_some.ensures ∙ c.if-is_some.false),
  (subst (SumsFit c.args.sets.now) (drop_more c.args.rows.now c.loop-row.row-index c.row-item.result c.loop-row-test.true) c.loop-row.invariant.1).1,
)
