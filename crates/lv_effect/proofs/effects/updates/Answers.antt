use Rattle.std.proofs.Common.{refl, sym, ◌∙◌, subst}
use Rattle.lv_effect.specs.Sums.{SumsFit}
use Rattle.lv_effect.specs.TableActions.{update_actions}
use Rattle.lv_effect.proofs.Matching.{one_more, none_left, updates_split}
use Rattle.lv_effect.proofs.effects.updates.Goals as goal

pub update_row-requires : goal.update_row-requires
update_row-requires c = (subst (SumsFit c.args.sets.now) c.in-Some.ensures.steps.0 c.loop-row.invariant.1).0

pub loop-row-preserved : goal.loop-row-preserved
loop-row-preserved c = (
  rw c.in_ok-update_row.ensures
      (one_more (update_actions c.args.table c.args.sets.now c.args.cond.now) (updates_split c.args.table c.args.sets.now c.args.cond.now) c.in-Some.row c.next.new.self.rest.items _ _ _ c.in-Some.ensures.steps.0 c.loop-row.invariant.0),
  (subst (SumsFit c.args.sets.now) c.in-Some.ensures.steps.0 c.loop-row.invariant.1).1,
)

pub returns : goal.returns
returns c =
    none_left (update_actions c.args.table c.args.sets.now c.args.cond.now) refl c.loop-row.row-iterator.rest.items _ _ (sym c.loop-row.row-iterator.rest.ok.0 ∙ c.in-None.ensures.steps.0) c.loop-row.invariant.0
