use Rattle.std.proofs.Common.{refl, sym, ◌∙◌}
use Rattle.lv_effect.specs.TableActions.{delete_actions}
use Rattle.lv_effect.proofs.Matching.{one_more, none_left, deletes_split}
use Rattle.lv_effect.proofs.effects.deletes.Goals as goal

pub loop-row-preserved : goal.loop-row-preserved
loop-row-preserved c =
    rw c.in_ok-delete_row.ensures
    (one_more (delete_actions c.args.table c.args.cond.now) (deletes_split c.args.table c.args.cond.now) c.in-Some.row c.next.new.self.rest.items _ _ _ c.in-Some.ensures.steps.0 c.loop-row.invariant)

pub returns : goal.returns
returns c =
    none_left (delete_actions c.args.table c.args.cond.now) refl c.loop-row.row-iterator.rest.items _ _ (sym c.loop-row.row-iterator.rest.ok.0 ∙ c.in-None.ensures.steps.0) c.loop-row.invariant
