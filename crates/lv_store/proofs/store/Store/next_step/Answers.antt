use Rattle.std.proofs.Common.{◌≡◌, ◌<◌, List, length, sym, ◌∙◌, subst}
use Rattle.lv_schema.specs.declared.pending.Pending.{Pending}
use Rattle.lv_picker.specs.Choices.{IsChoice}
use Rattle.lv_upkeep.specs.Kept.{unclaimed_in}
use Rattle.lv_store.proofs.Commits.{is_more}
use Rattle.lv_store.proofs.WorkerSteps.{chosen_below, is_choice, next_planned}
use Rattle.lv_store.proofs.store.Store.next_step.Goals as goal

pub choose-requires : goal.choose-requires
choose-requires g c =
    let p = c.args.self.now in
    let whole = c.requires.whole in
    let told : c.as_slice-list.result.now ≡ unclaimed_in p.upkeep.kept = c.as_slice-list.ensures ∙ c.in_ok-pending.ensures in
    subst IsChoice (sym told)
    (is_choice p whole.world whole.stands (subst (λ (l : List Pending). 0 < length l) told (is_more (length c.as_slice-list.result.now) (sym c.is_empty.ensures ∙ c.if-is_empty.false))))

pub planned-requires-clause-view : goal.planned-requires-clause-view
planned-requires-clause-view g c =
    let p = c.args.self.now in
    let whole = c.requires.whole in
    chosen_below p whole.world whole.stands c.args.picker.now.kind c.as_slice-list.result.now c.choose.result (c.as_slice-list.ensures ∙ c.in_ok-pending.ensures)
    (is_more (length c.as_slice-list.result.now) (sym c.is_empty.ensures ∙ c.if-is_empty.false)) c.choose.ensures.chosen

pub returns : goal.returns
returns g c =
    let p = c.args.self.now in
    let whole = c.requires.whole in
    next_planned p whole.world whole.stands c.args.picker.now.kind c.as_slice-list.result.now c.choose.result c.last-last.result c.planned.result (c.as_slice-list.ensures ∙ c.in_ok-pending.ensures)
    (is_more (length c.as_slice-list.result.now) (sym c.is_empty.ensures ∙ c.if-is_empty.false)) c.choose.ensures.chosen c.last-last.ensures c.planned.ensures
