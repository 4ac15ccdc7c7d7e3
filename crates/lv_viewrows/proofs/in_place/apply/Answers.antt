use Rattle.std.proofs.Common.{refl, sym, ap, subst, ◌∙◌}
use Rattle.lv_shelf.specs.Shelves.{LacksItem}
use Rattle.lv_shelf.proofs.Cutting.{cut_long}
use Rattle.lv_viewrows.specs.Kept.{version_from}
use Rattle.lv_viewrows.specs.Standing.{comes_before, pruned, put}
use Rattle.lv_viewrows.proofs.Filling.{new_to_ended}
use Rattle.lv_viewrows.proofs.Open.{open_before, open_pruned, open_put}
use Rattle.lv_viewrows.proofs.Replacing.{no_current, put_alone}
use Rattle.lv_viewrows.proofs.in_place.apply.Goals as goal

pub is_current_before-requires : goal.is_current_before-requires
is_current_before-requires c = cut_long (comes_before c.args.change.row c.args.number) c.args.at c.args.versions.now.list c.requires.cut

pub put_change-requires-clause-place : goal.put_change-requires-clause-place
put_change-requires-clause-place c =
    let vs = c.args.versions.now.list in
    sym (open_before c.args.at vs c.requires.open (cut_long (comes_before c.args.change.row c.args.number) c.args.at vs c.requires.cut))

pub put_change-requires-clause-absent : goal.put_change-requires-clause-absent
put_change-requires-clause-absent c =
    let s = c.args.change in
    let number = c.args.number in
    let vs = c.args.versions.now.list in
    let none = no_current number s vs c.requires.order c.requires.meets c.args.at c.requires.cut (λ v lt e. sym (c.is_current_before.ensures.last v lt e) ∙ c.if-is_current_before.false) in
    subst (LacksItem (version_from number s)) none.1 (new_to_ended number s s vs refl c.requires.meets)

pub returns-clause-changed : goal.returns-clause-changed
returns-clause-changed c =
    let s = c.args.change in
    let number = c.args.number in
    let vs = c.args.versions.now.list in
    let none = no_current number s vs c.requires.order c.requires.meets c.args.at c.requires.cut (λ v lt e. sym (c.is_current_before.ensures.last v lt e) ∙ c.if-is_current_before.false) in
    c.put_change.ensures.put
    ∙ sym (open_pruned number (put number s vs) (open_put number s vs c.requires.open))
    ∙ ap (pruned number) (put_alone number s vs none)
