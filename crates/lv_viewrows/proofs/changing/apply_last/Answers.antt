use Rattle.std.proofs.Common.{refl, sym, ap, ◌∙◌, subst}
use Rattle.lv_shelf.proofs.Cutting.{cut_long}
use Rattle.lv_shelf.proofs.Shelved.{all_last}
use Rattle.lv_viewrows.specs.Standing.{AreLeft, MeetAll, changed_all, comes_before, not_ended_before}
use Rattle.lv_viewrows.proofs.Bounds.{left_wide}
use Rattle.lv_viewrows.proofs.Changes.{changed_last}
use Rattle.lv_viewrows.proofs.Following.{both_changed, both_left, last_within, left_after}
use Rattle.lv_viewrows.proofs.changing.apply_last.Goals as goal

pub take_ending-requires : goal.take_ending-requires
take_ending-requires c = cut_long (comes_before c.args.change.row c.args.number) c.count_before.result c.args.versions.now.list c.count_before.ensures

pub replace-requires-clause-at : goal.replace-requires-clause-at
replace-requires-clause-at c =
    last_within c.args.number c.args.changes.now c.take_ending.new.changes c.in-Some._ending c.args.change c.args.versions.now.list c.args.high.all c.args.high.not_ended c.requires.left c.count_before.result c.count_before.ensures c.in-Some.ensures

pub apply-requires-clause-meets : goal.apply-requires-clause-meets
apply-requires-clause-meets c = (all_last (MeetAll c.args.number c.args.versions.now.list) c.args.changes.now c.args.change c.requires.left.meet).1

pub returns-in-Some-clause-changed : goal.returns-in-Some-clause-changed
returns-in-Some-clause-changed c =
    both_changed c.args.number c.args.changes.now c.take_ending.new.changes c.in-Some._ending c.args.change c.args.versions.now.list c.args.high.all c.args.high.not_ended c.requires.left c.count_before.result c.count_before.ensures c.in-Some.ensures
    c.replace.new.self.list c.replace.ensures.replaced

pub returns-in-Some-clause-left : goal.returns-in-Some-clause-left
returns-in-Some-clause-left c =
    both_left c.args.number c.args.changes.now c.take_ending.new.changes c.in-Some._ending c.args.change c.args.versions.now.list c.args.high.all c.args.high.not_ended c.requires.left c.count_before.result c.count_before.ensures c.in-Some.ensures
    c.replace.new.self.list c.replace.ensures.replaced

pub returns-in-None-clause-changed : goal.returns-in-None-clause-changed
returns-in-None-clause-changed c =
    ap (λ l. changed_all c.args.number l c.apply.new.versions.list) c.in-None.ensures
    ∙ ap (changed_all c.args.number c.args.changes.now) c.apply.ensures.changed
    ∙ sym (changed_last c.args.number c.args.changes.now c.args.change c.args.versions.now.list)

pub returns-in-None-clause-left : goal.returns-in-None-clause-left
returns-in-None-clause-left c =
    let now = c.apply.new.versions.list in
    let at = c.apply.result.all in
    subst (λ l. AreLeft c.args.number l now at c.apply.result.not_ended) (sym c.in-None.ensures)
    (left_wide c.args.number c.args.changes.now now at (not_ended_before at now) c.apply.result.not_ended
    (left_after c.args.number c.args.changes.now c.args.change c.args.versions.now.list c.args.high.all c.args.high.not_ended c.requires.left now c.apply.ensures.changed at (not_ended_before at now) c.apply.ensures.cut refl)
    c.apply.ensures.from c.apply.ensures.upto)
