use Rattle.std.proofs.Common.{◌-◌, sym, ap, ◌∙◌, subst}
use Rattle.lv_shelf.proofs.Cutting.{cut_long}
use Rattle.lv_shelf.proofs.Shelved.{all_last}
use Rattle.lv_viewrows.specs.Standing.{AreLeft, AreOpen, MeetAll, changed, changed_all, comes_before, pruned}
use Rattle.lv_viewrows.proofs.Changes.{changed_each}
use Rattle.lv_viewrows.proofs.Following.{last_within}
use Rattle.lv_viewrows.proofs.LeftInPlace.{left_changed, left_pruned, pair_changed, pair_left}
use Rattle.lv_viewrows.proofs.Open.{pruned_open}
use Rattle.lv_viewrows.proofs.in_place.apply_last.Goals as goal

pub take_ending-requires : goal.take_ending-requires
take_ending-requires c = cut_long (comes_before c.args.change.row c.args.number) c.count_before-at.result c.args.versions.now.list c.count_before-at.ensures

pub set-requires-clause-at : goal.set-requires-clause-at
set-requires-clause-at c =
    last_within c.args.number c.args.changes.now c.take_ending.new.changes c.in-Some._ending c.args.change c.args.versions.now.list c.args.high c.args.high c.requires.left c.count_before-at.result c.count_before-at.ensures c.in-Some.ensures

pub apply-requires-clause-meets : goal.apply-requires-clause-meets
apply-requires-clause-meets c = (all_last (MeetAll c.args.number c.args.versions.now.list) c.args.changes.now c.args.change c.requires.left.meet).1

pub returns-in-Some-clause-changed : goal.returns-in-Some-clause-changed
returns-in-Some-clause-changed c =
    ap (λ l. pruned c.args.number (changed_all c.args.number c.take_ending.new.changes l)) c.set.ensures.set
    ∙ pair_changed c.args.number c.args.changes.now c.take_ending.new.changes c.in-Some._ending c.args.change c.args.versions.now.list c.args.high c.args.high c.requires.left c.requires.«open» c.count_before-at.result c.count_before-at.ensures c.in-Some.ensures

pub returns-in-Some-clause-left : goal.returns-in-Some-clause-left
returns-in-Some-clause-left c =
    let at = c.count_before-at.result - 1 in
    subst (λ l. AreLeft c.args.number c.take_ending.new.changes l at at) (sym c.set.ensures.set)
    (pair_left c.args.number c.args.changes.now c.take_ending.new.changes c.in-Some._ending c.args.change c.args.versions.now.list c.args.high c.args.high c.requires.left c.requires.«open» c.count_before-at.result c.count_before-at.ensures c.in-Some.ensures)

pub returns-in-None-clause-changed : goal.returns-in-None-clause-changed
returns-in-None-clause-changed c =
    let number = c.args.number in
    ap (λ l. pruned number (changed_all number l c.apply.new.versions.list)) c.in-None.ensures
    ∙ ap (λ l. pruned number (changed_all number c.args.changes.now l)) c.apply.ensures.changed
    ∙ left_changed number c.args.changes.now c.args.change c.args.versions.now.list c.args.high c.args.high c.requires.left

pub returns-in-None-clause-left : goal.returns-in-None-clause-left
returns-in-None-clause-left c =
    let at = c.apply.result in
    subst (λ l. AreLeft c.args.number l c.apply.new.versions.list at at) (sym c.in-None.ensures)
    (left_pruned c.args.number c.args.changes.now c.args.change c.args.versions.now.list c.apply.new.versions.list c.args.high c.args.high c.requires.left c.apply.ensures.changed at c.apply.ensures.cut)

pub returns-in-None-clause-open : goal.returns-in-None-clause-open
returns-in-None-clause-open c =
    let then = changed c.args.number c.args.change c.args.versions.now.list in
    subst AreOpen (sym c.apply.ensures.changed) (pruned_open c.args.number then (changed_each c.args.number c.args.change c.args.versions.now.list c.requires.left.each))
