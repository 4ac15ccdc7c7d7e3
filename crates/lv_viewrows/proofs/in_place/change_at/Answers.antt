use Rattle.std.proofs.Common.{◌≡◌, ◌-◌, true, false, Some, sym, ap, subst, ◌∙◌, arith}
use Rattle.lv_group.specs.Gathered.{has_tuples}
use Rattle.lv_shelf.specs.Cuts.{IsCut}
use Rattle.lv_shelf.proofs.Cutting.{cut_long, got_within, not_not}
use Rattle.lv_viewrows.specs.declared.version.GroupVersion.{GroupVersion}
use Rattle.lv_viewrows.specs.Changed.{group_with}
use Rattle.lv_viewrows.specs.Standing.{comes_before}
use Rattle.lv_viewrows.proofs.Ending.{counted}
use Rattle.lv_viewrows.proofs.InPlace.{remove_changed, remove_cut, set_changed, set_cut}
use Rattle.lv_viewrows.proofs.in_place.change_at.Goals as goal

pub get-requires : goal.get-requires
get-requires c = omega (arith, c.requires.some, cut_long (comes_before c.args.change.row c.args.number) c.args.at c.args.versions.now.list c.requires.cut)

pub remove-requires-clause-at : goal.remove-requires-clause-at
remove-requires-clause-at c = got_within c.args.versions.now.list (c.args.at - 1) c.get.result.now c.get.ensures

pub returns-then-takes_all-clause-changed : goal.returns-then-takes_all-clause-changed
returns-then-takes_all-clause-changed c =
    let s = c.args.change in
    let item = c.get.result.now in
    let gone : has_tuples (group_with item.group s) ≡ false = not_not (has_tuples (group_with item.group s)) true (sym c.takes_all.ensures ∙ c.if-takes_all.true) in
    c.remove.ensures.removed
    ∙ remove_changed c.args.number s c.args.versions.now.list c.args.at item c.requires.order c.requires.open c.requires.meets c.requires.some c.requires.cut c.get.ensures (c.requires.current item c.get.ensures) gone

pub returns-then-takes_all-clause-cut : goal.returns-then-takes_all-clause-cut
returns-then-takes_all-clause-cut c =
    let item = c.get.result.now in
    subst (IsCut (comes_before c.args.change.row c.args.number) (c.args.at - 1)) (sym c.remove.ensures.removed)
    (remove_cut c.args.number c.args.change c.args.versions.now.list c.args.at item c.requires.order c.requires.open c.requires.meets c.requires.some c.requires.cut c.get.ensures (c.requires.current item c.get.ensures))

pub get-requires-2 : goal.get-requires-2
get-requires-2 c = got_within c.args.versions.now.list (c.args.at - 1) c.get.result.now c.get.ensures

pub with_group-group-requires : goal.with_group-group-requires
with_group-group-requires c =
    let item = c.get-2.result.now in
    counted c.args.number c.args.change c.args.versions.now.list c.requires.meets (c.args.at - 1) item c.get-2.ensures (c.requires.current item c.get-2.ensures)

pub set-requires-clause-at : goal.set-requires-clause-at
set-requires-clause-at c = got_within c.args.versions.now.list (c.args.at - 1) c.get.result.now c.get.ensures

pub returns-clause-changed : goal.returns-clause-changed
returns-clause-changed c =
    let s = c.args.change in
    let item = c.get-2.result.now in
    let got : Some item ≡ Some c.get.result.now = sym c.get-2.ensures ∙ c.get.ensures in
    let same : c.get.result.now ≡ item = cc in
    let group = c.with_group-group.result in
    let there : has_tuples (group_with c.get.result.now.group s) ≡ true = not_not (has_tuples (group_with c.get.result.now.group s)) false (sym c.takes_all.ensures ∙ c.if-takes_all.false) in
    let some : has_tuples group ≡ true = ap has_tuples (c.with_group-group.ensures ∙ ap (λ (v : GroupVersion). group_with v.group s) (sym same)) ∙ there in
    c.set.ensures.set
    ∙ set_changed c.args.number s c.args.versions.now.list c.args.at item c.requires.order c.requires.open c.requires.meets c.requires.some c.requires.cut c.get-2.ensures (c.requires.current item c.get-2.ensures) group c.with_group-group.ensures some

pub returns-clause-cut : goal.returns-clause-cut
returns-clause-cut c =
    let item = c.get-2.result.now in
    subst (IsCut (comes_before c.args.change.row c.args.number) (c.args.at - 1)) (sym c.set.ensures.set)
    (set_cut c.args.number c.args.change c.args.versions.now.list c.args.at item c.requires.order c.requires.open c.requires.meets c.requires.some c.requires.cut c.get-2.ensures (c.requires.current item c.get-2.ensures) c.with_group-group.result c.with_group-group.ensures)
