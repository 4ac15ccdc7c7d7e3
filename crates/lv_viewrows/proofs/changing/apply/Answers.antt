use Rattle.std.proofs.Common.{refl, subst, sym, ◌∙◌, arith}
use Rattle.lv_shelf.specs.Shelves.{LacksItem}
use Rattle.lv_shelf.proofs.Cutting.{cut_long}
use Rattle.lv_viewrows.specs.Kept.{version_from}
use Rattle.lv_viewrows.specs.Standing.{comes_before, has_no_end}
use Rattle.lv_viewrows.proofs.Filling.{new_to_ended}
use Rattle.lv_viewrows.proofs.NotEnded.{before_long}
use Rattle.lv_viewrows.proofs.Replacing.{no_current, put_alone}
use Rattle.lv_viewrows.proofs.changing.apply.Goals as goal

pub is_current_before-requires : goal.is_current_before-requires
is_current_before-requires c = cut_long (comes_before c.args.change.row c.args.number) c.args.front.all c.args.versions.now.list c.requires.cut

pub change_current-requires-clause-some : goal.change_current-requires-clause-some
change_current-requires-clause-some c = c.is_current_before.ensures.some c.if-is_current_before.true

pub change_current-requires-clause-current : goal.change_current-requires-clause-current
change_current-requires-clause-current c = λ v e.
    sym (c.is_current_before.ensures.last v (c.is_current_before.ensures.some c.if-is_current_before.true) e) ∙ c.if-is_current_before.true

pub put_change-requires-clause-absent : goal.put_change-requires-clause-absent
put_change-requires-clause-absent c =
    let s = c.args.change in
    let number = c.args.number in
    let vs = c.args.versions.now.list in
    let none = no_current number s vs c.requires.order c.requires.meets c.args.front.all c.requires.cut (λ v lt e. sym (c.is_current_before.ensures.last v lt e) ∙ c.if-is_current_before.false) in
    subst (LacksItem (version_from number s)) none.1 (new_to_ended number s s vs refl c.requires.meets)

pub returns-clause-changed : goal.returns-clause-changed
returns-clause-changed c =
    let s = c.args.change in
    let number = c.args.number in
    let vs = c.args.versions.now.list in
    let none = no_current number s vs c.requires.order c.requires.meets c.args.front.all c.requires.cut (λ v lt e. sym (c.is_current_before.ensures.last v lt e) ∙ c.if-is_current_before.false) in
    c.put_change.ensures.put ∙ put_alone number s vs none

pub returns-clause-upto : goal.returns-clause-upto
returns-clause-upto c = omega (arith, c.put_change.ensures.place, before_long has_no_end c.args.front.all c.put_change.new.versions.list)
