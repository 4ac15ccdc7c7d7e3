use Rattle.std.proofs.Common.{◌≡◌, [], refl, sym, ap, ◌∙◌, arith}
use Rattle.lv_viewrows.specs.Standing.{changed_all, pruned}
use Rattle.lv_viewrows.proofs.LeftInPlace.{left_first}
use Rattle.lv_viewrows.proofs.Open.{open_pruned}
use Rattle.lv_viewrows.proofs.in_place.apply_in_place.Goals as goal

pub loop-change-init : goal.loop-change-init
loop-change-init c = record {
  left = left_first c.args.number c.args.changes c.args.versions.now.list c.len-high.result c.requires.«open» c.requires.order c.requires.each c.requires.ascend c.requires.meet c.len-high.ensures;
  open_now = c.requires.«open»;
  changed = refl;
  room = c.requires.room;
  taken = omega arith;
}

pub returns-clause-changed : goal.returns-clause-changed
returns-clause-changed c =
    let now = c.loop-change.versions.list in
    let none : c.loop-change.changes ≡ [] = c.in_default.ensures.0 in
    sym (open_pruned c.args.number now c.loop-change.invariant.open_now)
    ∙ ap (λ l. pruned c.args.number (changed_all c.args.number l now)) (sym none)
    ∙ c.loop-change.invariant.changed
