use Rattle.std.proofs.Common.{◌≡◌, [], filter, sym, ap, subst, ◌∙◌}
use Rattle.std.specs.List.{AllByRecursion}
use Rattle.lv_group.specs.Gathered.{has_tuples}
use Rattle.lv_shelf.specs.Cuts.{Apart}
use Rattle.lv_viewrows.specs.Standing.{IsBy, Precedes, changed_all}
use Rattle.lv_viewrows.proofs.Filling.{all_filled, filled_each, filled_order, none_of}
use Rattle.lv_viewrows.proofs.changing.apply_all.Goals as goal

pub returns-then-len-eq0-clause-changed : goal.returns-then-len-eq0-clause-changed
returns-then-len-eq0-clause-changed c =
    let vs = c.args.versions.now.list in
    let none : vs ≡ [] = none_of vs (sym c.len.ensures ∙ c.if-len-eq0.true) in
    c.fill.ensures.filled ∙ sym (all_filled c.args.number c.args.changes c.requires.ascend) ∙ ap (changed_all c.args.number c.args.changes) (sym none)

pub returns-then-len-eq0-clause-order : goal.returns-then-len-eq0-clause-order
returns-then-len-eq0-clause-order c = subst (Apart Precedes) (sym c.fill.ensures.filled) (filled_order c.args.number c.args.changes c.requires.ascend)

pub returns-then-len-eq0-clause-each : goal.returns-then-len-eq0-clause-each
returns-then-len-eq0-clause-each c = subst (AllByRecursion (IsBy c.args.number)) (sym c.fill.ensures.filled) (filled_each c.args.number (filter has_tuples c.args.changes))
