use Rattle.std.proofs.Common.{◌≡◌, ◌++◌, take, drop, map}
use Rattle.lv_values.proofs.edits.edit_all.Given as goal

abbrev pub invariant-loop-item : goal.invariant-loop-item
invariant-loop-item g l =
    l.item-items ≡ map (g.E.Edit.edited l.edit) (take l.item-index l.initial.item-items) ++ drop l.item-index l.initial.item-items
