use Rattle.std.proofs.Common.{◌≡◌, take}
use Rattle.lv_base.proofs.preparing.copy_actions.Given as goal

abbrev pub invariant-loop-action : goal.invariant-loop-action
invariant-loop-action l = l.copies ≡ take l.action-index l.actions
