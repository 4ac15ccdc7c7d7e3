use Rattle.std.proofs.Common.{◌≡◌, ◌≤◌, drop, length}
use Rattle.lv_replay.specs.Applies.{can_act}
use Rattle.lv_base.specs.Bases.{defs_of, last_state}
use Rattle.lv_loading.specs.Taking.{may_act, seen}
use Rattle.lv_loading.proofs.actions.take_each.Given as goal

abbrev pub invariant-loop-action : goal.invariant-loop-action
invariant-loop-action g l =
    (may_act (defs_of l.base) (seen l.base l.earlier.list) (drop l.action-index l.actions) ≡ can_act (defs_of l.base) (last_state l.base) l.actions) × (length (drop l.action-index l.actions) ≤ l.earlier.spare)
