use Rattle.std.proofs.Common.{◌≡◌, take}
use Rattle.lv_values.specs.Rows.{values_at}
use Rattle.lv_loading.proofs.actions.key_of.Given as goal

abbrev pub invariant-loop-at : goal.invariant-loop-at
invariant-loop-at l = l.values ≡ values_at (take l.at-index l.key) l.row
