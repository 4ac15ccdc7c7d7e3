use Rattle.std.proofs.Common.{◌≡◌, true, ◌++◌, drop}
use Rattle.lv_schema.specs.Once.{Ascends}
use Rattle.lv_condense.specs.Touches.{Alike, collected, touch_cmp, touched}
use Rattle.lv_condense.proofs.collecting.touches_in.Given as goal

abbrev pub invariant-loop-action : goal.invariant-loop-action
invariant-loop-action l = record {
  alike : Alike (collected l.touches.list.items l.touches.latest ++ touched l.table.key l.table.no (drop l.action-index l.actions)) (touched l.table.key l.table.no l.actions);
  ascend : l.touches.ascend ≡ true → Ascends touch_cmp l.touches.list.items;
}
