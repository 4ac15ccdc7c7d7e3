use Rattle.std.proofs.Common.{◌≡◌, true, ◌++◌, drop, map}
use Rattle.lv_schema.specs.declared.action.DeltaEntry.{DeltaEntry}
use Rattle.lv_schema.specs.Once.{Ascends}
use Rattle.lv_condense.specs.Touches.{Alike, collected, touch_cmp, touched}
use Rattle.lv_condense.proofs.collecting.touches_of.Given as goal

abbrev pub invariant-loop-entry : goal.invariant-loop-entry
invariant-loop-entry l = record {
  alike : Alike (collected l.touches.list.items l.touches.latest ++ touched l.table.key l.table.no (map (λ (e : DeltaEntry). e.action) (drop l.entry-index l.entries))) (touched l.table.key l.table.no (map (λ (e : DeltaEntry). e.action) l.entries));
  ascend : l.touches.ascend ≡ true → Ascends touch_cmp l.touches.list.items;
}
