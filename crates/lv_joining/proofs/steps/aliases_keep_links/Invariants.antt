use Rattle.std.proofs.Common.{◌≡◌}
use Rattle.lv_schema.specs.Databases.{rows_of}
use Rattle.lv_schema.specs.World.{World, snap, table_at, view_at}
use Rattle.lv_joining.specs.Joining.{HaveStandIns, linked_columns}
use Rattle.lv_joining.specs.Kept.{IsKeptStep}
use Rattle.lv_joining.proofs.KeptSteps.{AllBelow}
use Rattle.lv_joining.proofs.steps.aliases_keep_links.Given as goal

abbrev pub invariant-loop-table : goal.invariant-loop-table
invariant-loop-table l = record {
  alias : l.alias ≡ l.table-index;
  tables : l.table-items ≡ l.def.tables;
  each : (w : World) → IsKeptStep w l.base l.step → l.def ≡ view_at w.visible.views l.step.view
      → AllBelow (λ i t. HaveStandIns (table_at w.visible.tables t).key (linked_columns l.links i) (rows_of (snap w.visible l.step.lo) t) (rows_of (snap w.visible l.step.hi) t)) l.def.tables l.table-index;
}
