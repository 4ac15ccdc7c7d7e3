use Rattle.std.proofs.Common.{◌≡◌, drop}
use Rattle.lv_schema.specs.World.{table_at}
use Rattle.lv_bind.specs.Assigned.{assigned_keys}
use Rattle.lv_bind.specs.Seen.{aliases, tables_of}
use Rattle.lv_bind.specs.Sources.{first}
use Rattle.lv_bind.proofs.assigned.assigned_key.Given as goal

abbrev pub invariant-loop-at : goal.invariant-loop-at
invariant-loop-at l =
    first (assigned_keys (aliases l.scope) (table_at (tables_of l.scope) l.table).key (drop l.at l.sets)) ≡ first (assigned_keys (aliases l.scope) (table_at (tables_of l.scope) l.table).key l.sets)
