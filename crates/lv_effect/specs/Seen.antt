-- What a transaction sees of a table.
use Rattle.std.specs.Prelude.{ℕ, List}
use Rattle.lv_values.specs.declared.value.Value.{Value}
use Rattle.lv_schema.specs.declared.table.TableDef.{TableDef}
use Rattle.lv_schema.specs.declared.version.RowVersion.{RowVersion}
use Rattle.lv_overlay.specs.declared.put.Put.{Put}
use Rattle.lv_overlay.specs.Puts.{rows_over}
use Rattle.lv_versions.specs.Versions.{state_at}

-- the rows after commit n, with its own writes over them
abbrev pub rows_seen : TableDef → List RowVersion → ℕ → List Put → List (List Value)
rows_seen def versions n puts = rows_over def.key puts def.no (state_at n versions)
