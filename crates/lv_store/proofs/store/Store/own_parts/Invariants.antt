use Rattle.std.proofs.Common.{◌≡◌, map, take}
use Rattle.lv_store.specs.Querying.{own_rows_in}
use Rattle.lv_store.proofs.store.Store.own_parts.Given as goal

abbrev pub invariant-loop-table : goal.invariant-loop-table
invariant-loop-table g l = l.parts ≡ map (own_rows_in l.self l.session) (take l.table-index l.tables)
