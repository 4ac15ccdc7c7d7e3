use Rattle.std.proofs.Common.{◌≡◌, drop}
use Rattle.lv_bind.specs.Sources.{first}
use Rattle.lv_bind.specs.Unknown.{unknown_refs}
use Rattle.lv_bind.proofs.unknown.unknown_ref.Given as goal

abbrev pub invariant-loop-table : goal.invariant-loop-table
invariant-loop-table l =
    first (unknown_refs l.schema.tables l.schema.views (drop l.table-index l.refs)) ≡ first (unknown_refs l.schema.tables l.schema.views l.refs)
