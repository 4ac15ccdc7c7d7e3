use Rattle.std.proofs.Common.{◌≡◌, drop}
use Rattle.lv_bind.specs.Sources.{first}
use Rattle.lv_bind.specs.Unknown.{unknown_key}
use Rattle.lv_bind.proofs.unknown.unknown_key.Given as goal

abbrev pub invariant-loop-column : goal.invariant-loop-column
invariant-loop-column l =
    first (unknown_key l.columns (drop l.column-index l.key)) ≡ first (unknown_key l.columns l.key)
