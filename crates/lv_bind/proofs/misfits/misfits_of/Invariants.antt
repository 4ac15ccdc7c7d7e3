use Rattle.std.proofs.Common.{◌≡◌, map, drop}
use Rattle.std.specs.Option.{option_copied, option_or}
use Rattle.lv_bind.specs.Ambiguous.{ambiguous_columns}
use Rattle.lv_bind.specs.Seen.{aliases, column_seen}
use Rattle.lv_bind.specs.Sources.{first}
use Rattle.lv_bind.specs.Unknown.{unknown_columns}
use Rattle.lv_bind.proofs.misfits.misfits_of.Given as goal

abbrev pub invariant-loop-column : goal.invariant-loop-column
invariant-loop-column l = record {
  unknown : option_or (option_copied l.unknown) (first (unknown_columns (aliases l.scope) (map column_seen (drop l.column-index l.columns))))
      ≡ first (unknown_columns (aliases l.scope) (map column_seen l.columns));
  ambiguous : option_or (option_copied l.ambiguous) (first (ambiguous_columns (aliases l.scope) (map column_seen (drop l.column-index l.columns))))
      ≡ first (ambiguous_columns (aliases l.scope) (map column_seen l.columns));
}
