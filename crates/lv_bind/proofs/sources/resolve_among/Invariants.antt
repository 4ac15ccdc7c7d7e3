use Rattle.std.proofs.Common.{◌≡◌, map, drop}
use Rattle.std.specs.List.{cons_option}
use Rattle.lv_bind.specs.Seen.{alias_seen, aliases, column_seen, tables_of, views_of}
use Rattle.lv_bind.specs.Sources.{places, places_from}
use Rattle.lv_bind.proofs.sources.resolve_among.Given as goal

abbrev pub invariant-loop-number : goal.invariant-loop-number
invariant-loop-number l =
    cons_option l.found (places_from l.number (map (alias_seen (tables_of l.scope) (views_of l.scope)) (drop l.number l.scope.sources.now)) (column_seen l.column)) ≡ places (aliases l.scope) (column_seen l.column)
