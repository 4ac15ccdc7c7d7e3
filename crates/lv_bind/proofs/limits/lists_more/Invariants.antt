use Rattle.std.proofs.Common.{◌≡◌, map, drop, nat_lt}
use Rattle.lv_bind.specs.Limits.{column_total}
use Rattle.lv_bind.specs.Seen.{alias_seen, aliases, tables_of, views_of}
use Rattle.lv_bind.proofs.limits.lists_more.Given as goal

abbrev pub invariant-loop-source : goal.invariant-loop-source
invariant-loop-source l =
    nat_lt l.left (column_total (map (alias_seen (tables_of l.scope) (views_of l.scope)) (drop l.source-index l.scope.sources.now))) ≡ nat_lt 64 (column_total (aliases l.scope))
