use Rattle.std.proofs.Common.{◌≡◌, ◌++◌, map, drop}
use Rattle.lv_bind.specs.Binding.{columns_from}
use Rattle.lv_bind.specs.Seen.{alias_seen, aliases, tables_of, views_of}
use Rattle.lv_bind.proofs.binding.every_col.Given as goal

abbrev pub invariant-loop-alias : goal.invariant-loop-alias
invariant-loop-alias l =
    l.out ++ columns_from l.alias (map (alias_seen (tables_of l.scope) (views_of l.scope)) (drop l.alias l.scope.sources.now)) ≡ columns_from 0 (aliases l.scope)
