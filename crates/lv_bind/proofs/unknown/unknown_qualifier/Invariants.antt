use Rattle.std.proofs.Common.{◌≡◌, map, drop}
use Rattle.std.specs.List.{list_any}
use Rattle.std.specs.Str.{bytes_eq}
use Rattle.lv_bind.specs.Seen.{alias_seen, aliases, tables_of, views_of}
use Rattle.lv_bind.proofs.unknown.unknown_qualifier.Given as goal

abbrev pub invariant-loop-source : goal.invariant-loop-source
invariant-loop-source l =
    list_any (λ s. bytes_eq l.qualifier.name s.name) (map (alias_seen (tables_of l.scope) (views_of l.scope)) (drop l.source-index l.scope.sources.now))
    ≡ list_any (λ s. bytes_eq l.qualifier.name s.name) (aliases l.scope)
