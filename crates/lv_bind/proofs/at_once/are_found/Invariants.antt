use Rattle.std.proofs.Common.{◌≡◌, map, drop}
use Rattle.std.specs.Prelude.{is_some}
use Rattle.std.specs.List.{list_all}
use Rattle.lv_bind.proofs.at_once.are_found.Given as goal

abbrev pub invariant-loop-source : goal.invariant-loop-source
invariant-loop-source l =
    list_all is_some (map (λ s. s.rel) (drop l.source-index l.sources)) ≡ list_all is_some (map (λ s. s.rel) l.sources)
