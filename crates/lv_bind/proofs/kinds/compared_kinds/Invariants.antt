use Rattle.std.proofs.Common.{◌≡◌, map, drop}
use Rattle.lv_bind.specs.Kinds.{compared_kinds}
use Rattle.lv_bind.specs.Seen.{aliases, sides_seen}
use Rattle.lv_bind.specs.Sources.{first}
use Rattle.lv_bind.proofs.kinds.compared_kinds.Given as goal

abbrev pub invariant-loop-left : goal.invariant-loop-left
invariant-loop-left l =
    first (compared_kinds (aliases l.scope) (map sides_seen (drop l.left-index l.comparisons)))
    ≡ first (compared_kinds (aliases l.scope) (map sides_seen l.comparisons))
