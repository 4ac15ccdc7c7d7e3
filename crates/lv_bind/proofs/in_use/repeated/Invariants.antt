use Rattle.std.proofs.Common.{◌≡◌, map, drop, take, []}
use Rattle.lv_bind.specs.InUse.{repeated_after}
use Rattle.lv_bind.specs.Sources.{first}
use Rattle.lv_bind.proofs.in_use.repeated.Given as goal

abbrev pub invariant-loop-at : goal.invariant-loop-at
invariant-loop-at g l =
    first (repeated_after (map g.T.Entry.name_of (take l.at l.entries)) (map g.T.Entry.name_of (drop l.at l.entries))) ≡ first (repeated_after [] (map g.T.Entry.name_of l.entries))
