use Rattle.std.proofs.Common.{◌≡◌, map, take}
use Rattle.lv_group.specs.Gathered.{listed_values}
use Rattle.lv_group.proofs.listing.listed_rows.Given as goal

abbrev pub invariant-loop-group : goal.invariant-loop-group
invariant-loop-group l = l.rows ≡ map (λ group. listed_values l.by group l.items group.sums) (take l.group-index l.groups)
