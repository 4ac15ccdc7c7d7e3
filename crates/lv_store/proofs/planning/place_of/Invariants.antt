use Rattle.std.proofs.Common.{◌≡◌, ◌++◌, take, drop}
use Rattle.std.specs.Ordering.{nat_cmp}
use Rattle.lv_schema.specs.Once.{put_once}
use Rattle.lv_store.proofs.planning.place_of.Given as goal

abbrev pub invariant-loop-at : goal.invariant-loop-at
invariant-loop-at l = put_once nat_cmp l.view l.views ≡ take l.at l.views ++ put_once nat_cmp l.view (drop l.at l.views)
