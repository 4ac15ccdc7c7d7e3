use Rattle.std.proofs.Common.{◌≡◌}
use Rattle.lv_shelf.proofs.ranked_places.RankedPlaces.reserve.Given as goal

abbrev pub invariant-loop : goal.invariant-loop
invariant-loop l = l.self-inside.places ≡ l.initial.self-inside.places
