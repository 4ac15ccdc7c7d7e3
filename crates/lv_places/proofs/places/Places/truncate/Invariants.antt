use Rattle.std.proofs.Common.{◌≡◌, min, ◌≤◌, length, take}
use Rattle.lv_places.proofs.places.Places.truncate.Given as goal

abbrev pub invariant-loop-self : goal.invariant-loop-self
invariant-loop-self l = record {
  first : l.self.list ≡ take (length l.self.list) l.initial.self.list;
  least : min l.len (length l.initial.self.list) ≤ length l.self.list;
  room : l.self.room ≡ l.initial.self.room;
}

abbrev pub decreases-loop-self : goal.decreases-loop-self
decreases-loop-self l = length l.self.list
