use Rattle.std.proofs.Common.{◌≡◌, ◌+◌, ◌≤◌, length}
use Rattle.lv_viewrows.specs.Standing.{AreLeft, AreOpen, changed_all, pruned}
use Rattle.lv_viewrows.proofs.in_place.apply_in_place.Given as goal

abbrev pub invariant-loop-change : goal.invariant-loop-change
invariant-loop-change l = record {
  left : AreLeft l.number l.changes l.versions.list l.high l.high;
  open_now : AreOpen l.versions.list;
  changed : pruned l.number (changed_all l.number l.changes l.versions.list) ≡ pruned l.initial.number (changed_all l.initial.number l.initial.changes l.initial.versions.list);
  room : length l.changes ≤ l.versions.spare;
  taken : l.initial.versions.spare + length l.changes ≤ l.versions.spare + length l.initial.changes;
}

abbrev pub decreases-loop-change : goal.decreases-loop-change
decreases-loop-change l = length l.changes
