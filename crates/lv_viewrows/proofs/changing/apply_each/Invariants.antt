use Rattle.std.proofs.Common.{◌≡◌, ◌+◌, ◌≤◌, length}
use Rattle.lv_viewrows.specs.Standing.{AreLeft, changed_all}
use Rattle.lv_viewrows.proofs.changing.apply_each.Given as goal

abbrev pub invariant-loop-change : goal.invariant-loop-change
invariant-loop-change l = record {
  left : AreLeft l.number l.changes l.versions.list l.high.all l.high.not_ended;
  changed : changed_all l.number l.changes l.versions.list ≡ changed_all l.initial.number l.initial.changes l.initial.versions.list;
  room : length l.changes ≤ l.versions.spare;
  taken : l.initial.versions.spare + length l.changes ≤ l.versions.spare + length l.initial.changes;
}

abbrev pub decreases-loop-change : goal.decreases-loop-change
decreases-loop-change l = length l.changes
