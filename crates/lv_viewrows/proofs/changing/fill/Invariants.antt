use Rattle.std.proofs.Common.{◌≡◌, ◌+◌, ◌≤◌, ◌++◌, length, map, filter}
use Rattle.lv_group.specs.Gathered.{has_tuples}
use Rattle.lv_viewrows.specs.Kept.{version_from}
use Rattle.lv_viewrows.proofs.changing.fill.Given as goal

abbrev pub invariant-loop-group : goal.invariant-loop-group
invariant-loop-group l = record {
  all : l.yielded ++ l.group-iterator.rest.items ≡ l.fn.groups;
  filled : l.versions.list ≡ map (version_from l.number) (filter has_tuples l.yielded);
  room : l.initial.versions.spare + length l.group-iterator.rest.items ≤ l.versions.spare + length l.fn.groups;
  left : length l.group-iterator.rest.items ≤ l.versions.spare;
}
