use Rattle.std.proofs.Common.{◌≡◌, ◌++◌, map}
use Rattle.lv_viewrows.specs.Kept.{version_from}
use Rattle.lv_viewrows.proofs.viewrows.first_versions.Given as goal

abbrev pub invariant-loop-group : goal.invariant-loop-group
invariant-loop-group l = record {
  all : l.yielded ++ l.group-iterator.rest.items ≡ l.fn.groups;
  made : l.versions.list ≡ map (version_from 0) l.yielded;
}
