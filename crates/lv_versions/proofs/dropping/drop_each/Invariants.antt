use Rattle.std.proofs.Common.{◌≡◌, ◌≤◌, ◌-◌, filter, true}
use Rattle.std.specs.List.{AllByRecursion}
use Rattle.lv_shelf.specs.Cuts.{Apart, IsCut}
use Rattle.lv_shelf.specs.Shelves.{other_at}
use Rattle.lv_shelf.specs.Chains.{joined}
use Rattle.lv_versions.specs.Versions.{AreChains, AreOrders, Lived, Precedes, ends_after, is_open, is_over}
use Rattle.lv_versions.proofs.dropping.drop_each.Given as goal

abbrev pub invariant-loop : goal.invariant-loop
invariant-loop l = record {
  stand : Apart (Precedes l.positions) (joined l.versions.chains);
  chained : AreChains l.positions l.versions.chains;
  lived : AllByRecursion Lived (joined l.versions.chains);
  orders : AreOrders l.positions l.indexes l.versions.others (joined l.versions.chains);
  over : IsCut (is_over l.floor) (l.many - l.counter) (other_at l.versions.others 0);
  kept : filter (λ v. ends_after l.floor v.until) (joined l.versions.chains) ≡ filter (λ v. ends_after l.floor v.until) (joined l.initial.versions.chains);
  unended : AllByRecursion (λ v. is_open v ≡ true) (other_at l.versions.others 1);
  current : other_at l.versions.others 1 ≡ other_at l.initial.versions.others 1;
  room : l.initial.versions.spare ≤ l.versions.spare;
}
