use Rattle.std.proofs.Common.{◌≡◌, ◌≤◌, ◌++◌, drop}
use Rattle.lv_group.specs.Gathered.{listed_values}
use Rattle.lv_group.proofs.listing.list_into.Given as goal

abbrev pub invariant-loop-item : goal.invariant-loop-item
invariant-loop-item l = record {
  few : l.sums ≤ l.item-index;
  values : l.row ++ listed_values l.by l.group (drop l.item-index l.items) (drop l.sums l.group.sums) ≡ listed_values l.by l.group l.items l.group.sums;
}
