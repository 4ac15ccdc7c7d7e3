use Rattle.std.proofs.Common.{take}
use Rattle.std.specs.List.{AllByRecursion}
use Rattle.lv_base.specs.Bases.{IsReindexed, KeepsIndexes}
use Rattle.lv_near.specs.Orders.{HasBothIndexes}
use Rattle.lv_near.proofs.orders.index_each.Given as goal

abbrev pub invariant-loop-link : goal.invariant-loop-link
invariant-loop-link l = record {
  same : IsReindexed l.initial.base l.base;
  kept : KeepsIndexes l.initial.base l.base;
  there : AllByRecursion (HasBothIndexes l.base l.tables l.links) (take l.link-index l.links);
}
