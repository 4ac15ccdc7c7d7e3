use Rattle.std.proofs.Common.{◌≡◌}
use Rattle.lv_base.specs.Bases.{IsReindexed, KeepsIndexes}
use Rattle.lv_loading.specs.Making.{HaveLinkIndexes}
use Rattle.lv_loading.proofs.parts.Parts.index_all.Given as goal

abbrev pub invariant-loop-view : goal.invariant-loop-view
invariant-loop-view l = record {
  same : l.self ≡ record l.initial.self { base = l.self.base };
  reindexed : IsReindexed l.initial.self.base l.self.base;
  kept : KeepsIndexes l.initial.self.base l.self.base;
  there : HaveLinkIndexes l.self.base l.self.schema.views l.view;
}
