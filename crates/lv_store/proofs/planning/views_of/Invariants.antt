use Rattle.std.proofs.Common.{◌≡◌, ◌≤◌, length, drop}
use Rattle.std.specs.List.{filter_map}
use Rattle.std.specs.Ordering.{nat_cmp}
use Rattle.lv_schema.specs.Once.{once}
use Rattle.lv_schema.specs.UpkeepCases.{view_number}
use Rattle.lv_store.proofs.planning.views_of.Given as goal

abbrev pub invariant-loop-at : goal.invariant-loop-at
invariant-loop-at l = record {
  views : l.views ≡ once nat_cmp (filter_map view_number (drop l.at l.query.rels));
  within : l.at ≤ length l.query.rels;
}

abbrev pub decreases-loop-at : goal.decreases-loop-at
decreases-loop-at l = l.at
