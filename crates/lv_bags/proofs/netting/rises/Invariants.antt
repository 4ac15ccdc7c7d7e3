use Rattle.std.proofs.Common.{◌≤◌, drop, length}
use Rattle.std.specs.List.{AllByRecursion}
use Rattle.lv_schema.specs.declared.signed.SignedRow.{SignedRow}
use Rattle.lv_bags.specs.Tallies.{IsEntry, Rising}
use Rattle.lv_bags.proofs.netting.rises.Given as goal

abbrev pub invariant-loop-at : goal.invariant-loop-at
invariant-loop-at l = record {
  within : l.at ≤ length l.list;
  rising : Rising (drop l.at l.list);
  entries : AllByRecursion (λ (s : SignedRow). IsEntry (length s.sums) s) (drop l.at l.list);
}

abbrev pub decreases-loop-at : goal.decreases-loop-at
decreases-loop-at l = l.at
