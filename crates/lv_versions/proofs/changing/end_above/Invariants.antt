use Rattle.std.proofs.Common.{◌≡◌, ◌∷◌, [], length, map}
use Rattle.std.specs.List.{AllByRecursion}
use Rattle.lv_shelf.specs.Cuts.{Apart}
use Rattle.lv_shelf.specs.Shelves.{other_at}
use Rattle.lv_shelf.specs.Chains.{joined}
use Rattle.lv_versions.specs.Versions.{AreChains, current_of, HaveOrders, EndsAtMost, Precedes, closed}
use Rattle.lv_versions.proofs.changing.end_above.Given as goal

abbrev pub invariant-loop-lost : goal.invariant-loop-lost
invariant-loop-lost l = record {
  stand : Apart (Precedes l.positions) (joined l.versions.chains);
  chained : AreChains l.positions l.versions.chains;
  ends : AllByRecursion (λ v. EndsAtMost l.number v.until) (joined l.versions.chains);
  orders : HaveOrders l.positions l.indexes l.versions.spare l.versions.others (joined l.versions.chains);
  current : other_at l.versions.others 1 ≡ current_of l.kept (joined l.versions.chains);
  same : map (closed l.positions l.number l.minus) (map (closed l.positions l.number (l.row ∷ [])) (joined l.versions.chains))
      ≡ map (closed l.initial.positions l.initial.number l.initial.minus) (map (closed l.initial.positions l.initial.number (l.initial.row ∷ [])) (joined l.initial.versions.chains));
  room : l.versions.spare ≡ l.initial.versions.spare;
}

abbrev pub decreases-loop-lost : goal.decreases-loop-lost
decreases-loop-lost l = length l.minus
