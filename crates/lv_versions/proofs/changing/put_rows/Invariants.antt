use Rattle.std.proofs.Common.{◌≡◌, ◌+◌, ◌++◌, ◌≤◌, drop, false, length, map}
use Rattle.std.specs.Prelude.{IfSome, slice_get}
use Rattle.std.specs.List.{AllByRecursion}
use Rattle.lv_shelf.specs.Cuts.{Apart}
use Rattle.lv_shelf.specs.Shelves.{other_at}
use Rattle.lv_shelf.specs.Chains.{joined}
use Rattle.lv_versions.specs.Versions.{AreChains, current_of, HaveOrders, AreNew, EndsAtMost, Precedes, closed, ends_from, with_versions}
use Rattle.lv_versions.proofs.changing.put_rows.Given as goal

abbrev pub invariant-loop-row : goal.invariant-loop-row
invariant-loop-row l = record {
  stand : Apart (Precedes l.positions) (joined l.versions.chains);
  ends : AllByRecursion (λ v. EndsAtMost l.number v.until) (joined l.versions.chains);
  chained : AreChains l.positions l.versions.chains;
  orders : HaveOrders l.positions l.indexes l.versions.spare l.versions.others (joined l.versions.chains);
  current : other_at l.versions.others 1 ≡ current_of l.kept (joined l.versions.chains);
  new : AreNew l.positions l.number l.plus (map (closed l.positions l.number l.plus) (map (closed l.positions l.number l.minus) (joined l.versions.chains)));
  put : with_versions l.positions l.number l.plus (map (closed l.positions l.number l.plus) (map (closed l.positions l.number l.minus) (joined l.versions.chains)))
      ≡ with_versions l.initial.positions l.initial.number l.initial.plus (map (closed l.initial.positions l.initial.number l.initial.plus) (map (closed l.initial.positions l.initial.number l.initial.minus) (joined l.initial.versions.chains)));
  front : l.initial.plus ≡ l.plus ++ drop (length l.plus) l.initial.plus;
  left : IfSome (slice_get l.initial.plus (length l.plus)) (λ row. ends_from l.positions row l.minus ≡ false);
  room : length l.plus ≤ l.versions.spare;
  taken : l.versions.spare + length l.initial.plus ≡ l.initial.versions.spare + length l.plus;
}

abbrev pub decreases-loop-row : goal.decreases-loop-row
decreases-loop-row l = length l.plus
