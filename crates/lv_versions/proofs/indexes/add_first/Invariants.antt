use Rattle.std.proofs.Common.{◌≡◌, ◌-◌, ℕ, List, length}
use Rattle.lv_shelf.specs.Shelves.{other_at}
use Rattle.lv_shelf.specs.Chains.{joined}
use Rattle.lv_versions.specs.Versions.{HaveOrders}
use Rattle.lv_versions.proofs.indexes.add_first.Given as goal

abbrev pub invariant-loop-alloc : goal.invariant-loop-alloc
invariant-loop-alloc l = record {
  same : l.versions.chains ≡ l.initial.versions.chains;
  room : l.versions.spare ≡ l.initial.versions.spare;
  current : other_at l.versions.others 1 ≡ other_at l.initial.versions.others 1;
  orders : (positions : List ℕ) (indexes : List (List ℕ)) → HaveOrders positions indexes l.initial.versions.spare l.initial.versions.others (joined l.initial.versions.chains) → HaveOrders positions indexes l.versions.spare l.versions.others (joined l.versions.chains);
}

abbrev pub decreases-loop-alloc : goal.decreases-loop-alloc
decreases-loop-alloc l = 2 - length l.versions.others
