use Rattle.std.proofs.Common.{◌≡◌, ℕ, ◌+◌, ◌<◌, ◌≤◌, length}
use Rattle.lv_shelf.specs.Shelves.{other_at}
use Rattle.lv_shelf.specs.Chains.{joined}
use Rattle.lv_versions.specs.Versions.{AreIndexed, columns_at}
use Rattle.lv_versions.proofs.indexes.enter_each.Given as goal

abbrev pub invariant-loop-j : goal.invariant-loop-j
invariant-loop-j l = record {
  same : l.versions.chains ≡ l.initial.versions.chains;
  room : l.versions.spare ≡ l.initial.versions.spare;
  count : length l.versions.others ≡ length l.initial.versions.others;
  ended : other_at l.versions.others 0 ≡ other_at l.initial.versions.others 0;
  current : other_at l.versions.others 1 ≡ other_at l.initial.versions.others 1;
  done : (k : ℕ) → k < l.j → AreIndexed (columns_at l.indexes k) l.positions (other_at l.versions.others (k + 2)) (joined l.versions.chains);
  rest : (k : ℕ) → l.j ≤ k → other_at l.versions.others (k + 2) ≡ other_at l.initial.versions.others (k + 2);
}
