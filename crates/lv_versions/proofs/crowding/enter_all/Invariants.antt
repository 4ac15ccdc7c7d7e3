use Rattle.std.proofs.Common.{◌≡◌, ℕ, filter, length, take}
use Rattle.lv_shelf.specs.Shelves.{other_at}
use Rattle.lv_shelf.specs.Chains.{joined}
use Rattle.lv_versions.specs.Versions.{is_open}
use Rattle.lv_versions.proofs.crowding.enter_all.Given as goal

abbrev pub invariant-loop-chain : goal.invariant-loop-chain
invariant-loop-chain l = record {
  same : l.versions.chains ≡ l.initial.versions.chains;
  room : l.versions.spare ≡ l.initial.versions.spare;
  count : length l.versions.others ≡ length l.initial.versions.others;
  others : (k : ℕ) → (k ≡ 1 → ⊥) → other_at l.versions.others k ≡ other_at l.initial.versions.others k;
  current : other_at l.versions.others 1 ≡ filter is_open (joined (take l.chain l.versions.chains));
}
