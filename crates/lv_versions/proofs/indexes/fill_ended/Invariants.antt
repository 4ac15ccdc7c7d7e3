use Rattle.std.proofs.Common.{◌≡◌, ℕ, take, length}
use Rattle.lv_shelf.specs.Shelves.{other_at}
use Rattle.lv_versions.specs.Versions.{AreIndexed}
use Rattle.lv_versions.proofs.indexes.fill_ended.Given as goal

abbrev pub invariant-loop-at : goal.invariant-loop-at
invariant-loop-at l = record {
  same : l.versions.chains ≡ l.initial.versions.chains;
  room : l.versions.spare ≡ l.initial.versions.spare;
  count : length l.versions.others ≡ length l.initial.versions.others;
  others : (k : ℕ) → (k ≡ l.order → ⊥) → other_at l.versions.others k ≡ other_at l.initial.versions.others k;
  filled : AreIndexed l.columns l.positions (other_at l.versions.others l.order) (take l.at (other_at l.initial.versions.others 0));
}
