use Rattle.std.proofs.Common.{◌≡◌, ◌<◌, ◌≤◌, ℕ, length}
use Rattle.lv_store.specs.Maintaining.{RowsPruned}
use Rattle.lv_store.specs.Kept.{rows_in}
use Rattle.lv_store.proofs.cleaning.prune_views.Given as goal

abbrev pub invariant-loop-at : goal.invariant-loop-at
invariant-loop-at l = record {
  long : length l.views ≡ length l.fn.views;
  pruned : (v : ℕ) → v < l.at → RowsPruned l.number (rows_in l.fn.views v) (rows_in l.views v);
  rest : (v : ℕ) → l.at ≤ v → rows_in l.views v ≡ rows_in l.fn.views v;
}
