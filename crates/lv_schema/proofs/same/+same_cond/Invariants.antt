use Rattle.std.proofs.Common.{◌≡◌, ℕ, ◌<◌}
use Rattle.std.specs.Prelude.{slice_get}
use Rattle.lv_schema.proofs.same.+same_cond.Given as goal

abbrev pub invariant-same_conds-loop-i : goal.invariant-same_conds-loop-i
invariant-same_conds-loop-i l = (k : ℕ) → k < l.i → slice_get l.a k ≡ slice_get l.b k
