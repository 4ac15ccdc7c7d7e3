use Rattle.std.proofs.Common.{ℕ, ℤ, ◌<◌, get_or, FitsSigned}
use Rattle.std.specs.Int.{w128}
use Rattle.lv_bags.proofs.adding.are_numbers.Given as goal

abbrev pub invariant-loop-n : goal.invariant-loop-n
invariant-loop-n l = (k : ℕ) (d : ℤ) → k < l.n-index → FitsSigned w128 (get_or l.numbers k d)
