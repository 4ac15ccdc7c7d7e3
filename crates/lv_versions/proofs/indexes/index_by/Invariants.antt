use Rattle.std.proofs.Common.{◌≡◌, List, ℕ, take}
use Rattle.std.specs.List.{AllByRecursion}
use Rattle.lv_versions.proofs.indexes.index_by.Given as goal

abbrev pub invariant-loop-j : goal.invariant-loop-j
invariant-loop-j l = AllByRecursion (λ (c : List ℕ). c ≡ l.columns → ⊥) (take l.j l.indexes)
