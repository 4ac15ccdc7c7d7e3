use Rattle.std.proofs.Common.{◌≡◌, drop, nat_eq}
use Rattle.lv_schema.specs.Once.{are_apart}
use Rattle.lv_loading.proofs.names.numbers_are_apart.Given as goal

abbrev pub invariant-loop-at : goal.invariant-loop-at
invariant-loop-at l = are_apart nat_eq (drop l.at l.numbers) ≡ are_apart nat_eq l.numbers
