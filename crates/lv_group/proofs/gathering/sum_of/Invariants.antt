use Rattle.std.proofs.Common.{◌≡◌, take}
use Rattle.std.specs.Int.{int_wrap, w128}
use Rattle.lv_schema.specs.Groups.{total, number_at}
use Rattle.lv_group.proofs.gathering.sum_of.Given as goal

abbrev pub invariant-loop-entry : goal.invariant-loop-entry
invariant-loop-entry l = l.sum ≡ int_wrap w128 (total (λ entry. number_at l.col entry.1) (take l.entry-index l.entries))
