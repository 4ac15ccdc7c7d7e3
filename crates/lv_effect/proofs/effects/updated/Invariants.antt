use Rattle.std.proofs.Common.{◌≡◌, drop}
use Rattle.lv_schema.specs.Effects.{with_sets}
use Rattle.lv_effect.specs.Sums.{RowSumsFit}
use Rattle.lv_effect.proofs.effects.updated.Given as goal

abbrev pub invariant-loop-set : goal.invariant-loop-set
invariant-loop-set l =
    (with_sets l.old l.sets l.initial.row ≡ with_sets l.old (drop l.set-index l.sets) l.row)
    × RowSumsFit (drop l.set-index l.sets) l.old
