use Rattle.std.proofs.Common.{◌≡◌, drop}
use Rattle.std.specs.Prelude.{slice_get}
use Rattle.std.specs.List.{filter_map}
use Rattle.lv_schema.specs.Effects.{wide_number}
use Rattle.lv_effect.specs.Sums.{RowSumsFit}
use Rattle.lv_effect.proofs.effects.wide_in_row.Given as goal

abbrev pub invariant-loop-set : goal.invariant-loop-set
invariant-loop-set l =
    (slice_get (filter_map (λ s. wide_number l.old s.value) l.sets) 0 ≡ slice_get (filter_map (λ s. wide_number l.old s.value) (drop l.set-index l.sets)) 0)
    × RowSumsFit (drop l.set-index l.sets) l.old
