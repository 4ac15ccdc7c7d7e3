use Rattle.std.proofs.Common.{◌≡◌, drop}
use Rattle.lv_schema.specs.Effects.{first_wide, matching}
use Rattle.lv_effect.specs.Sums.{SumsFit}
use Rattle.lv_effect.proofs.effects.first_wide.Given as goal

abbrev pub invariant-loop-row : goal.invariant-loop-row
invariant-loop-row l =
    (first_wide l.sets (matching l.cond l.rows) ≡ first_wide l.sets (matching l.cond (drop l.row-index l.rows)))
    × SumsFit l.sets (drop l.row-index l.rows)
