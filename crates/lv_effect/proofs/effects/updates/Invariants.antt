use Rattle.std.proofs.Common.{◌≡◌, ◌++◌}
use Rattle.lv_effect.specs.Sums.{SumsFit}
use Rattle.lv_effect.specs.TableActions.{update_actions}
use Rattle.lv_effect.proofs.effects.updates.Given as goal

abbrev pub invariant-loop-row : goal.invariant-loop-row
invariant-loop-row l =
    (l.actions ++ update_actions l.table l.sets l.cond l.row-iterator.rest.items ≡ update_actions l.table l.sets l.cond l.fn.rows)
    × SumsFit l.sets l.row-iterator.rest.items
