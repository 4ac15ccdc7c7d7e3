use Rattle.std.proofs.Common.{◌≡◌, ◌++◌}
use Rattle.lv_effect.specs.TableActions.{delete_actions}
use Rattle.lv_effect.proofs.effects.deletes.Given as goal

abbrev pub invariant-loop-row : goal.invariant-loop-row
invariant-loop-row l = l.actions ++ delete_actions l.table l.cond l.row-iterator.rest.items ≡ delete_actions l.table l.cond l.fn.rows
