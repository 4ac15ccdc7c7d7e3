use Rattle.std.proofs.Common.{◌≡◌, map, take}
use Rattle.lv_bind.specs.Binding.{bound_cond}
use Rattle.lv_bind.specs.Seen.{aliases}
use Rattle.lv_bind.proofs.binding.+bound_cond.Given as goal

abbrev pub invariant-bound_conds-loop-cond : goal.invariant-bound_conds-loop-cond
invariant-bound_conds-loop-cond l =
    l.out ≡ map (bound_cond (aliases l.scope)) (take l.cond-index l.conds)
