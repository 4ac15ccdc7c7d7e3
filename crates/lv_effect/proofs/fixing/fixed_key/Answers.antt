use Rattle.std.proofs.Common.{ℕ, List, subst, arith}
use Rattle.std.proofs.lemmas.List.{take_all}
use Rattle.lv_effect.specs.FixedKeys.{FixesKey}
use Rattle.lv_effect.proofs.fixing.fixed_key.Goals as goal

pub returns-clause-fixes : goal.returns-clause-fixes
returns-clause-fixes c =
    subst (λ (positions : List ℕ). FixesKey positions c.args.cond.now c.loop-at.key) (take_all c.loop-at.at-index c.args.positions.now (omega arith)) c.loop-at.invariant.fixes
