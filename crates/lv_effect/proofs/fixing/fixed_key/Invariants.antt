use Rattle.std.proofs.Common.{◌≡◌, drop, take}
use Rattle.lv_effect.specs.FixedKeys.{FixesKey, says_key}
use Rattle.lv_effect.proofs.fixing.fixed_key.Given as goal

abbrev pub invariant-loop-at : goal.invariant-loop-at
invariant-loop-at l = record {
  fixes : FixesKey (take l.at-index l.positions) l.cond l.key;
  said : says_key l.cond l.positions ≡ says_key l.cond (drop l.at-index l.positions);
}
