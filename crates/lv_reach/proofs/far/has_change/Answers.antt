use Rattle.std.proofs.Common.{refl}
use Rattle.lv_reach.proofs.FarLaws.{by_plus, by_minus}
use Rattle.lv_reach.proofs.far.has_change.Goals as goal

pub returns-then-is_empty : goal.returns-then-is_empty
returns-then-is_empty c = by_plus c.args.part.now _ (c.if-is_empty.ensures.0 refl) c.is_empty-then-is_empty.ensures

pub returns : goal.returns
returns c = (λ e. by_minus c.args.part.now c.if-is_empty.ensures.1, λ change. refl)
