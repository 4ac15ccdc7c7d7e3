use Rattle.std.proofs.Common.{sym, subst}
use Rattle.lv_delta.specs.Kept.{AreRising}
use Rattle.lv_delta.proofs.Searched.{rising_drop}
use Rattle.lv_delta.proofs.searching.above.Goals as goal

pub returns-clause-rising : goal.returns-clause-rising
returns-clause-rising c = subst AreRising (sym c.split_at.ensures.back) (rising_drop c.up_to.result c.args.entries.now c.requires)
