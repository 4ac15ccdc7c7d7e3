use Rattle.std.proofs.Common.{rules}
use Rattle.std.proofs.lemmas.Int.{wraps}
use Rattle.lv_viewrows.proofs.numbers.wrapped_sum.Goals as goal

pub returns : goal.returns
returns c = search (rules, wraps)
