use Rattle.std.proofs.Common.{rules}
use Rattle.std.proofs.lemmas.Int.{wraps}
use Rattle.lv_make.proofs.summary_text.wrapped_sum.Goals as goal

pub returns : goal.returns
returns c = search (rules, wraps)
