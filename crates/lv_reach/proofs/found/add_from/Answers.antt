use Rattle.std.proofs.lemmas.Result.{on_ok_weaker}
use Rattle.std.proofs.Common.{◌∙◌}
use Rattle.lv_reach.proofs.FoundLaws.{from_here, from_later}
use Rattle.lv_reach.proofs.found.add_from.Goals as goal

pub returns-then-from-at : goal.returns-then-from-at
returns-then-from-at c = on_ok_weaker c.add_found.result (λ e. e ∙ from_here c.args.from c.args.at c.args.parts.now c.args.found c.if-from-at.true) c.add_found.ensures

pub returns : goal.returns
returns c = from_later c.args.from c.args.at c.args.parts.now c.args.found c.if-from-at.false
