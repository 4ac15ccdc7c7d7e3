use Rattle.std.proofs.Common.{◌∙◌}
use Rattle.lv_bags.proofs.Negations.{turned_are}
use Rattle.lv_bags.proofs.negating.negate.Goals as goal

pub returns : goal.returns
returns c = c.edit_each.ensures ∙ turned_are c.args.signed c.requires
