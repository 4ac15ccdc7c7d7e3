use Rattle.std.proofs.Common.{◌∙◌, arith}
use Rattle.lv_viewrows.proofs.FirstValue.{listed_of}
use Rattle.lv_viewrows.proofs.beginning.first_listed.Goals as goal

pub returns-in-len1-up : goal.returns-in-len1-up
returns-in-len1-up c = c.place_in.ensures ∙ listed_of c.args.groups.now c.args.items.now _ (omega (arith, c.in-len1-up.len_at_least))
