use Rattle.lv_reach.proofs.LinksWithin.{links_within}
use Rattle.lv_reach.proofs.laws.links_are_between_aliases.Goals as goal

pub returns : goal.returns
returns c = links_within
