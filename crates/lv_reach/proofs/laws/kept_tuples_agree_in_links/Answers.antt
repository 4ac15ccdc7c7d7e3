use Rattle.lv_reach.proofs.LinkLaws.{links_agree}
use Rattle.lv_reach.proofs.laws.kept_tuples_agree_in_links.Goals as goal

pub returns : goal.returns
returns c = links_agree
