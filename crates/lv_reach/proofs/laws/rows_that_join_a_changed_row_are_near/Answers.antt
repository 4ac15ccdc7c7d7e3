use Rattle.lv_reach.specs.Links.{links_of}
use Rattle.lv_reach.specs.Reach.{in_tuple}
use Rattle.lv_reach.proofs.LinkLaws.{links_agree}
use Rattle.lv_reach.proofs.NearLaws.{changed_near, near_along}
use Rattle.lv_reach.proofs.laws.rows_that_join_a_changed_row_are_near.Goals as goal

pub returns : goal.returns
returns c = λ cond parts tuple i j path within over kept changed leads.
    near_along (links_of cond) parts tuple within over (links_agree cond tuple kept) i path j (changed_near (links_of cond) parts (in_tuple tuple i) changed) leads
