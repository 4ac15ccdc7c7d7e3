use Rattle.lv_reach.proofs.NearLaws.{agreeing_near, near_least}
use Rattle.lv_reach.proofs.laws.near_rows_are_the_least.Goals as goal

pub returns-clause-agreeing : goal.returns-clause-agreeing
returns-clause-agreeing c = agreeing_near

pub returns-clause-least : goal.returns-clause-least
returns-clause-least c = near_least
