use Rattle.lv_joining.proofs.Joined.{keeps_itself, keeps_on}
use Rattle.lv_joining.proofs.laws.steps_that_keep_links_add_up.Goals as goal

pub returns-clause-none : goal.returns-clause-none
returns-clause-none c = keeps_itself

pub returns-clause-both : goal.returns-clause-both
returns-clause-both c = keeps_on
