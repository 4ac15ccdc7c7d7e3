use Rattle.lv_reach.proofs.Within.{changes_both, changes_itself, changes_without}
use Rattle.lv_reach.proofs.laws.smaller_changes_add_up.Goals as goal

pub returns-clause-none : goal.returns-clause-none
returns-clause-none c = changes_itself

pub returns-clause-both : goal.returns-clause-both
returns-clause-both c = changes_both

pub returns-clause-without : goal.returns-clause-without
returns-clause-without c = changes_without
