use Rattle.lv_stands.proofs.Upkeeps.{forced_are, inside_is, planned_is, tasks_are}
use Rattle.lv_stands.proofs.laws.upkeep_is_told_from_what_is_kept.Goals as goal

pub returns-clause-inside : goal.returns-clause-inside
returns-clause-inside c = inside_is

pub returns-clause-planned : goal.returns-clause-planned
returns-clause-planned c = λ w e settings v m is lt. planned_is w e is settings v m lt

pub returns-clause-forced : goal.returns-clause-forced
returns-clause-forced c = λ w e settings views m is each. forced_are w e is settings views m each

pub returns-clause-tasks : goal.returns-clause-tasks
returns-clause-tasks c = tasks_are
