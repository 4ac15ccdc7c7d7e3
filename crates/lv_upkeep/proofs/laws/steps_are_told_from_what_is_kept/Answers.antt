use Rattle.lv_upkeep.proofs.Told.{forced_is_told, planned_is_told}
use Rattle.lv_upkeep.proofs.laws.steps_are_told_from_what_is_kept.Goals as goal

pub returns-clause-planned : goal.returns-clause-planned
returns-clause-planned c = λ w u settings v m is lt. planned_is_told w u settings m v is lt

pub returns-clause-forced : goal.returns-clause-forced
returns-clause-forced c = forced_is_told
