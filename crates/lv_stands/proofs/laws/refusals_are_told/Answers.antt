use Rattle.lv_stands.proofs.Refusals.{conflict_is, refusal_is}
use Rattle.lv_stands.proofs.laws.refusals_are_told.Goals as goal

pub returns-clause-conflict : goal.returns-clause-conflict
returns-clause-conflict c = conflict_is

pub returns-clause-refusal : goal.returns-clause-refusal
returns-clause-refusal c = refusal_is
