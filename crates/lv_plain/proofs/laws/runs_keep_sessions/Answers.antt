use Rattle.lv_plain.proofs.SessionsKept.{runs_count, runs_change_little, setups_come_first}
use Rattle.lv_plain.proofs.laws.runs_keep_sessions.Goals as goal

pub returns-clause-places : goal.returns-clause-places
returns-clause-places c = runs_count

pub returns-clause-changes : goal.returns-clause-changes
returns-clause-changes c = runs_change_little

pub returns-clause-setup : goal.returns-clause-setup
returns-clause-setup c = setups_come_first
