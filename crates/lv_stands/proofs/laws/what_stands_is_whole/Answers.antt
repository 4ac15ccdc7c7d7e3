use Rattle.lv_stands.proofs.TaskTurns.{pending_kept}
use Rattle.lv_stands.proofs.Whole.{last_is, lengths_are, points_are, snapshots_are}
use Rattle.lv_stands.proofs.laws.what_stands_is_whole.Goals as goal

pub returns-clause-last : goal.returns-clause-last
returns-clause-last c = last_is

pub returns-clause-lengths : goal.returns-clause-lengths
returns-clause-lengths c = lengths_are

pub returns-clause-snapshots : goal.returns-clause-snapshots
returns-clause-snapshots c = snapshots_are

pub returns-clause-points : goal.returns-clause-points
returns-clause-points c = λ w e v is lt. points_are w e is v lt

pub returns-clause-tasks : goal.returns-clause-tasks
returns-clause-tasks c = pending_kept
