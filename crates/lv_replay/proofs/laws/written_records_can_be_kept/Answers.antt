use Rattle.lv_replay.proofs.Written.{table_kept, view_kept, commit_kept, mark_kept}
use Rattle.lv_replay.proofs.laws.written_records_can_be_kept.Goals as goal

pub returns-clause-table : goal.returns-clause-table
returns-clause-table c = table_kept

pub returns-clause-view : goal.returns-clause-view
returns-clause-view c = view_kept

pub returns-clause-commit : goal.returns-clause-commit
returns-clause-commit c = commit_kept

pub returns-clause-mark : goal.returns-clause-mark
returns-clause-mark c = λ v w sound lt. mark_kept v w.visible sound lt
