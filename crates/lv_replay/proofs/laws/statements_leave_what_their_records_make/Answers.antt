use Rattle.std.proofs.Common.{refl}
use Rattle.lv_replay.proofs.Recorded.{table_keeps, view_keeps, changed_keeps, commit_keeps, alone_keeps}
use Rattle.lv_replay.proofs.laws.statements_leave_what_their_records_make.Goals as goal

pub returns-clause-table : goal.returns-clause-table
returns-clause-table c = λ outcome def w bound. table_keeps outcome def w bound

pub returns-clause-view : goal.returns-clause-view
returns-clause-view c = λ outcome def w bound. view_keeps outcome def w bound

pub returns-clause-begin : goal.returns-clause-begin
returns-clause-begin c = λ session w. refl

pub returns-clause-rollback : goal.returns-clause-rollback
returns-clause-rollback c = λ session w. refl

pub returns-clause-change : goal.returns-clause-change
returns-clause-change c = λ session change w. changed_keeps session change w

pub returns-clause-commit : goal.returns-clause-commit
returns-clause-commit c = λ outcome session w steady are. commit_keeps outcome session w steady.sound are

pub returns-clause-alone : goal.returns-clause-alone
returns-clause-alone c = λ outcome session change w steady are bound. alone_keeps outcome session change w steady.sound are bound

pub returns-clause-refusal : goal.returns-clause-refusal
returns-clause-refusal c = λ fault w. refl
