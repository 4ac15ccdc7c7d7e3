use Rattle.std.proofs.Common.{None}
use Rattle.lv_replay.specs.Numbers.{IsNumberedOrNone}
use Rattle.lv_replay.proofs.Tests.{all_alike}
use Rattle.lv_replay.proofs.Numbered.{table_numbered, view_numbered, began_numbered, rolled_back_numbered, changed_numbered, committed_numbered, alone_numbered}
use Rattle.lv_replay.proofs.laws.live_transactions_are_numbered.Goals as goal

pub returns-clause-nothing : goal.returns-clause-nothing
returns-clause-nothing c = all_alike IsNumberedOrNone None 17 tt

pub returns-clause-table : goal.returns-clause-table
returns-clause-table c = table_numbered

pub returns-clause-view : goal.returns-clause-view
returns-clause-view c = view_numbered

pub returns-clause-begin : goal.returns-clause-begin
returns-clause-begin c = began_numbered

pub returns-clause-rollback : goal.returns-clause-rollback
returns-clause-rollback c = rolled_back_numbered

pub returns-clause-change : goal.returns-clause-change
returns-clause-change c = changed_numbered

pub returns-clause-commit : goal.returns-clause-commit
returns-clause-commit c = committed_numbered

pub returns-clause-alone : goal.returns-clause-alone
returns-clause-alone c = alone_numbered
