use Rattle.lv_record.proofs.records.AnyRecordForm.print.Goals as goal

pub returns-in-Commit-clause-appended : goal.returns-in-Commit-clause-appended
returns-in-Commit-clause-appended c = rw c.in-Commit.is c.print_commit.ensures.appended
