use Rattle.lv_plain.proofs.GivenEntries.{shown}
use Rattle.lv_plain.proofs.WrittenEntries.{failed_none}
use Rattle.lv_plain.proofs.laws.failed_entries_write_no_record.Goals as goal

pub returns-clause-failed : goal.returns-clause-failed
returns-clause-failed c = failed_none

pub returns-clause-unfailed : goal.returns-clause-unfailed
returns-clause-unfailed c = λ rules event s free. shown rules free event s
