use Rattle.lv_plain.proofs.WrittenEntries.{given_record, records_of-append}
use Rattle.lv_plain.proofs.laws.records_are_those_of_the_entries.Goals as goal

pub returns-clause-parts : goal.returns-clause-parts
returns-clause-parts c = records_of-append

pub returns-clause-given : goal.returns-clause-given
returns-clause-given c = given_record
