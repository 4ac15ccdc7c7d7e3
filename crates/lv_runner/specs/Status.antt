-- The numbers of statuses.
use Rattle.std.specs.Prelude.{ℕ}
use Rattle.lv_runner.specs.declared.status.Status.{Status}
use Rattle.lv_runner.specs.declared.status.Status.TheVariants.{Done, Words, Script, SourceFault, SinkFault, BadJournal, OpenFault, NoMemory}

abbrev pub number_of : Status → ℕ
number_of Done = 0
number_of Words = 1
number_of (Script line kind) = 2
number_of SourceFault = 3
number_of SinkFault = 4
number_of (BadJournal offset) = 5
number_of OpenFault = 6
number_of NoMemory = 8
