use Rattle.lv_replay.proofs.JournalLengths.{state_long}
use Rattle.lv_replay.proofs.laws.journal_is_as_long_as_its_records.Goals as goal

pub returns : goal.returns
returns c = state_long
