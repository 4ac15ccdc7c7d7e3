use Rattle.lv_core.proofs.Binds.{reads_blames_no_disk}
use Rattle.lv_core.proofs.laws.reading_blames_no_disk.Goals as goal

pub returns : goal.returns
returns c = reads_blames_no_disk
