use Rattle.lv_crash.proofs.Staying.{kept_written}
use Rattle.lv_crash.proofs.laws.attempts_show_what_is_kept.Goals as goal

pub returns : goal.returns
returns c = kept_written
