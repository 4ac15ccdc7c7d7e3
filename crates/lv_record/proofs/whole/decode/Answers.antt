use Rattle.lv_record.specs.Kept.{IsKept}
use Rattle.lv_record.specs.Spelling.{Spells}
use Rattle.lv_record.proofs.Exact.{record_exact}
use Rattle.lv_record.proofs.Kept.{record_kept}
use Rattle.lv_record.proofs.Lists.{found_meets}
use Rattle.lv_record.proofs.whole.decode.Goals as goal

pub read_whole-requires-clause-exact : goal.read_whole-requires-clause-exact
read_whole-requires-clause-exact c = record_exact

pub returns-clause-kept : goal.returns-clause-kept
returns-clause-kept c = found_meets (Spells c.args.bytes.now) IsKept (λ r s. (record_kept r s.0).0) c.read_whole.result c.read_whole.ensures.found
