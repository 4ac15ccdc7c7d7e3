use Rattle.std.proofs.Common.{refl}
use Rattle.lv_record.proofs.Kept.{record_fits, record_kept}
use Rattle.lv_record.proofs.laws.kept_records_are_spelled.Goals as goal

pub returns-clause-spelled : goal.returns-clause-spelled
returns-clause-spelled c = λ r k h few. (record_fits r k h few, refl)

pub returns-clause-kept : goal.returns-clause-kept
returns-clause-kept c = λ bytes r s. record_kept r s.0
