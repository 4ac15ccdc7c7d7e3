use Rattle.std.proofs.Common.{length, sym, ap, ◌∙◌}
use Rattle.lv_record.proofs.Lengths.{record_long}
use Rattle.lv_record.proofs.Exact.{told_apart}
use Rattle.lv_record.proofs.laws.records_are_spelled_one_way.Goals as goal

pub returns-clause-one_spelling : goal.returns-clause-one_spelling
returns-clause-one_spelling c = λ bytes others r a b. a.1 ∙ sym b.1

pub returns-clause-one_record : goal.returns-clause-one_record
returns-clause-one_record c = λ bytes r s a b. told_apart r s a.0 b.0 (sym a.1 ∙ b.1)

pub returns-clause-long : goal.returns-clause-long
returns-clause-long c = λ bytes r s. ap length s.1 ∙ record_long r s.0
