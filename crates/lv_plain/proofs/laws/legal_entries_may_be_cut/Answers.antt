use Rattle.lv_plain.proofs.LegalLaws.{Legal-cut}
use Rattle.lv_plain.proofs.laws.legal_entries_may_be_cut.Goals as goal

pub returns : goal.returns
returns c = Legal-cut
