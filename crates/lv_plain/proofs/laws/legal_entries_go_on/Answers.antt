use Rattle.lv_plain.proofs.LegalLaws.{Legal-snoc}
use Rattle.lv_plain.proofs.laws.legal_entries_go_on.Goals as goal

pub returns : goal.returns
returns c = Legal-snoc
