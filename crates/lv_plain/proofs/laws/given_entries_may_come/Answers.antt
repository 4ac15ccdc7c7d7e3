use Rattle.lv_plain.proofs.GivenEntries.{given_comes}
use Rattle.lv_plain.proofs.laws.given_entries_may_come.Goals as goal

pub returns : goal.returns
returns c = λ rules fails event s free may. given_comes rules free fails event s may
