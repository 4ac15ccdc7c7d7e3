use Rattle.lv_make.proofs.ShownFaults.{fault_numbers_are_shown}
use Rattle.lv_make.proofs.laws.fault_numbers_are_shown.Goals as goal

pub returns : goal.returns
returns c = fault_numbers_are_shown
