use Rattle.lv_stands.proofs.Inputs.{inputs_are_told}
use Rattle.lv_stands.proofs.OneTable.{condensed_on}
use Rattle.lv_stands.proofs.laws.inputs_are_told_from_what_is_kept.Goals as goal

pub returns-clause-one_table : goal.returns-clause-one_table
returns-clause-one_table c = condensed_on

pub returns-clause-parts : goal.returns-clause-parts
returns-clause-parts c = inputs_are_told
