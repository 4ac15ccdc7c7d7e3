use Rattle.lv_relevance.proofs.ToldParts.{parts_told}
use Rattle.lv_relevance.proofs.Untold.{no_difference}
use Rattle.lv_relevance.proofs.laws.changes_that_are_not_told_make_no_difference.Goals as goal

pub returns-clause-difference : goal.returns-clause-difference
returns-clause-difference c = no_difference

pub returns-clause-parts : goal.returns-clause-parts
returns-clause-parts c = parts_told
