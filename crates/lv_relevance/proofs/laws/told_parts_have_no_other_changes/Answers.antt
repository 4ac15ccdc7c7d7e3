use Rattle.lv_relevance.specs.Relevance.{used_columns}
use Rattle.lv_relevance.proofs.ToldParts.{of_parts}
use Rattle.lv_relevance.proofs.laws.told_parts_have_no_other_changes.Goals as goal

pub returns : goal.returns
returns c = λ view parts. of_parts (used_columns view) 0 parts
