use Rattle.lv_relevance.specs.Relevance.{used_columns}
use Rattle.lv_relevance.proofs.ToldParts.{changes_told}
use Rattle.lv_relevance.proofs.laws.old_rows_do_not_decide_what_is_told.Goals as goal

pub returns : goal.returns
returns c = λ view parts. changes_told (used_columns view) 0 parts
