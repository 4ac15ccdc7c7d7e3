use Rattle.lv_relevance.proofs.Updates.{update_untold}
use Rattle.lv_relevance.proofs.laws.updates_of_other_columns_are_not_told.Goals as goal

pub returns : goal.returns
returns c = λ key cols alias rows update up keeps same. update_untold update key rows up keeps cols alias same
