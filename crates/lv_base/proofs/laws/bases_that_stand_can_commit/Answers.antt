use Rattle.lv_base.proofs.Told.{told_commit, told_state, told_tables}
use Rattle.lv_base.proofs.laws.bases_that_stand_can_commit.Goals as goal

pub returns : goal.returns
returns c = record {
  tables = told_tables;
  state = λ s pruned b sound is. told_state s pruned b is sound;
  commit = λ s pruned b actions sound is may. told_commit s pruned b is actions sound may;
}
