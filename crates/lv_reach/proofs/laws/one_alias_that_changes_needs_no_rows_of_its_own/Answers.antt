use Rattle.lv_reach.proofs.OneAlias.{one_alias_gives}
use Rattle.lv_reach.proofs.laws.one_alias_that_changes_needs_no_rows_of_its_own.Goals as goal

pub returns : goal.returns
returns c = one_alias_gives
