use Rattle.lv_bind.proofs.BoundStatements.{spoken_fits}
use Rattle.lv_bind.proofs.laws.bound_statements_fit.Goals as goal

pub returns : goal.returns
returns c = spoken_fits
