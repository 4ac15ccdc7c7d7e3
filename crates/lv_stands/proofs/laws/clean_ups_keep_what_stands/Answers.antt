use Rattle.std.proofs.Common.{arith}
use Rattle.lv_schema.proofs.SteadyWorlds.{floor_last}
use Rattle.lv_stands.proofs.Cleans.{floor_is, cleaned_stands, counts_are}
use Rattle.lv_stands.proofs.laws.clean_ups_keep_what_stands.Goals as goal

pub returns-clause-floor : goal.returns-clause-floor
returns-clause-floor c = floor_is

pub returns-clause-stands : goal.returns-clause-stands
returns-clause-stands c = cleaned_stands

pub returns-clause-counts : goal.returns-clause-counts
returns-clause-counts c = λ w e is. counts_are w.visible w.upkeep.pruned e.base is.steady.sound (omega (arith, is.steady.pruned, floor_last w)) is.base_stands
