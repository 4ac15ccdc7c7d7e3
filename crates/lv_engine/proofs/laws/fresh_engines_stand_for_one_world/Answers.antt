use Rattle.lv_engine.proofs.OneWorld.{nobody_is_live, one_world}
use Rattle.lv_engine.proofs.laws.fresh_engines_stand_for_one_world.Goals as goal

pub returns-clause-world : goal.returns-clause-world
returns-clause-world c = one_world

pub returns-clause-nobody : goal.returns-clause-nobody
returns-clause-nobody c = nobody_is_live
