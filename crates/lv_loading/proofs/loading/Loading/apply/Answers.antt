use Rattle.std.proofs.Common.{sym, subst}
use Rattle.lv_loading.specs.Loads.{Loads}
use Rattle.lv_loading.proofs.Taken.{taken_done, taken_loaded}
use Rattle.lv_loading.proofs.loading.Loading.apply.Goals as goal

pub invariant_of-self : goal.invariant_of-self
invariant_of-self c = taken_loaded c.args.rec c.requires c.self.inside.parts c.take.new.self c.take.result c.take.ensures c.self.invariant

pub returns-clause-done : goal.returns-clause-done
returns-clause-done c = λ recs is. taken_done c.args.rec c.requires c.self.inside.parts c.take.new.self c.take.result c.take.ensures recs (subst (Loads recs) (sym c.self.view_is) is)
