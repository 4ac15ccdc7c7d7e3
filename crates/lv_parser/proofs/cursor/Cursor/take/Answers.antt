use Rattle.lv_parser.proofs.Cursors.{taken_rest, taken_small}
use Rattle.lv_parser.proofs.cursor.Cursor.take.Goals as goal

pub invariant_of-self : goal.invariant_of-self
invariant_of-self c = taken_rest c.pop.result c.self.inside.rest c.pop.new.self c.self.invariant c.pop.ensures

pub returns-clause-small : goal.returns-clause-small
returns-clause-small c = taken_small c.pop.result c.self.inside.rest c.pop.new.self c.self.invariant c.pop.ensures
