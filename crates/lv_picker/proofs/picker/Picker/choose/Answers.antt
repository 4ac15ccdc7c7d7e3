use Rattle.std.proofs.Common.{◌<◌, length, sym, subst}
use Rattle.lv_schema.proofs.Candidates.{chosen_below}
use Rattle.lv_picker.proofs.picker.Picker.choose.Goals as goal

pub returns-clause-place : goal.returns-clause-place
returns-clause-place g c = subst (λ n. n < length c.args.list.now) (sym c.answer.ensures) (chosen_below c.args.self.now.kind c.args.list.now c.requires.some)
