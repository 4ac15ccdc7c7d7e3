use Rattle.std.proofs.Common.{◌∙◌, ap}
use Rattle.std.specs.List.{concat}
use Rattle.lv_places.proofs.Packed.{set_in}
use Rattle.lv_places.proofs.passing.set_number.Goals as goal

pub returns-clause-replaced : goal.returns-clause-replaced
returns-clause-replaced g c = ap concat c.set_in.ensures ∙ set_in g.row.SIZE c.args.len c.args.blocks.now.items c.args.at c.args.number c.requires.size c.requires.packed c.requires.place
