use Rattle.std.proofs.Common.{}
use Rattle.lv_shelf.specs.Shelves.{other_at}
use Rattle.lv_shelf.proofs.Cutting.{cut_long}
use Rattle.lv_versions.specs.Versions.{upto}
use Rattle.lv_versions.proofs.changing.place_of_current.Goals as goal

pub returns-in-Some-clause-within : goal.returns-in-Some-clause-within
returns-in-Some-clause-within c = cut_long (upto c.args.positions.now c.args.row.now) c.in-Some.place (other_at c.args.versions.now.others 1) (rw c.in-Some.is at c.requires.told)
