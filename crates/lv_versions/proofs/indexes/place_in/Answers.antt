use Rattle.lv_shelf.specs.Shelves.{other_at}
use Rattle.lv_versions.proofs.Indexing.{cut_falls, index_total}
use Rattle.lv_versions.proofs.indexes.place_in.Goals as goal

pub cut_in_near-requires-clause-falls : goal.cut_in_near-requires-clause-falls
cut_in_near-requires-clause-falls c = cut_falls (index_total c.args.columns.now c.args.positions.now) c.args.version.now (other_at c.args.versions.now.others c.args.order) c.requires.ascends
