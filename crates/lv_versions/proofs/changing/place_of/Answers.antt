use Rattle.lv_versions.proofs.Chaining.{upto_agrees, upto_falls}
use Rattle.lv_shelf.specs.Chains.{joined}
use Rattle.lv_versions.proofs.changing.place_of.Goals as goal

pub cut_near-requires : goal.cut_near-requires
cut_near-requires c = record {
  falls = upto_falls c.args.positions.now c.args.row.now (joined c.args.versions.now.chains) c.requires.stand;
  agrees = upto_agrees c.args.positions.now c.args.row.now c.args.versions.now.chains c.requires.chained;
}
