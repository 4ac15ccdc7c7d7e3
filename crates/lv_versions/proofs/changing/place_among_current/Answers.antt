use Rattle.std.proofs.Common.{filter, sym, subst}
use Rattle.lv_schema.proofs.Apart.{apart_filter}
use Rattle.lv_shelf.specs.Cuts.{Falls}
use Rattle.lv_shelf.specs.Chains.{joined}
use Rattle.lv_versions.specs.Versions.{Precedes, is_open, upto}
use Rattle.lv_versions.proofs.Chaining.{upto_falls}
use Rattle.lv_versions.proofs.changing.place_among_current.Goals as goal

pub cut_in_near-requires-clause-falls : goal.cut_in_near-requires-clause-falls
cut_in_near-requires-clause-falls c =
    let ps = c.args.positions.now in
    let vs = joined c.args.versions.now.chains in
    subst (Falls (upto ps c.args.row.now)) (sym c.requires.current)
    (upto_falls ps c.args.row.now (filter is_open vs) (apart_filter (Precedes ps) is_open vs c.requires.stand))
