use Rattle.std.proofs.Common.{ap}
use Rattle.lv_shelf.proofs.Chained.{chain_read}
use Rattle.lv_shelf.proofs.chains.Chains.newest_in.Goals as goal

pub returns : goal.returns
returns c =
    let s = c.self.inside in
    let r = chain_read s.links.items s.newest.list c.args.self.now.chains c.args.chain c.at.result c.self.invariant (ap (λ v. v.chains) c.self.view_is) c.requires c.at.ensures in
    r.newest
