use Rattle.std.proofs.Common.{◌∙◌, sym, ap, Some}
use Rattle.lv_shelf.specs.declared.chains.Link.{Link}
use Rattle.lv_shelf.proofs.Chained.{chain_read, chain_oldest, link_read}
use Rattle.lv_shelf.proofs.chains.Chains.oldest_in.Goals as goal

pub returns : goal.returns
returns c =
    let s = c.self.inside in
    let r = chain_read s.links.items s.newest.list c.args.self.now.chains c.args.chain c.at-newest.result c.self.invariant (ap (λ v. v.chains) c.self.view_is) c.requires c.at-newest.ensures in
    chain_oldest s.links.items s.newest.list c.args.self.now.chains c.args.chain c.at-newest.result r ∙ ap (λ (l : Link). Some l.newer) (sym (link_read s.links.items c.at-newest.result c.index.result.now r.bound c.index.ensures))
