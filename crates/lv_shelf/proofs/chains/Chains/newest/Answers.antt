use Rattle.std.proofs.Common.{◌∙◌, sym, ap}
use Rattle.lv_shelf.specs.Chains.{all_newest}
use Rattle.lv_shelf.proofs.Chained.{newest_are}
use Rattle.lv_shelf.proofs.chains.Chains.newest.Goals as goal

pub returns-clause-newest : goal.returns-clause-newest
returns-clause-newest c =
    let s = c.self.inside in
    sym (newest_are s.links.items s.newest.list c.self.invariant.each) ∙ ap (λ v. all_newest v.chains) c.self.view_is
