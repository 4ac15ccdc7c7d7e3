use Rattle.std.proofs.Common.{◌≡◌, map, sym, ap, ◌∙◌, subst}
use Rattle.lv_shelf.specs.Cuts.{Falls, IsCut}
use Rattle.lv_shelf.specs.Shelves.{other_at}
use Rattle.lv_shelf.specs.Chains.{before, joined}
use Rattle.lv_versions.specs.Versions.{alone, seen_in}
use Rattle.lv_versions.proofs.ReadingChains.{alone_cut, joined_alone}
use Rattle.lv_versions.proofs.seen.Seen.cut_near.Goals as goal

pub cut_in_near-requires-clause-falls : goal.cut_in_near-requires-clause-falls
cut_in_near-requires-clause-falls g c =
    let s = c.self.inside in
    let list = other_at s.versions.now.others c.in-Some.order in
    let is : map alone list ≡ c.args.self.now = ap (λ o. seen_in o s.versions.now.others s.versions.now.chains) (sym c.in-Some.is) ∙ c.self.view_is in
    subst (Falls (g.P.Test.passed c.args.test.now)) (ap joined (sym is) ∙ joined_alone list) c.requires.falls

pub returns-in-Some-clause-cut : goal.returns-in-Some-clause-cut
returns-in-Some-clause-cut g c =
    let s = c.self.inside in
    let p = g.P.Test.passed c.args.test.now in
    let list = other_at s.versions.now.others c.in-Some.order in
    let is : map alone list ≡ c.args.self.now = ap (λ o. seen_in o s.versions.now.others s.versions.now.chains) (sym c.in-Some.is) ∙ c.self.view_is in
    subst (λ cs. IsCut p (before cs c.cut_in_near.result) (joined cs)) is (alone_cut p c.cut_in_near.result list c.cut_in_near.ensures.within c.cut_in_near.ensures.cut)
