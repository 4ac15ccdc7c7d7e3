use Rattle.std.proofs.Common.{◌≡◌, map, sym, ap, ◌∙◌, subst}
use Rattle.std.specs.List.{AllByRecursion}
use Rattle.lv_shelf.specs.Shelves.{other_at}
use Rattle.lv_shelf.specs.Chains.{HasSome}
use Rattle.lv_versions.specs.Versions.{alone, seen_in}
use Rattle.lv_versions.proofs.ReadingChains.{some_alone}
use Rattle.lv_versions.proofs.seen.Seen.len.Goals as goal

pub returns-in-Some-clause-some : goal.returns-in-Some-clause-some
returns-in-Some-clause-some c =
    let s = c.self.inside in
    let list = other_at s.versions.now.others c.in-Some.order in
    let is : map alone list ≡ c.args.self.now = ap (λ o. seen_in o s.versions.now.others s.versions.now.chains) (sym c.in-Some.is) ∙ c.self.view_is in
    subst (AllByRecursion HasSome) is (some_alone list)
