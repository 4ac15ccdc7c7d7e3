use Rattle.std.proofs.Common.{◌≡◌, length, take, drop, map, sym, ap, ◌∙◌}
use Rattle.lv_shelf.specs.Shelves.{other_at}
use Rattle.lv_shelf.specs.Chains.{all_newest}
use Rattle.lv_versions.specs.Versions.{alone, seen_in}
use Rattle.lv_versions.proofs.ReadingChains.{newest_alone}
use Rattle.lv_versions.proofs.seen.Seen.run.Goals as goal

pub returns-in-Some-clause-run : goal.returns-in-Some-clause-run
returns-in-Some-clause-run c =
    let s = c.self.inside in
    let list = other_at s.versions.now.others c.in-Some.order in
    let is : map alone list ≡ c.args.self.now = ap (λ o. seen_in o s.versions.now.others s.versions.now.chains) (sym c.in-Some.is) ∙ c.self.view_is in
    c.run_in.ensures.run ∙ ap (λ l. take (length c.run_in.result) (drop c.args.at l)) (sym (newest_alone list) ∙ ap all_newest is)
