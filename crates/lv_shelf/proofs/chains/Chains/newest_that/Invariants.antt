use Rattle.std.proofs.Common.{◌≡◌, ◌<◌, length}
use Rattle.std.specs.List.{AllByRecursion}
use Rattle.lv_shelf.specs.Chains.{chain_at, linked, newest_that}
use Rattle.lv_shelf.specs.Shelves.{passes_in}
use Rattle.lv_shelf.proofs.chains.Chains.newest_that.Given as goal

abbrev pub invariant-loop-left : goal.invariant-loop-left
invariant-loop-left g l =
    let links = l.self-inside.links.items in
    let test = passes_in (g.P.Test.passed l.test) l.slots in
    record {
      same : newest_that test (chain_at l.self.chains l.chain) ≡ newest_that test (linked links l.slot l.left);
      within : AllByRecursion (λ q. q < length links) (linked links l.slot l.left);
    }

abbrev pub decreases-loop-left : goal.decreases-loop-left
decreases-loop-left g l = l.left
