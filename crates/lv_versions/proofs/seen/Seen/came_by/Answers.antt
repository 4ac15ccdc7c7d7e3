use Rattle.std.proofs.Common.{◌≡◌, Some, None, false, true, map, sym, ap, ◌∙◌, subst, arith}
use Rattle.std.specs.Prelude.{nat_le}
use Rattle.std.proofs.lemmas.Bool.Decides.{nat_tests}
use Rattle.lv_shelf.specs.Shelves.{other_at}
use Rattle.lv_shelf.specs.Chains.{chain_at, newest_of, newest_that}
use Rattle.lv_versions.specs.Versions.{alone, came_by, seen_in}
use Rattle.lv_versions.proofs.ReadingChains.{alone_fails, newest_passes}
use Rattle.lv_versions.proofs.seen.Seen.came_by.Goals as goal

pub returns-then-newest-n : goal.returns-then-newest-n
returns-then-newest-n c =
    let le = c.if-newest-n.true in
    let came : nat_le c.args.newest.now.from c.args.n ≡ true = grind (arith, nat_tests) in
    sym (newest_passes (came_by c.args.n) (chain_at c.args.self.now c.args.chain) c.args.newest.now c.requires.newest came)

pub returns-in-Some : goal.returns-in-Some
returns-in-Some c =
    let s = c.self.inside in
    let list = other_at s.versions.now.others c.in-Some.field-0 in
    let is : map alone list ≡ c.args.self.now = ap (λ o. seen_in o s.versions.now.others s.versions.now.chains) (sym c.in-Some.is) ∙ c.self.view_is in
    let gt = c.if-newest-n.false in
    let late : nat_le c.args.newest.now.from c.args.n ≡ false = grind (arith, nat_tests) in
    let there = subst (λ cs. newest_of (chain_at cs c.args.chain) ≡ Some c.args.newest.now) (sym is) c.requires.newest in
    sym (subst (λ cs. newest_that (came_by c.args.n) (chain_at cs c.args.chain) ≡ None) is (alone_fails (came_by c.args.n) list c.args.chain c.args.newest.now there late))
