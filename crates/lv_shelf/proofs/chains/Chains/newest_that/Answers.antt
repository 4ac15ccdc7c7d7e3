use Rattle.std.proofs.Common.{◌-◌, ◌<◌, ◌∙◌, sym, ap, subst, length, arith}
use Rattle.std.specs.List.{AllByRecursion}
use Rattle.lv_shelf.specs.declared.chains.Link.{Link}
use Rattle.lv_shelf.specs.Chains.{linked, newest_that}
use Rattle.lv_shelf.specs.Shelves.{passes_in}
use Rattle.lv_shelf.proofs.Chained.{chain_read, fails_here, last_holds, link_read, none_left, passes_here, within_rest}
use Rattle.lv_shelf.proofs.chains.Chains.newest_that.Goals as goal

pub loop-left-init : goal.loop-left-init
loop-left-init g c =
    let s = c.self.inside in
    let links = s.links.items in
    let p = c.at-slot.result in
    let t = passes_in (g.P.Test.passed c.args.test.now) c.args.slots.now in
    let r = chain_read links s.newest.list c.args.self.now.chains c.args.chain p c.self.invariant (ap (λ v. v.chains) c.self.view_is) c.requires c.at-slot.ensures in
    let high = ap (λ (l : Link). l.height) (link_read links p c.index.result.now r.bound c.index.ensures) in
    record {
      same = ap (newest_that t) (r.seen ∙ ap (linked links p) (sym high));
      within = subst (λ n. AllByRecursion (λ q. q < length links) (linked links p n)) (sym high) r.all;
    }

pub returns-then-passes_in : goal.returns-then-passes_in
returns-then-passes_in g c =
    let links = c.self.inside.links.items in
    let t = passes_in (g.P.Test.passed c.args.test.now) c.args.slots.now in
    let i = c.loop-left.invariant in
    sym (i.same ∙ passes_here links t c.loop-left.slot c.loop-left.left c.loop-left-test.true (sym c.passes_in.ensures ∙ c.if-passes_in.true))

pub index-requires-in-loop-left : goal.index-requires-in-loop-left
index-requires-in-loop-left g c =
    let links = c.self.inside.links.items in
    let bound = last_holds (λ q. q < length links) links c.loop-left.slot c.loop-left.left c.loop-left-test.true c.loop-left.invariant.within in
    omega (arith, bound, c.self.inside.links.ok.0)

pub loop-left-preserved : goal.loop-left-preserved
loop-left-preserved g c =
    let links = c.self.inside.links.items in
    let t = passes_in (g.P.Test.passed c.args.test.now) c.args.slots.now in
    let i = c.loop-left.invariant in
    let slot = c.loop-left.slot in
    let left = c.loop-left.left in
    let bound = last_holds (λ q. q < length links) links slot left c.loop-left-test.true i.within in
    let older = ap (λ (l : Link). l.older) (sym (link_read links slot c.index-in-loop-left.result.now bound c.index-in-loop-left.ensures)) in
    record {
      same = i.same ∙ fails_here links t slot left c.loop-left-test.true (sym c.passes_in.ensures ∙ c.if-passes_in.false) ∙ ap (λ o. newest_that t (linked links o (left - 1))) older;
      within = subst (λ o. AllByRecursion (λ q. q < length links) (linked links o (left - 1))) older (within_rest (λ q. q < length links) links slot left c.loop-left-test.true i.within);
    }

pub returns : goal.returns
returns g c =
    let links = c.self.inside.links.items in
    let t = passes_in (g.P.Test.passed c.args.test.now) c.args.slots.now in
    let i = c.loop-left.invariant in
    sym (i.same ∙ none_left links t c.loop-left.slot c.loop-left.left c.loop-left-test.false)
