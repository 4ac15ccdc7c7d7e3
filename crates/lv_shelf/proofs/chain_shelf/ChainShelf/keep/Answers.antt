use Rattle.std.proofs.Common.{◌≡◌, ◌++◌, ◌∙◌, true, sym, ap, subst, length, map, take, drop, filter, arith}
use Rattle.std.specs.List.{AllByRecursion}
use Rattle.std.proofs.lemmas.List.{length-map}
use Rattle.lv_shelf.specs.Chains.{joined, kept_in}
use Rattle.lv_shelf.specs.Shelves.{IsOrder, items_at, lists_of, passes_in}
use Rattle.lv_shelf.proofs.ChainShelves.{all_passing, joined_kept, kept_start, orders_passing, others_passing}
use Rattle.lv_shelf.proofs.chain_shelf.ChainShelf.keep.Goals as goal

pub invariant_of-self : goal.invariant_of-self
invariant_of-self g c =
    let s = c.self.inside in
    let slots = s.slots.items in
    let test = g.P.Test.passed c.args.test.now in
    let ls = lists_of s.others.items in
    let lists : lists_of c.keep_each.new.orders.items ≡ map (filter (passes_in test slots)) ls = c.keep_each.ensures.kept ∙ ap (λ l. map (filter (passes_in test l)) ls) c.as_slice.ensures.value in
    record {
      own = c.self.invariant.own;
      lists = subst (AllByRecursion (IsOrder slots)) (sym lists) (orders_passing slots (passes_in test slots) ls c.self.invariant.lists);
      rooms = c.keep_each.ensures.room (length slots) c.self.invariant.rooms;
      links = c.self.invariant.links;
      some = c.self.invariant.some;
      counted = c.self.invariant.counted;
      most = c.self.invariant.most;
    }

pub loop-chain-init : goal.loop-chain-init
loop-chain-init g c =
    let s = c.self.inside in
    let slots = s.slots.items in
    let test = g.P.Test.passed c.args.test.now in
    let ls = lists_of s.others.items in
    let lists : lists_of c.keep_each.new.orders.items ≡ map (filter (passes_in test slots)) ls = c.keep_each.ensures.kept ∙ ap (λ l. map (filter (passes_in test l)) ls) c.as_slice.ensures.value in
    let view = c.args.self.now.chains in
    let all : c.len-chain.result ≡ length view = omega (arith, c.len-chain.ensures, length-map s.chains.chains (items_at slots), ap (λ r. length r.chains) c.self.view_is) in
    record {
      within = omega (arith, all);
      chains = ap (λ r. r.chains) c.self.view_is ∙ kept_start test view c.len-chain.result all;
      others = ap (map (items_at slots)) lists ∙ others_passing test slots ls ∙ ap (λ r. map (filter test) r.others) c.self.view_is;
      room = omega (arith, ap (λ r. r.spare) c.self.view_is);
    }

pub drop_failing-requires-clause-others : goal.drop_failing-requires-clause-others
drop_failing-requires-clause-others g c =
    let test = g.P.Test.passed c.args.test.now in
    subst (AllByRecursion (λ l. AllByRecursion (λ x. test x ≡ true) l)) (sym c.loop-chain.invariant.others) (all_passing test c.args.self.now.others)

pub returns-clause-joined : goal.returns-clause-joined
returns-clause-joined g c =
    let test = g.P.Test.passed c.args.test.now in
    let view = c.args.self.now.chains in
    let none : c.loop-chain.chain ≡ 0 = omega (arith, c.loop-chain-test.false) in
    ap joined (c.loop-chain.invariant.chains ∙ ap (λ n. take n view ++ kept_in test (drop n view)) none) ∙ joined_kept test view
