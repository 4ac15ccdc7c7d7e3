use Rattle.std.proofs.Common.{◌≡◌, ◌<◌, ◌+◌, ◌-◌, ◌++◌, not, suc, refl, ◌∙◌, sym, ap, subst, length, take, drop, filter, arith}
use Rattle.std.specs.Prelude.{slice_get}
use Rattle.std.specs.List.{AllByRecursion}
use Rattle.lv_shelf.specs.Chains.{HasSome, chain_at, with_chain}
use Rattle.lv_shelf.specs.Cuts.{Falls}
use Rattle.lv_shelf.specs.Shelves.{IsHeld, LacksItem}
use Rattle.lv_shelf.proofs.ChainShelves.{chain_all, chain_items, chain_some, falls_behind, first_is, keep_from, kept_end, lacks_failing, same_some, skip_first, some_items, whole_is}
use Rattle.lv_shelf.proofs.Shelved.{length_items}
use Rattle.lv_shelf.proofs.chain_shelf.ChainShelf.drop_failing.Goals as goal

pub loop-left-init : goal.loop-left-init
loop-left-init g c =
    let p = g.P.Test.passed c.args.test.now in
    let s = c.self.inside in
    let slots = s.slots.items in
    let old = s.chains.chains in
    let cs = c.args.self.now.chains in
    let i = c.args.chain in
    let chain = chain_at cs i in
    let long : length chain ≡ length (chain_at old i) =
    ap (λ r. length (chain_at r.chains i)) (sym c.self.view_is) ∙ ap length (chain_items slots old i) ∙ length_items slots (chain_at old i) (chain_all (IsHeld slots) old i c.self.invariant.own.held)
    in
    let none : length chain - c.height-left.result ≡ 0 = omega (arith, long, c.height-left.ensures) in
    let some = subst (AllByRecursion HasSome) (ap (λ r. r.chains) c.self.view_is) (some_items slots old c.self.invariant.own.held c.self.invariant.some) in
    record {
      chains = whole_is cs i c.requires.chain (chain_some cs i some c.requires.chain) ∙ ap (λ n. take i cs ++ with_chain (drop n chain) (drop (i + 1) cs)) (sym none);
      same = ap (λ n. filter p (drop n chain)) none;
      within = omega (arith, long, c.height-left.ensures);
      others = refl;
      room = omega arith;
    }

pub oldest-requires : goal.oldest-requires
oldest-requires g c =
    let p = g.P.Test.passed c.args.test.now in
    let cs = c.args.self.now.chains in
    let i = c.args.chain in
    let chain = chain_at cs i in
    let inv = c.loop-left.invariant in
    let now = c.loop-left.self.chains in
    let k = length chain - c.loop-left.left in
    let some : k < length chain = omega (arith, inv.within, c.loop-left-test.true) in
    let first = first_is cs i k now c.requires.chain some inv.chains in
    first.within

pub returns-then-passes-clause-rest : goal.returns-then-passes-clause-rest
returns-then-passes-clause-rest g c =
    let p = g.P.Test.passed c.args.test.now in
    let cs = c.args.self.now.chains in
    let i = c.args.chain in
    let chain = chain_at cs i in
    let inv = c.loop-left.invariant in
    let now = c.loop-left.self.chains in
    let k = length chain - c.loop-left.left in
    let some : k < length chain = omega (arith, inv.within, c.loop-left-test.true) in
    let first = first_is cs i k now c.requires.chain some inv.chains in
    let is : c.oldest.result.now ≡ first.item = same_some (slice_get (chain_at now i) 0) c.oldest.result.now first.item c.oldest.ensures first.oldest in
    let more = drop (suc k) chain in
    let passes = ap p (sym is) ∙ sym c.passes.ensures ∙ c.if-passes.true in
    let falls = subst (Falls (λ y. not (p y))) first.rest (falls_behind (λ y. not (p y)) k chain c.requires.falls) in
    kept_end p chain (drop k chain) (take i cs) (drop (i + 1) cs) now inv.chains (first.rest ∙ sym (keep_from p first.item more falls passes) ∙ ap (filter p) (sym first.rest) ∙ inv.same)

pub shorten-requires-clause-alone : goal.shorten-requires-clause-alone
shorten-requires-clause-alone g c = λ item e.
    let p = g.P.Test.passed c.args.test.now in
    let is : c.oldest.result.now ≡ item = same_some (slice_get (chain_at c.loop-left.self.chains c.args.chain) 0) c.oldest.result.now item c.oldest.ensures e in
    let fails = ap p (sym is) ∙ sym c.passes.ensures ∙ c.if-passes.false in
    subst (AllByRecursion (LacksItem item)) (sym c.loop-left.invariant.others) (lacks_failing p item c.args.self.now.others fails c.requires.others)

pub loop-left-preserved : goal.loop-left-preserved
loop-left-preserved g c =
    let p = g.P.Test.passed c.args.test.now in
    let cs = c.args.self.now.chains in
    let i = c.args.chain in
    let chain = chain_at cs i in
    let inv = c.loop-left.invariant in
    let now = c.loop-left.self.chains in
    let k = length chain - c.loop-left.left in
    let some : k < length chain = omega (arith, inv.within, c.loop-left-test.true) in
    let first = first_is cs i k now c.requires.chain some inv.chains in
    let is : c.oldest.result.now ≡ first.item = same_some (slice_get (chain_at now i) 0) c.oldest.result.now first.item c.oldest.ensures first.oldest in
    let fails = ap p (sym is) ∙ sym c.passes.ensures ∙ c.if-passes.false in
    let next : length chain - (c.loop-left.left - 1) ≡ suc k = omega (arith, inv.within, c.loop-left-test.true) in
    record {
      chains = c.shorten.ensures.rest ∙ first.next ∙ ap (λ n. take i cs ++ with_chain (drop n chain) (drop (i + 1) cs)) (sym next);
      same = ap (λ n. filter p (drop n chain)) next ∙ sym (skip_first p first.item (drop (suc k) chain) fails) ∙ ap (filter p) (sym first.rest) ∙ inv.same;
      within = omega (arith, inv.within);
      others = c.shorten.ensures.others ∙ inv.others;
      room = omega (arith, inv.room, c.shorten.ensures.room);
    }
