use Rattle.std.proofs.Common.{◌≡◌, ◌-◌, ◌<◌, ◌∙◌, sym, ap, subst, suc, length, map, drop, get_or, set, cond, Bool, true, false, refl, ℕ, List, arith}
use Rattle.std.specs.Prelude.{◌==◌}
use Rattle.std.specs.List.{remove}
use Rattle.std.proofs.lemmas.Bool.{eq-eqb}
use Rattle.std.proofs.lemmas.List.{get_or-set_same, get_or-set_other, length-set}
use Rattle.lv_shelf.specs.declared.chains.Link.{Link}
use Rattle.lv_shelf.specs.Chains.{AreLinked, chain_at, chain_of, link_of, shortened}
use Rattle.lv_shelf.proofs.Among.{eq_of}
use Rattle.lv_shelf.proofs.Chained.{AreNow, chain_read, gone, link_read, lowered}
use Rattle.lv_shelf.proofs.chains.Chains.shorten.Goals as goal

gone_is : (chains : List (List ℕ)) (i : ℕ) → length (chain_at chains i) ≡ 1 → shortened chains i ≡ remove chains i
gone_is chains i e = ap (λ b. cond b (remove chains i) (set chains i (drop 1 (chain_at chains i)))) (eq-eqb (length (chain_at chains i)) 1 e)

lowered_is : (chains : List (List ℕ)) (i : ℕ) → (length (chain_at chains i) ≡ 1 → ⊥) → shortened chains i ≡ set chains i (drop 1 (chain_at chains i))
lowered_is chains i ne = by (length (chain_at chains i) == 1) refl
  where
    by : (b : Bool) → (length (chain_at chains i) == 1) ≡ b → cond b (remove chains i) (set chains i (drop 1 (chain_at chains i))) ≡ set chains i (drop 1 (chain_at chains i))
    by true e = absurd (ne (eq_of (length (chain_at chains i)) 1 e))
    by false e = refl

gone_call : (links : List Link) (ps ps' : List ℕ) (chains : List (List ℕ)) (i p : ℕ) (a : Link) → AreLinked links ps → map (chain_of links) ps ≡ chains → i < length chains → p ≡ get_or ps i p → a ≡ get_or links p a → a.height ≡ 1
    → ps' ≡ remove ps i → AreNow links ps' (shortened chains i)
gone_call links ps ps' chains i p a are is lt at ea one e =
    let r = chain_read links ps chains i p are is lt at in
    let high : (link_of links p).height ≡ 1 = ap (λ (l : Link). l.height) (sym (link_read links p a r.bound ea)) ∙ one in
    let now = gone links ps i p are r.read r.within high in
    let after = subst (λ k. AreNow links (remove ps i) (remove k i)) is now in
    let short = subst (AreNow links (remove ps i)) (sym (gone_is chains i (r.long ∙ high))) after in
    subst (λ k. AreNow links k (shortened chains i)) (sym e) short

-- links after the two writes, by what was read
abbrev mid_link : Link → Link → Link
mid_link g d = record { older = d.older; newer = g.newer; height = d.height }

abbrev the_link : ℕ → ℕ → ℕ → Link
the_link o n h = record { older = o; newer = n; height = h }

abbrev end_link : Link → Link → Link
end_link f a = record { older = f.older; newer = f.newer; height = a.height - 1 }

abbrev writes : List Link → ℕ → Link → Link → Link → Link → List Link
writes links p a g d f = set (set links p (mid_link g d)) p (end_link f a)

lowered_call : (links : List Link) (ps : List ℕ) (chains : List (List ℕ)) (i p : ℕ) (a g d f : Link) → AreLinked links ps → map (chain_of links) ps ≡ chains → i < length chains → p ≡ get_or ps i p → a ≡ get_or links p a
    → (a.height ≡ 1 → ⊥) → g ≡ get_or links a.newer g → d ≡ get_or links p d → f ≡ get_or (set links p (mid_link g d)) p f → AreNow (writes links p a g d f) ps (shortened chains i)
lowered_call links ps chains i p a g d f are is lt at ea more eg ed ef =
    let r = chain_read links ps chains i p are is lt at in
    let none : Link = record { older = 0; newer = 0; height = 0 } in
    let l = link_of links p in
    let mid = set links p (mid_link g d) in
    let ra : a ≡ l = link_read links p a r.bound ea in
    let rd : d ≡ l = link_read links p d r.bound ed in
    let newer : a.newer ≡ l.newer = ap (λ (k : Link). k.newer) ra in
    let rg : g ≡ link_of links l.newer = link_read links a.newer g (omega (arith, r.oldest, newer)) eg ∙ ap (link_of links) newer in
    let bound : p < length mid = omega (arith, r.bound, length-set links p (mid_link g d)) in
    let rf : f ≡ mid_link g d = link_read mid p f bound ef ∙ get_or-set_same links p (mid_link g d) none r.bound in
    let height : a.height ≡ l.height = ap (λ (k : Link). k.height) ra in
    let some = r.chain.some in
    let n = l.height - 2 in
    let high : l.height ≡ suc (suc n) = omega (arith, some, height, more) in
    let low : a.height - 1 ≡ suc n = omega (arith, high, height) in
    let here : link_of (writes links p a g d f) p ≡ record { older = l.older; newer = (link_of links l.newer).newer; height = suc n } =
    get_or-set_same mid p (end_link f a) none bound
    ∙ ap (λ k. end_link k a) rf
    ∙ ap (λ k. end_link (mid_link g k) a) rd
    ∙ ap (λ k. end_link (mid_link k l) a) rg
    ∙ ap (λ k. the_link l.older (link_of links l.newer).newer k) low in
    let now = lowered links (writes links p a g d f) ps i p n are r.read r.within high
    (length-set mid p (end_link f a) ∙ length-set links p (mid_link g d))
    (λ q e. get_or-set_other mid p q (end_link f a) none e ∙ get_or-set_other links p q (mid_link g d) none e)
    here in
    let after = subst (λ k. AreNow (writes links p a g d f) ps (set k i (drop 1 (chain_at k i)))) is now in
    subst (AreNow (writes links p a g d f) ps) (sym (lowered_is chains i (λ e. more (height ∙ sym r.long ∙ e)))) after

pub invariant_of-self : goal.invariant_of-self
invariant_of-self c =
    let s = c.self.inside in
    let now = gone_call s.links.items s.newest.list c.remove.new.self.list c.args.self.now.chains c.args.chain c.at-newest.result c.index.result.now c.self.invariant (ap (λ v. v.chains) c.self.view_is) c.requires c.at-newest.ensures c.index.ensures
    c.if-height-eq1.true c.remove.ensures.rest in
    now.are

pub returns-then-height-eq1-clause-rest : goal.returns-then-height-eq1-clause-rest
returns-then-height-eq1-clause-rest c =
    let s = c.self.inside in
    let now = gone_call s.links.items s.newest.list c.remove.new.self.list c.args.self.now.chains c.args.chain c.at-newest.result c.index.result.now c.self.invariant (ap (λ v. v.chains) c.self.view_is) c.requires c.at-newest.ensures c.index.ensures
    c.if-height-eq1.true c.remove.ensures.rest in
    now.seen

pub index-requires-2 : goal.index-requires-2
index-requires-2 c =
    let s = c.self.inside in
    let r = chain_read s.links.items s.newest.list c.args.self.now.chains c.args.chain c.at-newest.result c.self.invariant (ap (λ v. v.chains) c.self.view_is) c.requires c.at-newest.ensures in
    let newer = ap (λ (l : Link). l.newer) (link_read s.links.items c.at-newest.result c.index.result.now r.bound c.index.ensures) in
    omega (arith, r.oldest, newer)

pub invariant_of-self-2 : goal.invariant_of-self-2
invariant_of-self-2 c =
    let s = c.self.inside in
    let now = lowered_call s.links.items s.newest.list c.args.self.now.chains c.args.chain c.at-newest.result c.index.result.now c.index-2.result.now c.index_mut.result.now c.index_mut-2.result.now c.self.invariant (ap (λ v. v.chains) c.self.view_is)
    c.requires c.at-newest.ensures c.index.ensures c.if-height-eq1.false c.index-2.ensures c.index_mut.ensures.value c.index_mut-2.ensures.value in
    now.are

pub returns-clause-rest : goal.returns-clause-rest
returns-clause-rest c =
    let s = c.self.inside in
    let now = lowered_call s.links.items s.newest.list c.args.self.now.chains c.args.chain c.at-newest.result c.index.result.now c.index-2.result.now c.index_mut.result.now c.index_mut-2.result.now c.self.invariant (ap (λ v. v.chains) c.self.view_is)
    c.requires c.at-newest.ensures c.index.ensures c.if-height-eq1.false c.index-2.ensures c.index_mut.ensures.value c.index_mut-2.ensures.value in
    now.seen
