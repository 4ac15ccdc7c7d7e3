use Rattle.std.proofs.Common.{◌≡◌, ◌+◌, ◌<◌, ◌++◌, ◌∷◌, [], ◌∙◌, sym, ap, subst, length, map, get_or, set, ℕ, List, arith}
use Rattle.std.specs.List.{AllByRecursion}
use Rattle.std.proofs.lemmas.List.{get_or-set_same, get_or-set_other, length-set}
use Rattle.lv_shelf.specs.declared.chains.Link.{Link}
use Rattle.lv_shelf.specs.Shelves.{Differ}
use Rattle.lv_shelf.specs.Chains.{AreLinked, chain_at, chain_of, joined, link_of}
use Rattle.lv_shelf.proofs.Chained.{AreNow, chain_read, link_read, newest_holds, pushed}
use Rattle.lv_shelf.proofs.chains.Chains.push.Goals as goal

pub overflow_add-height : goal.overflow_add-height
overflow_add-height c =
    let s = c.self.inside in
    let p = c.at-older.result in
    let r = chain_read s.links.items s.newest.list c.args.self.now.chains c.args.chain p c.self.invariant (ap (λ v. v.chains) c.self.view_is) c.requires.chain c.at-older.ensures in
    let e = ap (λ (l : Link). l.height) (link_read s.links.items p c.index-2.result.now r.bound c.index-2.ensures) in
    omega (arith, e, r.long, c.requires.high)

-- links after the two writes, by what was read
abbrev writes : List Link → ℕ → ℕ → Link → Link → Link → List Link
writes links p s a b d =
    let behind : Link = record { older = d.older; newer = s; height = d.height } in
    let new : Link = record { older = p; newer = a.newer; height = b.height + 1 } in
    set (set links p behind) s new

abbrev written : List Link → ℕ → ℕ → List Link
written links p s = writes links p s (link_of links p) (link_of links p) (link_of links p)

push_written : (links : List Link) (ps : List ℕ) (i p s : ℕ) → AreLinked links ps → p ≡ get_or ps i 0 → i < length ps → s < length links → p < length links → AllByRecursion (λ q. Differ q s) (joined (map (chain_of links) ps))
    → AreNow (written links p s) (set ps i s) (set (map (chain_of links) ps) i (get_or (map (chain_of links) ps) i [] ++ s ∷ []))
push_written links ps i p s are at lt less bound fresh =
    let l = link_of links p in
    let none : Link = record { older = 0; newer = 0; height = 0 } in
    let behind : Link = record { older = l.older; newer = s; height = l.height } in
    let new : Link = record { older = p; newer = l.newer; height = l.height + 1 } in
    let mid = set links p behind in
    let ne : Differ p s = subst (λ q. Differ q s) (sym at) (newest_holds (λ q. Differ q s) links ps i lt are.each fresh) in
    let at_p : link_of (written links p s) p ≡ behind = get_or-set_other mid s p new none ne ∙ get_or-set_same links p behind none bound in
    pushed links (written links p s) ps i p s are at lt less fresh
    (length-set mid s new ∙ length-set links p behind)
    (λ q d e. get_or-set_other mid s q new none e ∙ get_or-set_other links p q behind none d)
    (ap (λ (k : Link). k.older) at_p)
    (ap (λ (k : Link). k.newer) at_p)
    (get_or-set_same mid s new none (omega (arith, less, length-set links p behind)))

-- as the call reads and writes them
push_call : (links : List Link) (ps ps' : List ℕ) (chains : List (List ℕ)) (i p s : ℕ) (a b d : Link) → AreLinked links ps → map (chain_of links) ps ≡ chains → i < length chains → p ≡ get_or ps i p → s < length links
    → AllByRecursion (λ q. Differ q s) (joined chains) → a ≡ get_or links p a → b ≡ get_or links p b → d ≡ get_or links p d → ps' ≡ set ps i s → AreNow (writes links p s a b d) ps' (set chains i (chain_at chains i ++ s ∷ []))
push_call links ps ps' chains i p s a b d are is lt at less fresh ea eb ed e =
    let r = chain_read links ps chains i p are is lt at in
    let l = link_of links p in
    let same : writes links p s a b d ≡ written links p s =
    ap (λ k. writes links p s k b d) (link_read links p a r.bound ea)
    ∙ ap (λ k. writes links p s l k d) (link_read links p b r.bound eb)
    ∙ ap (λ k. writes links p s l l k) (link_read links p d r.bound ed) in
    let now = push_written links ps i p s are r.read r.within less r.bound (subst (λ k. AllByRecursion (λ q. Differ q s) (joined k)) (sym is) fresh) in
    let after = subst (λ k. AreNow (written links p s) (set ps i s) (set k i (get_or k i [] ++ s ∷ []))) is now in
    subst (λ k. AreNow k ps' (set chains i (chain_at chains i ++ s ∷ []))) (sym same) (subst (λ k. AreNow (written links p s) k (set chains i (chain_at chains i ++ s ∷ []))) (sym e) after)

pub invariant_of-self : goal.invariant_of-self
invariant_of-self c =
    let s = c.self.inside in
    let now = push_call s.links.items s.newest.list c.replace.new.self.list c.args.self.now.chains c.args.chain c.at-older.result c.args.slot c.index.result.now c.index-2.result.now c.index_mut.result.now
    c.self.invariant (ap (λ v. v.chains) c.self.view_is) c.requires.chain c.at-older.ensures (omega (arith, c.requires.links, ap (λ v. v.links) c.self.view_is)) c.requires.fresh c.index.ensures c.index-2.ensures c.index_mut.ensures.value c.replace.ensures.replaced in
    now.are

pub returns-clause-added : goal.returns-clause-added
returns-clause-added c =
    let s = c.self.inside in
    let now = push_call s.links.items s.newest.list c.replace.new.self.list c.args.self.now.chains c.args.chain c.at-older.result c.args.slot c.index.result.now c.index-2.result.now c.index_mut.result.now
    c.self.invariant (ap (λ v. v.chains) c.self.view_is) c.requires.chain c.at-older.ensures (omega (arith, c.requires.links, ap (λ v. v.links) c.self.view_is)) c.requires.fresh c.index.ensures c.index-2.ensures c.index_mut.ensures.value c.replace.ensures.replaced in
    now.seen
