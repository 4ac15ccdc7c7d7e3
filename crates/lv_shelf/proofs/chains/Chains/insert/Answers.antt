use Rattle.std.proofs.Common.{◌≡◌, ◌<◌, ◌∷◌, [], sym, ap, subst, length, map, set, ℕ, List, arith}
use Rattle.std.specs.List.{AllByRecursion, insert}
use Rattle.std.proofs.lemmas.List.{get_or-set_same, get_or-set_other, length-set}
use Rattle.lv_shelf.specs.declared.chains.Link.{Link}
use Rattle.lv_shelf.specs.Shelves.{Differ}
use Rattle.lv_shelf.specs.Chains.{AreLinked, chain_of, joined}
use Rattle.lv_shelf.proofs.Chained.{AreNow, entered}
use Rattle.lv_shelf.proofs.chains.Chains.insert.Goals as goal

abbrev alone : ℕ → Link
alone s = record { older = s; newer = s; height = 1 }

insert_call : (links : List Link) (ps ps' : List ℕ) (chains : List (List ℕ)) (i s : ℕ) → AreLinked links ps → map (chain_of links) ps ≡ chains → s < length links → AllByRecursion (λ q. Differ q s) (joined chains) → ps' ≡ insert ps i s
    → AreNow (set links s (alone s)) ps' (insert chains i (s ∷ []))
insert_call links ps ps' chains i s are is less fresh e =
    let none : Link = record { older = 0; newer = 0; height = 0 } in
    let now = entered links (set links s (alone s)) ps i s are less (subst (λ k. AllByRecursion (λ q. Differ q s) (joined k)) (sym is) fresh)
    (length-set links s (alone s)) (λ q d. get_or-set_other links s q (alone s) none d) (get_or-set_same links s (alone s) none less) in
    let after = subst (λ k. AreNow (set links s (alone s)) (insert ps i s) (insert k i (s ∷ []))) is now in
    subst (λ k. AreNow (set links s (alone s)) k (insert chains i (s ∷ []))) (sym e) after

pub invariant_of-self : goal.invariant_of-self
invariant_of-self c =
    let s = c.self.inside in
    let now = insert_call s.links.items s.newest.list c.insert.new.self.list c.args.self.now.chains c.args.at c.args.slot c.self.invariant (ap (λ v. v.chains) c.self.view_is) (omega (arith, c.requires.links, ap (λ v. v.links) c.self.view_is)) c.requires.fresh c.insert.ensures.added in
    now.are

pub returns-clause-added : goal.returns-clause-added
returns-clause-added c =
    let s = c.self.inside in
    let now = insert_call s.links.items s.newest.list c.insert.new.self.list c.args.self.now.chains c.args.at c.args.slot c.self.invariant (ap (λ v. v.chains) c.self.view_is) (omega (arith, c.requires.links, ap (λ v. v.links) c.self.view_is)) c.requires.fresh c.insert.ensures.added in
    now.seen
