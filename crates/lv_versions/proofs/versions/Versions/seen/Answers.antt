use Rattle.std.proofs.Common.{◌≡◌, true, filter, sym, ap, ◌∙◌, subst}
use Rattle.std.specs.List.{AllByRecursion}
use Rattle.lv_schema.proofs.Apart.{apart_filter}
use Rattle.lv_shelf.specs.Cuts.{Apart}
use Rattle.lv_shelf.specs.Shelves.{other_at}
use Rattle.lv_shelf.proofs.Cutting.{all_kept}
use Rattle.lv_shelf.specs.Chains.{HasSome, joined}
use Rattle.lv_versions.specs.Versions.{AreChains, Precedes, current_of, is_open, state_at}
use Rattle.lv_versions.proofs.Current.{open_rows}
use Rattle.lv_versions.proofs.ReadingChains.{joined_alone, open_chains, some_alone}
use Rattle.lv_versions.proofs.versions.Versions.seen.Goals as goal

pub returns-then-orders-gt-CURRENT-clause-rows : goal.returns-then-orders-gt-CURRENT-clause-rows
returns-then-orders-gt-CURRENT-clause-rows c =
    let s = c.self.inside in
    let n = c.args.n in
    let vs = joined s.versions.chains in
    let list = other_at s.versions.others 1 in
    let shown : list ≡ filter is_open vs = c.self.invariant.current ∙ ap (λ b. current_of b vs) c.if-self.true in
    ap (λ cs. state_at n (joined cs)) c.of.ensures
    ∙ ap (state_at n) (joined_alone list ∙ shown)
    ∙ open_rows n s.last vs c.if-self-n.true c.self.invariant.are.each
    ∙ ap (λ v. state_at n v.versions) c.self.view_is

pub returns-then-orders-gt-CURRENT-clause-stand : goal.returns-then-orders-gt-CURRENT-clause-stand
returns-then-orders-gt-CURRENT-clause-stand c =
    let s = c.self.inside in
    let vs = joined s.versions.chains in
    let list = other_at s.versions.others 1 in
    let shown : list ≡ filter is_open vs = c.self.invariant.current ∙ ap (λ b. current_of b vs) c.if-self.true in
    subst (λ v. Apart (Precedes v.def.key) (joined c.of.result)) c.self.view_is
    (subst (Apart (Precedes s.def.key)) (sym (ap joined c.of.ensures ∙ joined_alone list ∙ shown)) (apart_filter (Precedes s.def.key) is_open vs c.self.invariant.are.order))

pub returns-then-orders-gt-CURRENT-clause-chained : goal.returns-then-orders-gt-CURRENT-clause-chained
returns-then-orders-gt-CURRENT-clause-chained c =
    let s = c.self.inside in
    let vs = joined s.versions.chains in
    let list = other_at s.versions.others 1 in
    let shown : list ≡ filter is_open vs = c.self.invariant.current ∙ ap (λ b. current_of b vs) c.if-self.true in
    let alive = subst (AllByRecursion (λ v. is_open v ≡ true)) (sym shown) (all_kept is_open vs) in
    let stand = subst (Apart (Precedes s.def.key)) (sym shown) (apart_filter (Precedes s.def.key) is_open vs c.self.invariant.are.order) in
    subst (λ v. AreChains v.def.key c.of.result) c.self.view_is (subst (AreChains s.def.key) (sym c.of.ensures) (open_chains s.def.key list alive stand))

pub returns-then-orders-gt-CURRENT-clause-some : goal.returns-then-orders-gt-CURRENT-clause-some
returns-then-orders-gt-CURRENT-clause-some c = subst (AllByRecursion HasSome) (sym c.of.ensures) (some_alone (other_at c.self.inside.versions.others 1))
