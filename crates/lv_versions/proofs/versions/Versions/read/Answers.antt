use Rattle.std.proofs.Common.{◌≡◌, ◌<◌, Some, None, cond, sym, ap, ◌∙◌, subst, arith}
use Rattle.lv_values.specs.Rows.{key_cmp}
use Rattle.lv_schema.specs.Once.{Ascends}
use Rattle.lv_shelf.specs.Cuts.{Apart}
use Rattle.lv_shelf.specs.Chains.{joined}
use Rattle.lv_versions.specs.Versions.{AreChains, Precedes, row_with, state_at}
use Rattle.lv_versions.proofs.ReadingChains.{key_agreeing, key_falls, read_found, read_none}
use Rattle.lv_versions.proofs.Standing.{state_ascends}
use Rattle.lv_versions.proofs.versions.Versions.read.Goals as goal

pub cut_near-end-requires-clause-falls : goal.cut_near-end-requires-clause-falls
cut_near-end-requires-clause-falls g c =
    let s = c.self.inside in
    let ps = c.as_slice-positions.result.now in
    let stand = subst (λ k. Apart (Precedes k) (joined c.all-seen.result)) (sym c.as_slice-positions.ensures) (subst (λ l. Apart (Precedes s.def.key) (joined l)) (sym c.all-seen.ensures) c.self.invariant.are.order) in
    rw c.up_to_key.ensures (key_falls ps c.args.key.now (joined c.all-seen.result) stand)

pub cut_near-end-requires-clause-agrees : goal.cut_near-end-requires-clause-agrees
cut_near-end-requires-clause-agrees g c =
    let s = c.self.inside in
    let ps = c.as_slice-positions.result.now in
    let chained = subst (λ k. AreChains k c.all-seen.result) (sym c.as_slice-positions.ensures) (subst (AreChains s.def.key) (sym c.all-seen.ensures) c.self.invariant.chained) in
    rw c.up_to_key.ensures (key_agreeing ps c.args.key.now c.all-seen.result chained)

pub returns-then-end-eq0-clause-found : goal.returns-then-end-eq0-clause-found
returns-then-end-eq0-clause-found g c =
    let s = c.self.inside in
    let cut = rw c.up_to_key.ensures at c.cut_near-end.ensures.cut in
    subst (λ v. row_with v.def.key c.args.key.now (state_at c.args.n v.versions) ≡ None) c.self.view_is
    (read_none c.as_slice-positions.result.now s.def.key c.args.key.now c.args.n c.cut_near-end.result c.all-seen.result s.versions.chains c.as_slice-positions.ensures c.all-seen.ensures c.if-end-eq0.true cut)

pub returns-in_err-version-clause-found : goal.returns-in_err-version-clause-found
returns-in_err-version-clause-found g c =
    let s = c.self.inside in
    let cut = rw c.up_to_key.ensures at c.cut_near-end.ensures.cut in
    let more : 0 < c.cut_near-end.result = let h = c.if-end-eq0.false in omega arith in
    rw c.from_residual.ensures (subst (λ v. row_with v.def.key c.args.key.now (state_at c.args.n v.versions) ≡ None) c.self.view_is
    (read_found c.as_slice-positions.result.now s.def.key c.args.key.now c.args.n c.cut_near-end.result c.all-seen.result s.versions.chains c.newest.result.now None c.as_slice-positions.ensures c.all-seen.ensures
    more c.cut_near-end.ensures.within c.newest.ensures c.self.invariant.are.order c.self.invariant.chained cut c.in_err-version.ensures))

pub returns-then-hits-clause-found : goal.returns-then-hits-clause-found
returns-then-hits-clause-found g c =
    let s = c.self.inside in
    let found = c.in_ok-version.version.now in
    let cut = rw c.up_to_key.ensures at c.cut_near-end.ensures.cut in
    let more : 0 < c.cut_near-end.result = let h = c.if-end-eq0.false in omega arith in
    subst (λ v. row_with v.def.key c.args.key.now (state_at c.args.n v.versions) ≡ Some found.row) c.self.view_is
    (read_found c.as_slice-positions.result.now s.def.key c.args.key.now c.args.n c.cut_near-end.result c.all-seen.result s.versions.chains c.newest.result.now (Some found) c.as_slice-positions.ensures c.all-seen.ensures
    more c.cut_near-end.ensures.within c.newest.ensures c.self.invariant.are.order c.self.invariant.chained cut c.in_ok-version.ensures
    ∙ ap (λ b. cond b (Some found.row) None) (sym c.hits.ensures ∙ c.if-hits.true))

pub returns-else-hits-clause-found : goal.returns-else-hits-clause-found
returns-else-hits-clause-found g c =
    let s = c.self.inside in
    let found = c.in_ok-version.version.now in
    let cut = rw c.up_to_key.ensures at c.cut_near-end.ensures.cut in
    let more : 0 < c.cut_near-end.result = let h = c.if-end-eq0.false in omega arith in
    subst (λ v. row_with v.def.key c.args.key.now (state_at c.args.n v.versions) ≡ None) c.self.view_is
    (read_found c.as_slice-positions.result.now s.def.key c.args.key.now c.args.n c.cut_near-end.result c.all-seen.result s.versions.chains c.newest.result.now (Some found) c.as_slice-positions.ensures c.all-seen.ensures
    more c.cut_near-end.ensures.within c.newest.ensures c.self.invariant.are.order c.self.invariant.chained cut c.in_ok-version.ensures
    ∙ ap (λ b. cond b (Some found.row) None) (sym c.hits.ensures ∙ c.if-hits.false))

pub returns-then-end-eq0-clause-keyed : goal.returns-then-end-eq0-clause-keyed
returns-then-end-eq0-clause-keyed g c =
    let s = c.self.inside in
    subst (λ v. Ascends (key_cmp v.def.key) (state_at c.args.n v.versions)) c.self.view_is (state_ascends s.def.key c.args.n (joined s.versions.chains) c.self.invariant.are.order)

pub returns-in_err-version-clause-keyed : goal.returns-in_err-version-clause-keyed
returns-in_err-version-clause-keyed g c =
    let s = c.self.inside in
    subst (λ v. Ascends (key_cmp v.def.key) (state_at c.args.n v.versions)) c.self.view_is (state_ascends s.def.key c.args.n (joined s.versions.chains) c.self.invariant.are.order)

pub returns-then-hits-clause-keyed : goal.returns-then-hits-clause-keyed
returns-then-hits-clause-keyed g c =
    let s = c.self.inside in
    subst (λ v. Ascends (key_cmp v.def.key) (state_at c.args.n v.versions)) c.self.view_is (state_ascends s.def.key c.args.n (joined s.versions.chains) c.self.invariant.are.order)

pub returns-else-hits-clause-keyed : goal.returns-else-hits-clause-keyed
returns-else-hits-clause-keyed g c =
    let s = c.self.inside in
    subst (λ v. Ascends (key_cmp v.def.key) (state_at c.args.n v.versions)) c.self.view_is (state_ascends s.def.key c.args.n (joined s.versions.chains) c.self.invariant.are.order)
