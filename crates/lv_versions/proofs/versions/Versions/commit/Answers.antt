use Rattle.std.proofs.Common.{◌≡◌, ◌<◌, ◌++◌, List, map, sym, ap, ◌∙◌, subst, arith, rules}
use Rattle.std.specs.List.Sorted.{IsPermutation}
use Rattle.std.specs.List.{AllByRecursion}
use Rattle.lv_schema.specs.Nets.{with_net}
use Rattle.lv_schema.specs.declared.version.RowVersion.{RowVersion}
use Rattle.lv_shelf.specs.Cuts.{Apart}
use Rattle.lv_shelf.specs.Chains.{joined}
use Rattle.lv_versions.specs.Versions.{Applies, AreChains, AreNew, AreVersions, EndsAtMost, EndsFrom, Precedes, closed, lost, new_version, soonest_after, state_at, with_versions}
use Rattle.lv_versions.proofs.Cleaning.{all_at_most}
use Rattle.lv_versions.proofs.Committed.{after_before, after_ends, after_is, after_state, after_versions, are_new, closed_left}
use Rattle.lv_versions.proofs.versions.Versions.commit.Goals as goal

pub change-requires : goal.change-requires
change-requires c =
    let s = c.self.inside in
    let vs : List RowVersion = joined s.versions.chains in
    let later : s.last < c.args.number = omega (arith, c.requires.later, ap (λ v. v.last) c.self.view_is) in
    let above : s.floor < c.args.number = omega (arith, c.requires.above, ap (λ v. v.floor) c.self.view_is) in
    let applies : Applies s.def.key c.args.net (state_at s.last vs) = subst (λ v. Applies v.def.key c.args.net (state_at v.last v.versions)) (sym c.self.view_is) c.requires.applies in
    let kept = c.keep_current-current.new.versions in
    let same : joined kept.chains ≡ vs = ap joined c.keep_current-current.ensures.same in
    let ps = s.def.key in
    let number = c.args.number in
    let net = c.args.net in
    rw (c.as_slice-positions.ensures, c.as_slice-indexes.ensures) (record {
      stand = subst (Apart (Precedes ps)) (sym same) c.self.invariant.are.order;
      chained = subst (AreChains ps) (sym c.keep_current-current.ensures.same) c.self.invariant.chained;
      ends = subst (AllByRecursion (λ (v : RowVersion). EndsAtMost number v.until)) (sym same) (all_at_most s.last number vs later c.self.invariant.are.each);
      orders = (rw c.as_slice-positions.ensures at c.keep_current-current.ensures.orders) s.indexes.list c.self.invariant.orders;
      current = c.keep_current-current.ensures.current;
      keys = subst (λ l. map (closed ps number net.plus) (map (closed ps number net.minus) l) ≡ map (lost number net.minus) l) (sym same) (closed_left ps s.last s.floor number net vs later above c.self.invariant.are applies);
      new = subst (λ l. AreNew ps number net.plus (map (lost number net.minus) l)) (sym same) (are_new ps s.last s.floor number net vs later above c.self.invariant.are applies);
      room = omega (arith, c.requires.room, ap (λ v. v.spare) c.self.view_is, c.keep_current-current.ensures.room);
    })

pub invariant_of-self : goal.invariant_of-self
invariant_of-self c =
    let s = c.self.inside in
    let vs : List RowVersion = joined s.versions.chains in
    let later : s.last < c.args.number = omega (arith, c.requires.later, ap (λ v. v.last) c.self.view_is) in
    let above : s.floor < c.args.number = omega (arith, c.requires.above, ap (λ v. v.floor) c.self.view_is) in
    let applies : Applies s.def.key c.args.net (state_at s.last vs) = subst (λ v. Applies v.def.key c.args.net (state_at v.last v.versions)) (sym c.self.view_is) c.requires.applies in
    let changed = (rw c.as_slice-positions.ensures at c.change.ensures.changed) ∙ ap (λ l. with_versions s.def.key c.args.number c.args.net.plus (map (lost c.args.number c.args.net.minus) (joined l))) c.keep_current-current.ensures.same in
    let order = subst (Apart (Precedes s.def.key)) changed (rw c.as_slice-positions.ensures at c.change.ensures.stand) in
    rw c.soonest_after-soonest.ensures (record {
      are = subst (AreVersions s.def.key c.args.number s.floor) (sym changed) (after_is s.def.key s.last s.floor c.args.number c.args.net vs later above c.self.invariant.are applies order);
      chained = rw c.as_slice-positions.ensures at c.change.ensures.chained;
      ends = subst (AllByRecursion (λ (v : RowVersion). EndsFrom (soonest_after s.soonest c.args.number c.args.net.minus) v.until)) (sym changed) (after_ends s.def.key s.soonest c.args.number c.args.net vs c.self.invariant.ends);
      orders = rw (c.as_slice-positions.ensures, c.as_slice-indexes.ensures) at c.change.ensures.orders;
      current = c.change.ensures.current;
    })

pub returns : goal.returns
returns c =
    let s = c.self.inside in
    let vs : List RowVersion = joined s.versions.chains in
    let later : s.last < c.args.number = omega (arith, c.requires.later, ap (λ v. v.last) c.self.view_is) in
    let above : s.floor < c.args.number = omega (arith, c.requires.above, ap (λ v. v.floor) c.self.view_is) in
    let applies : Applies s.def.key c.args.net (state_at s.last vs) = subst (λ v. Applies v.def.key c.args.net (state_at v.last v.versions)) (sym c.self.view_is) c.requires.applies in
    let changed = (rw c.as_slice-positions.ensures at c.change.ensures.changed) ∙ ap (λ l. with_versions s.def.key c.args.number c.args.net.plus (map (lost c.args.number c.args.net.minus) (joined l))) c.keep_current-current.ensures.same in
    let order = subst (Apart (Precedes s.def.key)) changed (rw c.as_slice-positions.ensures at c.change.ensures.stand) in
    record {
      state = λ n le.
          ap (state_at n) changed
          ∙ after_state s.def.key s.last s.floor c.args.number c.args.net vs later above c.self.invariant.are applies order n le
          ∙ ap (λ v. with_net v.def.key c.args.net (state_at v.last v.versions)) c.self.view_is;
      before = λ n below.
          ap (state_at n) changed
          ∙ after_before s.def.key s.last s.floor c.args.number c.args.net vs later above c.self.invariant.are applies n below
          ∙ ap (λ v. state_at n v.versions) c.self.view_is;
      versions = subst (λ v. IsPermutation (map (lost c.args.number c.args.net.minus) v.versions ++ map (new_version c.args.number) c.args.net.plus) (joined c.change.new.versions.chains)) c.self.view_is
          (subst (IsPermutation (map (lost c.args.number c.args.net.minus) vs ++ map (new_version c.args.number) c.args.net.plus)) (sym changed)
          (after_versions s.def.key s.last s.floor c.args.number c.args.net vs later above c.self.invariant.are applies));
      last = search rules;
      def = ap (λ v. v.def) c.self.view_is;
      floor = ap (λ v. v.floor) c.self.view_is;
      room = omega (arith, c.change.ensures.room, c.keep_current-current.ensures.room, ap (λ v. v.spare) c.self.view_is);
      indexes = ap (λ v. v.indexes) c.self.view_is;
      soonest = c.soonest_after-soonest.ensures ∙ ap (λ v. soonest_after v.soonest c.args.number c.args.net.minus) c.self.view_is;
    }
