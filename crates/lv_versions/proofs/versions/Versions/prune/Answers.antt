use Rattle.std.proofs.Common.{◌≡◌, sym, ap, ◌∙◌, subst, Bool, true, arith}
use Rattle.std.specs.List.{AllByRecursion}
use Rattle.lv_schema.proofs.Apart.{all_filter, apart_filter}
use Rattle.lv_schema.specs.declared.version.RowVersion.{RowVersion}
use Rattle.lv_shelf.specs.Chains.{joined}
use Rattle.lv_versions.specs.Versions.{AreVersions, IsBy, Lived, Precedes, current_of, ends_after, is_open, state_at}
use Rattle.lv_versions.proofs.Current.{current_open, current_stay}
use Rattle.lv_versions.proofs.Finding.{pruned_newest, pruned_state}
use Rattle.lv_shelf.proofs.Cutting.{all_kept}
use Rattle.lv_versions.proofs.versions.Versions.prune.Goals as goal

pub invariant_of-self : goal.invariant_of-self
invariant_of-self c =
    let s = c.self.inside in
    let kept : RowVersion → Bool = λ v. ends_after c.args.floor v.until in
    record {
      are = subst (AreVersions s.def.key s.last c.args.floor) (sym c.drop_ended-soonest.ensures.kept) (record {
        order = apart_filter (Precedes s.def.key) kept (joined s.versions.chains) c.self.invariant.are.order;
        each = all_filter (IsBy s.last) kept (joined s.versions.chains) c.self.invariant.are.each;
        kept = all_kept kept (joined s.versions.chains);
        lived = all_filter Lived kept (joined s.versions.chains) c.self.invariant.are.lived;
      });
      chained = rw c.as_slice.ensures at c.drop_ended-soonest.ensures.chained;
      orders = rw (c.as_slice.ensures, c.as_slice-2.ensures) at c.drop_ended-soonest.ensures.orders;
      ends = c.drop_ended-soonest.ensures.ends;
      current = c.drop_ended-soonest.ensures.current
          ∙ c.self.invariant.current
          ∙ sym (ap (current_of s.current) c.drop_ended-soonest.ensures.kept ∙ current_stay s.current c.args.floor (joined s.versions.chains));
    }

pub drop_ended-soonest-requires-clause-unended : goal.drop_ended-soonest-requires-clause-unended
drop_ended-soonest-requires-clause-unended c =
    let s = c.self.inside in
    subst (AllByRecursion (λ (v : RowVersion). is_open v ≡ true)) (sym c.self.invariant.current) (current_open s.current (joined s.versions.chains))

pub returns-clause-stays : goal.returns-clause-stays
returns-clause-stays c = λ n le.
    ap (state_at n) c.drop_ended-soonest.ensures.kept ∙ pruned_state n c.args.floor (joined c.self.inside.versions.chains) le ∙ ap (λ v. state_at n v.versions) c.self.view_is

pub returns-clause-newest : goal.returns-clause-newest
returns-clause-newest c = λ n le.
    let s = c.self.inside in
    ap (state_at n) c.drop_ended-soonest.ensures.kept
    ∙ pruned_newest n s.last c.args.floor (joined s.versions.chains) (omega (arith, le, ap (λ v. v.last) c.self.view_is)) c.self.invariant.are.each
    ∙ ap (λ v. state_at n v.versions) c.self.view_is
