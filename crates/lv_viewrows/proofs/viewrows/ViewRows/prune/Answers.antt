use Rattle.std.proofs.Common.{sym, ap, ◌∙◌, subst, ◌⊎◌, ◌≤◌}
use Rattle.lv_schema.specs.Versions.{ends_after}
use Rattle.lv_viewrows.specs.Kept.{ViewKept, groups_at}
use Rattle.lv_viewrows.specs.Standing.{AreVersions}
use Rattle.lv_viewrows.proofs.Installing.{pruned_groups, some_kept}
use Rattle.lv_viewrows.proofs.viewrows.ViewRows.prune.Goals as goal

pub invariant_of-self : goal.invariant_of-self
invariant_of-self c =
    let s = c.self.inside in
    subst (AreVersions s.def s.at) (sym c.keep.ensures.kept) (some_kept s.def s.at (λ v. ends_after c.args.number v.until) s.versions.list c.self.invariant)

pub returns-clause-stays : goal.returns-clause-stays
returns-clause-stays c = λ n from.
    let s = c.self.inside in
    let here = subst (λ (k : ViewKept). (c.args.number ≤ n) ⊎ (k.at ≤ n)) (sym c.self.view_is) from in
    ap (groups_at n) c.keep.ensures.kept ∙ pruned_groups n c.args.number s.at s.versions.list c.self.invariant.each here ∙ ap (λ (k : ViewKept). groups_at n k.versions) c.self.view_is
