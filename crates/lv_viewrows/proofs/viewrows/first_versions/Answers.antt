use Rattle.std.proofs.Common.{◌≡◌, ◌++◌, ◌∷◌, map, sym, ap, subst, ◌∙◌}
use Rattle.lv_shelf.specs.Shelves.{LacksItem}
use Rattle.lv_viewrows.specs.Kept.{version_from}
use Rattle.lv_viewrows.proofs.Changes.{RowsAscend}
use Rattle.lv_viewrows.proofs.Filling.{lacks_behind}
use Rattle.lv_viewrows.proofs.viewrows.first_versions.Goals as goal

pub push_last-requires : goal.push_last-requires
push_last-requires c =
    let s = c.in-Some.group in
    let all : c.loop-group.yielded ++ s ∷ c.next.new.self.rest.items ≡ c.args.groups = ap (λ l. c.loop-group.yielded ++ l) (sym c.in-Some.ensures.steps.0) ∙ c.loop-group.invariant.all in
    subst (λ l. LacksItem c.from_commit.result l) (sym c.loop-group.invariant.made)
    (subst (λ v. LacksItem v (map (version_from 0) c.loop-group.yielded)) (sym c.from_commit.ensures) (lacks_behind 0 c.loop-group.yielded s c.next.new.self.rest.items (subst RowsAscend (sym all) c.requires)))
