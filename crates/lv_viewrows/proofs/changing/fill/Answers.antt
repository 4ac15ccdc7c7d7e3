use Rattle.std.proofs.Common.{◌≡◌, ◌++◌, ◌∷◌, map, filter, sym, ap, subst, ◌∙◌}
use Rattle.lv_group.specs.Gathered.{has_tuples}
use Rattle.lv_shelf.specs.Shelves.{LacksItem}
use Rattle.lv_viewrows.specs.Kept.{version_from}
use Rattle.lv_viewrows.proofs.Changes.{RowsAscend}
use Rattle.lv_viewrows.proofs.Filling.{lacks_next}
use Rattle.lv_viewrows.proofs.changing.fill.Goals as goal

pub push-requires-clause-absent : goal.push-requires-clause-absent
push-requires-clause-absent c =
    let s = c.in-Some.group in
    let all : c.loop-group.yielded ++ s ∷ c.next.new.self.rest.items ≡ c.args.groups = ap (λ l. c.loop-group.yielded ++ l) (sym c.in-Some.ensures.steps.0) ∙ c.loop-group.invariant.all in
    subst (λ l. LacksItem c.from_commit.result l) (sym c.loop-group.invariant.filled)
    (subst (λ v. LacksItem v (map (version_from c.args.number) (filter has_tuples c.loop-group.yielded))) (sym c.from_commit.ensures) (lacks_next c.args.number c.loop-group.yielded s c.next.new.self.rest.items (subst RowsAscend (sym all) c.requires.ascend) has_tuples))
