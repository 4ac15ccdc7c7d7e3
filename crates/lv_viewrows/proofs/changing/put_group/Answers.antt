use Rattle.std.proofs.Common.{sym, subst, ◌∙◌}
use Rattle.std.specs.List.{insert}
use Rattle.lv_shelf.specs.Cuts.{IsCut}
use Rattle.lv_shelf.specs.Shelves.{LacksItem}
use Rattle.lv_shelf.proofs.Cutting.{cut_long}
use Rattle.lv_viewrows.specs.Kept.{version_from}
use Rattle.lv_viewrows.specs.Standing.{comes_before, has_no_end, not_ended_before, version_cmp}
use Rattle.lv_viewrows.proofs.Galloping.{cut_put}
use Rattle.lv_viewrows.proofs.NotEnded.{before_inserted}
use Rattle.lv_viewrows.proofs.Order.{placed_there, version_total}
use Rattle.lv_viewrows.proofs.changing.put_group.Goals as goal

pub insert-requires-clause-within : goal.insert-requires-clause-within
insert-requires-clause-within c = cut_long (comes_before c.args.group.row c.args.number) c.args.at c.args.versions.now.list c.requires.cut

pub insert-requires-clause-absent : goal.insert-requires-clause-absent
insert-requires-clause-absent c = subst (λ v. LacksItem v c.args.versions.now.list) (sym c.from_commit.ensures) c.requires.absent

pub returns-clause-put : goal.returns-clause-put
returns-clause-put c =
    c.insert.ensures.added
    ∙ (λ i. insert c.args.versions.now.list c.args.at (c.from_commit.ensures i))
    ∙ sym (placed_there version_cmp version_total (version_from c.args.number c.args.group) c.args.versions.now.list c.args.at c.requires.cut)

pub returns-clause-cut : goal.returns-clause-cut
returns-clause-cut c =
    subst (IsCut (comes_before c.args.group.row c.args.number) c.args.at) (sym (c.insert.ensures.added ∙ (λ i. insert c.args.versions.now.list c.args.at (c.from_commit.ensures i))))
    (cut_put c.args.number c.args.group c.args.at c.args.versions.now.list c.requires.cut)

pub returns-clause-place : goal.returns-clause-place
returns-clause-place c =
    let vs = c.args.versions.now.list in
    c.requires.place
    ∙ sym (before_inserted has_no_end c.args.at vs (version_from c.args.number c.args.group) (cut_long (comes_before c.args.group.row c.args.number) c.args.at vs c.requires.cut))
    ∙ (λ i. not_ended_before c.args.at (sym (c.insert.ensures.added ∙ (λ j. insert vs c.args.at (c.from_commit.ensures j))) i))
