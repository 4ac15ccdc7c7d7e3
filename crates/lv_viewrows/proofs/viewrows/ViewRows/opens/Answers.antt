use Rattle.std.proofs.Common.{◌≡◌, ◌-◌, ◌≤◌, List, length, filter, sym, ap, subst, ◌∙◌, arith}
use Rattle.std.specs.List.{AllByRecursion}
use Rattle.lv_viewrows.specs.Kept.{ViewKept}
use Rattle.lv_viewrows.specs.Standing.{AreOpen, IsBy, has_no_end, not_ended}
use Rattle.lv_viewrows.proofs.Open.{open_counted, open_few, pruned_open}
use Rattle.lv_viewrows.proofs.viewrows.ViewRows.opens.Goals as goal

pub overflow_sub-ended : goal.overflow_sub-ended
overflow_sub-ended c = omega (arith, c.len.ensures, c.len_not_ended-open.ensures, open_few c.self.inside.versions.list)

pub returns-then-ended-eq0-clause-open : goal.returns-then-ended-eq0-clause-open
returns-then-ended-eq0-clause-open c = λ _.
    let vs = c.self.inside.versions.list in
    let few = open_few vs in
    subst (λ (k : ViewKept). AreOpen k.versions) c.self.view_is
    (open_counted vs (omega (arith, few, c.len.ensures, c.len_not_ended-open.ensures, c.if-ended-eq0.true)))

pub returns-clause-open : goal.returns-clause-open
returns-clause-open c = λ _.
    let each = subst (λ (k : ViewKept). AllByRecursion (IsBy c.prune.inside.at) k.versions) c.prune.view_is c.prune.invariant.each in
    subst AreOpen (sym c.prune-2.ensures.kept) (pruned_open c.prune.inside.at c.args.self.now.versions each)
