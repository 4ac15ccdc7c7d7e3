use Rattle.std.proofs.Common.{Bor, List, [], ◌++◌, length, sym, subst}
use Rattle.lv_schema.specs.declared.signed.SignedRow.{SignedRow}
use Rattle.lv_schema.proofs.ChangeLists.{ARow}
use Rattle.lv_join.specs.Ties.{seen}
use Rattle.lv_maint.specs.Alone.{came, went}
use Rattle.lv_maint.specs.Runs.{AddsUpTo}
use Rattle.lv_maint.proofs.Runs.{nothing_stands}
use Rattle.lv_maint.proofs.alone.entries_between.Goals as goal

pub returns-in-None : goal.returns-in-None
returns-in-None c =
    let e = c.args.entries.now in
    let keys = e.keys.now in
    let sums = e.sums.now in
    let cond = c.args.cond.now in
    let list = c.in_ok-kept.kept.items in
    subst (λ (l : List SignedRow). AddsUpTo (length sums) l (came keys sums cond (seen c.args.plus.now) ++ went keys sums cond (seen c.args.minus.now))) (sym c.in_ok-kept.ensures.items)
    (subst (λ (l : List (Bor ARow)). AddsUpTo (length sums) [] (came keys sums cond (seen c.args.plus.now) ++ went keys sums cond (seen l))) (sym (c.first_of.ensures.minus c.in-None.is))
    (subst (λ (l : List (Bor ARow)). AddsUpTo (length sums) [] (came keys sums cond (seen l) ++ went keys sums cond [])) (sym (c.first_of.ensures.plus c.in-None.is)) (nothing_stands (length sums))))
