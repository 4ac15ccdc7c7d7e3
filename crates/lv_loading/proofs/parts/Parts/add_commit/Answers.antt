use Rattle.std.proofs.Common.{List, length, sym, ap, subst, arith}
use Rattle.lv_schema.specs.declared.action.Action.{Action}
use Rattle.lv_tasks.specs.Kept.{IsLater, tasks_kept}
use Rattle.lv_loading.specs.Taking.{kept_in}
use Rattle.lv_loading.proofs.Standing.{pending_told}
use Rattle.lv_loading.proofs.parts.Parts.add_commit.Goals as goal

pub add_tasks-requires-clause-later : goal.add_tasks-requires-clause-later
add_tasks-requires-clause-later c = λ v.
    let p = c.args.self.now in
    subst (λ n. IsLater n (tasks_kept p.upkeep.kept.tasks v)) (sym c.requires.next) (pending_told c.requires.whole.0 (kept_in p) v c.requires.whole.1).0

pub add_tasks-requires-clause-fits : goal.add_tasks-requires-clause-fits
add_tasks-requires-clause-fits c = λ v.
    let few = (pending_told c.requires.whole.0 (kept_in c.args.self.now) v c.requires.whole.1).1 in
    omega (arith, few, c.requires.may.entries, ap (λ (list : List Action). length list) c.as_slice.ensures)
