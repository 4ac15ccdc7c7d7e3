use Rattle.std.proofs.Common.{sym, ◌∙◌}
use Rattle.lv_engine.specs.Answering.{create_fault, shows_store}
use Rattle.lv_core.proofs.CaseAnswers.{create_other, create_store, errs}
use Rattle.lv_core.proofs.MarkAnswers.{mark_refused, mark_undone}
use Rattle.lv_core.proofs.marking.mark_view.Goals as goal

pub returns-in-Some-clause-case : goal.returns-in-Some-clause-case
returns-in-Some-clause-case g c = λ rules w limit stands.
    let e = c.in-Err.fault in
    mark_refused g.D.Disk.seen g.D.Disk.may_leave g.D.Disk.moment g.D.Disk.left_since g.D.Disk.failures rules c.args.view w c.args.engine.now c.mark.new.self (shows_store (create_fault e)) (create_fault e) c.in-Some.fault (sym c.fault_of_create.ensures ∙ c.in-Some.is)
    (c.in-Err.ensures.case w rules.settings limit stands) (c.in-Err.ensures.log w rules.settings limit stands) c.in-Err.ensures.later (λ is. c.in-Err.ensures.cause (errs e _ (create_store e is)))

pub returns-in-None-clause-case : goal.returns-in-None-clause-case
returns-in-None-clause-case g c = λ rules w limit stands.
    let e = c.in-Err.fault in
    let none = sym c.fault_of_create.ensures ∙ c.in-None.is in
    mark_undone g.D.Disk.seen g.D.Disk.may_leave g.D.Disk.moment g.D.Disk.left_since g.D.Disk.failures rules c.args.view w c.args.engine.now c.mark.new.self (shows_store (create_fault e)) (create_fault e) none
    (c.in-Err.ensures.case w rules.settings limit stands) (c.in-Err.ensures.log w rules.settings limit stands) (c.in-Err.ensures.untouched (create_other e none))
