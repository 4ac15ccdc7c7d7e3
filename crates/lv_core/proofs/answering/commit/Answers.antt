use Rattle.std.proofs.Common.{false, subst}
use Rattle.std.specs.Prelude.{Option}
use Rattle.lv_schema.specs.declared.fault.Fault.{Fault}
use Rattle.lv_schema.specs.Cases.{committed}
use Rattle.lv_schema.specs.UpkeepCases.{outcome_of}
use Rattle.lv_plain.specs.declared.entry.Reply.TheVariants as reply
use Rattle.lv_engine.specs.Answering.{commit_fault, shows_store}
use Rattle.lv_core.specs.Answering.{IsRefusal}
use Rattle.lv_core.proofs.CaseAnswers.{answers_refused, commit_other, commit_store, errs, gives}
use Rattle.lv_core.proofs.answering.commit.Goals as goal

pub returns-in-Ok-clause-case : goal.returns-in-Ok-clause-case
returns-in-Ok-clause-case g c = λ w settings limit stands.
    gives g.D.Disk.seen g.D.Disk.may_leave g.D.Disk.moment g.D.Disk.left_since g.D.Disk.failures (λ n. reply.Committed n) (λ fails. committed (outcome_of settings fails w.upkeep) c.args.session w.visible) w c.args.engine.now c.commit.new.self false c.replied.result c.in-Ok.number
    c.replied.ensures.forced c.replied.ensures.reply (c.in-Ok.ensures.case w settings limit stands) (record { logs = c.in-Ok.ensures.log w settings limit stands; later = c.in-Ok.ensures.later }) (λ fails. absurd cc)

pub returns-in-Err-clause-case : goal.returns-in-Err-clause-case
returns-in-Err-clause-case g c = λ w settings limit stands.
    let e = c.in-Err.fault in
    answers_refused g.D.Disk.seen g.D.Disk.may_leave g.D.Disk.moment g.D.Disk.left_since g.D.Disk.failures (λ n. reply.Committed n) (λ fails. committed (outcome_of settings fails w.upkeep) c.args.session w.visible) w c.args.engine.now c.commit.new.self (shows_store (commit_fault e))
    c.refusal.result (commit_fault e) (subst (λ (f : Option Fault). IsRefusal f c.refusal.result) c.fault_of_commit.ensures c.refusal.ensures) (c.in-Err.ensures.case w settings limit stands)
    (c.in-Err.ensures.log w settings limit stands) c.in-Err.ensures.later (λ is. c.in-Err.ensures.cause (errs e _ (commit_store e is))) (λ none. c.in-Err.ensures.untouched (commit_other e none))
