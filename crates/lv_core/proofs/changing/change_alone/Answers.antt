use Rattle.std.proofs.Common.{ℕ, false, subst}
use Rattle.std.specs.Prelude.{Option}
use Rattle.lv_schema.specs.declared.fault.Fault.{Fault}
use Rattle.lv_schema.specs.Cases.{alone}
use Rattle.lv_schema.specs.UpkeepCases.{outcome_of}
use Rattle.lv_plain.specs.declared.entry.Reply.TheVariants as reply
use Rattle.lv_engine.specs.Alone.{alone_fault, blames_disk}
use Rattle.lv_core.specs.Answering.{IsRefusal}
use Rattle.lv_core.proofs.CaseAnswers.{alone_other, alone_store, answers_refused, errs, gives}
use Rattle.lv_core.proofs.changing.change_alone.Goals as goal

pub returns-in-Ok-clause-case : goal.returns-in-Ok-clause-case
returns-in-Ok-clause-case g c = λ session w settings inside free limit stands.
    gives g.D.Disk.seen g.D.Disk.may_leave g.D.Disk.moment g.D.Disk.left_since g.D.Disk.failures (λ (done : ℕ × Option ℕ). reply.Alone done.0 done.1) (λ fails. alone (outcome_of settings fails w.upkeep) session c.args.change.now w.visible) w c.args.engine.now c.change_alone.new.self false c.replied.result (c.in-Ok.count, c.in-Ok.number)
    c.replied.ensures.forced c.replied.ensures.reply (c.in-Ok.ensures.case session w settings inside free limit stands) (record { logs = c.in-Ok.ensures.log session w settings inside free limit stands; later = c.in-Ok.ensures.later }) (λ fails. absurd cc)

pub returns-in-Err-clause-case : goal.returns-in-Err-clause-case
returns-in-Err-clause-case g c = λ session w settings inside free limit stands.
    let e = c.in-Err.fault in
    answers_refused g.D.Disk.seen g.D.Disk.may_leave g.D.Disk.moment g.D.Disk.left_since g.D.Disk.failures (λ (done : ℕ × Option ℕ). reply.Alone done.0 done.1) (λ fails. alone (outcome_of settings fails w.upkeep) session c.args.change.now w.visible) w c.args.engine.now c.change_alone.new.self (blames_disk e)
    c.refusal.result (alone_fault e) (subst (λ (f : Option Fault). IsRefusal f c.refusal.result) c.fault_of_alone.ensures c.refusal.ensures) (c.in-Err.ensures.case session w settings inside free limit stands)
    (c.in-Err.ensures.log session w settings inside free limit stands) c.in-Err.ensures.later (λ is. c.in-Err.ensures.cause (errs e _ (alone_store e is))) (λ none. c.in-Err.ensures.untouched (alone_other e none))
