use Rattle.std.proofs.Common.{false, subst}
use Rattle.std.specs.Prelude.{Option}
use Rattle.lv_schema.specs.declared.fault.Fault.{Fault}
use Rattle.lv_schema.specs.Cases.{changed}
use Rattle.lv_plain.specs.declared.entry.Reply.TheVariants as reply
use Rattle.lv_store.specs.Answering.{effect_fault}
use Rattle.lv_core.specs.Answering.{IsRefusal}
use Rattle.lv_core.proofs.CaseAnswers.{answers_refused, gives_quiet, journals_same, refused_quiet, unattempted, untouched_same, unwritten}
use Rattle.lv_core.proofs.Standing.{same_journal}
use Rattle.lv_core.proofs.changing.change_inside.Goals as goal

pub returns-in-Ok-clause-case : goal.returns-in-Ok-clause-case
returns-in-Ok-clause-case g c = λ w stands.
    gives_quiet g.D.Disk.seen g.D.Disk.may_leave g.D.Disk.moment g.D.Disk.left_since g.D.Disk.failures (λ n. reply.Changed n) (changed c.args.session c.args.change.now w.visible) w c.args.engine.now c.change.new.self c.replied.result c.in-Ok.count c.replied.ensures.forced c.replied.ensures.reply
    (unattempted c.args.session c.args.change.now w.visible) (unwritten c.args.session c.args.change.now w.visible) (same_journal c.args.engine.now c.change.new.self _ c.in-Ok.ensures.others) (c.in-Ok.ensures.case w stands)

pub returns-in-Err-clause-case : goal.returns-in-Err-clause-case
returns-in-Err-clause-case g c = λ w stands.
    let e = c.in-Err.fault in
    let old = c.args.engine.now in
    let new = c.change.new.self in
    let made = changed c.args.session c.args.change.now w.visible in
    let same = same_journal old new _ c.in-Err.ensures.others in
    answers_refused g.D.Disk.seen g.D.Disk.may_leave g.D.Disk.moment g.D.Disk.left_since g.D.Disk.failures (λ n. reply.Changed n) (λ _. made) w old new false c.refusal.result (effect_fault e)
    (subst (λ (f : Option Fault). IsRefusal f c.refusal.result) c.fault_of_change.ensures c.refusal.ensures) (c.in-Err.ensures.case w stands)
    (refused_quiet g.D.Disk.seen g.D.Disk.may_leave g.D.Disk.moment g.D.Disk.left_since g.D.Disk.failures (effect_fault e) made old.journal new.journal same (unattempted c.args.session c.args.change.now w.visible) (unwritten c.args.session c.args.change.now w.visible))
    (journals_same g.D.Disk.seen g.D.Disk.may_leave g.D.Disk.moment g.D.Disk.left_since g.D.Disk.failures old.journal new.journal same).later (λ fails. absurd cc)
    (λ none. untouched_same g.D.Disk.seen g.D.Disk.may_leave g.D.Disk.moment g.D.Disk.left_since g.D.Disk.failures old.journal new.journal same)
