use Rattle.std.proofs.Common.{refl}
use Rattle.lv_schema.specs.Cases.{rolled_back}
use Rattle.lv_plain.specs.declared.entry.Reply.TheVariants as reply
use Rattle.lv_core.proofs.CaseAnswers.{gives_quiet}
use Rattle.lv_core.proofs.Standing.{same_journal}
use Rattle.lv_core.proofs.answering.roll_back.Goals as goal

pub returns-clause-case : goal.returns-clause-case
returns-clause-case g c = λ w stands.
    gives_quiet g.D.Disk.seen g.D.Disk.may_leave g.D.Disk.moment g.D.Disk.left_since g.D.Disk.failures {A = Unit {0}} (λ _. reply.RolledBack) (rolled_back c.args.session w.visible) w c.args.engine.now c.rollback.new.self c.replied.result tt c.replied.ensures.forced c.replied.ensures.reply refl refl
    (same_journal c.args.engine.now c.rollback.new.self _ c.rollback.ensures.others) (refl, c.rollback.ensures.case w stands)
