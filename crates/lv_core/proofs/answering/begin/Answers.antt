use Rattle.std.proofs.Common.{refl, sym}
use Rattle.lv_schema.specs.Cases.{began}
use Rattle.lv_plain.specs.declared.entry.Reply.TheVariants as reply
use Rattle.lv_core.proofs.CaseAnswers.{gives_quiet}
use Rattle.lv_core.proofs.Standing.{same_journal}
use Rattle.lv_core.proofs.answering.begin.Goals as goal

pub returns-clause-case : goal.returns-clause-case
returns-clause-case g c = λ w stands.
    let h = c.begin-snapshot.ensures.case w stands in
    gives_quiet g.D.Disk.seen g.D.Disk.may_leave g.D.Disk.moment g.D.Disk.left_since g.D.Disk.failures (λ n. reply.Began n) (began c.args.session w.visible) w c.args.engine.now c.begin-snapshot.new.self c.replied.result c.begin-snapshot.result c.replied.ensures.forced c.replied.ensures.reply refl refl
    (same_journal c.args.engine.now c.begin-snapshot.new.self _ c.begin-snapshot.ensures.others) (sym h.0, h.1)
