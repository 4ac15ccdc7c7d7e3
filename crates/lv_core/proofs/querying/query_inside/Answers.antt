use Rattle.std.proofs.Common.{refl}
use Rattle.lv_core.proofs.CaseAnswers.{gives_query, undone_same}
use Rattle.lv_core.proofs.querying.query_inside.Goals as goal

pub returns-in-Ok-clause-case : goal.returns-in-Ok-clause-case
returns-in-Ok-clause-case g c = λ w settings combines stands.
    gives_query g.D.Disk.seen g.D.Disk.may_leave g.D.Disk.moment g.D.Disk.left_since g.D.Disk.failures settings c.args.session c.args.query.now w c.args.engine.now c.query.new.self c.in-Ok.answer _ refl refl c.in-Ok.ensures.journal (c.in-Ok.ensures.done w settings combines stands)

pub returns-in-Err-clause-case : goal.returns-in-Err-clause-case
returns-in-Err-clause-case g c = λ w settings combines stands. undone_same g.D.Disk.seen g.D.Disk.may_leave g.D.Disk.moment g.D.Disk.left_since g.D.Disk.failures c.args.engine.now c.query.new.self c.in-Err.ensures.refused
