use Rattle.std.proofs.Common.{sym}
use Rattle.lv_runner.proofs.Rounds.{turned_if}
use Rattle.lv_runner.proofs.answering.answer_one.Goals as goal

pub returns-clause-turned : goal.returns-clause-turned
returns-clause-turned g c =
    turned_if g.D.Disk.seen g.D.Disk.may_leave g.D.Disk.moment g.D.Disk.left_since g.D.Disk.failures c.args.session c.args.core.now.run c.turn.new.self.run c.turn.result c.known.ensures.run c.requires.known
    (sym c.if-not-left.ensures) c.turn.ensures.done
