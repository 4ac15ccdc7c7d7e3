use Rattle.std.proofs.Common.{refl}
use Rattle.lv_journal.proofs.Standing.{doubt_stays, doubt_leaves, closed_now}
use Rattle.lv_journal.proofs.Steps.{room_left, room_for, on_err}
use Rattle.std.proofs.Common.{◌+◌, arith}
use Rattle.lv_journal.proofs.writer.Writer.close_doubt.Goals as goal

pub returns-in_err-write_through-clause-failed : goal.returns-in_err-write_through-clause-failed
returns-in_err-write_through-clause-failed g c ps q s =
    on_err _ _ (doubt_stays g.D.Disk.seen g.D.Disk.may_leave g.D.Disk.moment g.D.Disk.left_since c.args.self.now _ ps q s c.if-self.true refl c.if-self.true c.write_through.ensures.passes)

pub returns-in_err-write_through-clause-images : goal.returns-in_err-write_through-clause-images
returns-in_err-write_through-clause-images g c ps q s =
    doubt_leaves g.D.Disk.seen g.D.Disk.may_leave g.D.Disk.moment g.D.Disk.left_since c.args.self.now _ ps q (g.met.D.Disk.only_now c.args.self.now.disk) s c.if-self.true c.write_through.ensures.passes

pub returns-in_err-write_through-clause-room : goal.returns-in_err-write_through-clause-room
returns-in_err-write_through-clause-room g c n last le h = room_left _ _ 2 n last 1 1 _ c.write_through.ensures.room h le

pub returns-in_ok-write_through-clause-ok : goal.returns-in_ok-write_through-clause-ok
returns-in_ok-write_through-clause-ok g c ps q s =
    closed_now g.D.Disk.seen g.D.Disk.may_leave c.args.self.now _ ps q s c.if-self.true refl refl c.in_ok-write_through.ensures.written c.in_ok-write_through.ensures.durable

pub returns-in_ok-write_through-clause-images : goal.returns-in_ok-write_through-clause-images
returns-in_ok-write_through-clause-images g c ps q s =
    doubt_leaves g.D.Disk.seen g.D.Disk.may_leave g.D.Disk.moment g.D.Disk.left_since c.args.self.now _ ps q (g.met.D.Disk.only_now c.args.self.now.disk) s c.if-self.true c.write_through.ensures.passes

pub returns-in_ok-write_through-clause-room : goal.returns-in_ok-write_through-clause-room
returns-in_ok-write_through-clause-room g c n last le h = room_left _ _ 2 n last 1 1 _ c.write_through.ensures.room h le

pub returns-else-self-clause-room : goal.returns-else-self-clause-room
returns-else-self-clause-room g c n last le h = room_for _ 3 (n + 1) last 2 n last h (omega arith) (omega arith) (omega arith)
