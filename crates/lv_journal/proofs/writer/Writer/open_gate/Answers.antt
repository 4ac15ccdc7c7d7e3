use Rattle.std.proofs.Common.{◌+◌, refl, sym, ap, Some, ℕ}
use Rattle.lv_journal.proofs.Standing.{doubt_stays, doubt_leaves, opened_now}
use Rattle.lv_journal.proofs.Steps.{on_err}
use Rattle.lv_journal.proofs.writer.Writer.open_gate.Goals as goal

pub returns-in_err-write_through-clause-failed : goal.returns-in_err-write_through-clause-failed
returns-in_err-write_through-clause-failed g c ps p s =
    on_err _ _ (doubt_stays g.D.Disk.seen g.D.Disk.may_leave g.D.Disk.moment g.D.Disk.left_since c.args.self.now _ ps (Some p) s s.marked refl s.marked c.write_through.ensures.passes)

pub returns-in_err-write_through-clause-images : goal.returns-in_err-write_through-clause-images
returns-in_err-write_through-clause-images g c ps p s =
    doubt_leaves g.D.Disk.seen g.D.Disk.may_leave g.D.Disk.moment g.D.Disk.left_since c.args.self.now _ ps (Some p) (g.met.D.Disk.only_now c.args.self.now.disk) s s.marked c.write_through.ensures.passes

pub returns-clause-ok : goal.returns-clause-ok
returns-clause-ok g c ps p s is =
    opened_now g.D.Disk.seen g.D.Disk.may_leave c.args.self.now _ ps p s (ap (λ (n : ℕ). c.args.self.now.gate + (n + 5)) (sym is)) refl c.in_ok-write_through.ensures.written c.in_ok-write_through.ensures.durable

pub returns-clause-images : goal.returns-clause-images
returns-clause-images g c ps p s =
    doubt_leaves g.D.Disk.seen g.D.Disk.may_leave g.D.Disk.moment g.D.Disk.left_since c.args.self.now _ ps (Some p) (g.met.D.Disk.only_now c.args.self.now.disk) s s.marked c.write_through.ensures.passes
