use Rattle.std.proofs.Common.{⊎_elim, inl, inr, ◌+◌, length, refl, sym, subst, ℕ, arith}
use Rattle.std.proofs.lemmas.Result.{on_err_weaker}
use Rattle.lv_outside.specs.Images.{HasRoom}
use Rattle.lv_journal.specs.Bytes.{Closed, Staged}
use Rattle.lv_journal.specs.Standing.{Keeps, RecordsOr}
use Rattle.lv_journal.proofs.Steps.{room_from, on_err, weaker, goes_on}
use Rattle.lv_journal.proofs.Meaning.{keeps_means, closed_means, staged_means}
use Rattle.lv_journal.proofs.writer.Writer.put.Goals as goal

pub close_doubt-requires-clause-room : goal.close_doubt-requires-clause-room
close_doubt-requires-clause-room g c =
    let n = length c.args.payload.now in
    room_from _ 6 (n + 7) (c.args.self.now.gate + n + 6) 1 1 (c.args.self.now.gate + 1) 5 (n + 6) c.requires.reserved.room refl (omega arith) (omega arith)

pub returns-in_err-close_doubt-clause-failed : goal.returns-in_err-close_doubt-clause-failed
returns-in_err-close_doubt-clause-failed g c ps q s = on_err _ _ (inl (c.in_err-close_doubt.ensures.failed ps q s))

pub returns-in_err-close_doubt-clause-images : goal.returns-in_err-close_doubt-clause-images
returns-in_err-close_doubt-clause-images g c ps q s =
    weaker g.D.Disk.moment g.D.Disk.left_since _ _ (Keeps ps q) _ (λ d k. keeps_means ps q c.args.payload.now d s.payloads s.doubtful k) (c.close_doubt.ensures.images ps q s)

pub write_behind-requires-clause-standing : goal.write_behind-requires-clause-standing
write_behind-requires-clause-standing g c =
    let it = c.requires.standing in (it.0, c.in_ok-close_doubt.ensures.ok it.0 it.1 it.2)

pub write_behind-requires-clause-room : goal.write_behind-requires-clause-room
write_behind-requires-clause-room g c =
    let n = length c.args.payload.now in
    let gate = c.args.self.now.gate in
    let before : HasRoom (g.D.Disk.ready c.args.self.now.disk) 3 ((n + 6) + 1) (gate + n + 6) = room_from _ 6 (n + 7) (gate + n + 6) 3 ((n + 6) + 1) (gate + n + 6) 3 0 c.requires.reserved.room refl (omega arith) (omega arith) in
    let after = c.close_doubt.ensures.room (n + 6) (gate + n + 6) (omega arith) before in
    subst (λ (k : ℕ). HasRoom (g.D.Disk.ready c.close_doubt.new.self.disk) 2 (n + 6) (k + n + 6)) (sym c.close_doubt.ensures.gate) after

pub returns-in_err-write_behind-clause-failed : goal.returns-in_err-write_behind-clause-failed
returns-in_err-write_behind-clause-failed g c ps q s =
    on_err _ _ (inr (inl (c.in_err-write_behind.ensures.failed ps (c.in_ok-close_doubt.ensures.ok ps q s))))

pub returns-in_err-write_behind-clause-images : goal.returns-in_err-write_behind-clause-images
returns-in_err-write_behind-clause-images g c ps q s =
    let P = RecordsOr ps q c.args.payload.now in
    let first = weaker g.D.Disk.moment g.D.Disk.left_since _ _ (Keeps ps q) P (λ d k. keeps_means ps q c.args.payload.now d s.payloads s.doubtful k) (c.close_doubt.ensures.images ps q s) in
    let second = weaker g.D.Disk.moment g.D.Disk.left_since _ _ (Closed ps) P (λ d k. inl (closed_means ps d s.payloads k)) (c.write_behind.ensures.images ps (c.in_ok-close_doubt.ensures.ok ps q s)) in
    goes_on g.D.Disk.moment g.D.Disk.left_since _ _ _ P first second

pub open_gate-requires-clause-standing : goal.open_gate-requires-clause-standing
open_gate-requires-clause-standing g c =
    let it = c.requires.standing in
    (it.0, c.args.payload.now, c.in_ok-write_behind.ensures.ok it.0 (c.in_ok-close_doubt.ensures.ok it.0 it.1 it.2))

pub returns-clause-ok : goal.returns-clause-ok
returns-clause-ok g c ps q s =
    c.open_gate.ensures.ok ps c.args.payload.now (c.in_ok-write_behind.ensures.ok ps (c.in_ok-close_doubt.ensures.ok ps q s)) refl

pub returns-clause-failed : goal.returns-clause-failed
returns-clause-failed g c ps q s =
    on_err_weaker c.open_gate.result (λ h. inr (inr h)) (c.open_gate.ensures.failed ps c.args.payload.now (c.in_ok-write_behind.ensures.ok ps (c.in_ok-close_doubt.ensures.ok ps q s)))

pub returns-clause-images : goal.returns-clause-images
returns-clause-images g c ps q s =
    let p = c.args.payload.now in
    let P = RecordsOr ps q p in
    let closed = c.in_ok-close_doubt.ensures.ok ps q s in
    let staged = c.in_ok-write_behind.ensures.ok ps closed in
    let first = weaker g.D.Disk.moment g.D.Disk.left_since _ _ (Keeps ps q) P (λ d k. keeps_means ps q p d s.payloads s.doubtful k) (c.close_doubt.ensures.images ps q s) in
    let second = weaker g.D.Disk.moment g.D.Disk.left_since _ _ (Closed ps) P (λ d k. inl (closed_means ps d s.payloads k)) (c.write_behind.ensures.images ps closed) in
    let third = weaker g.D.Disk.moment g.D.Disk.left_since _ _ (Staged ps p) P (λ d k. ⊎_elim (λ h. inl h) (λ h. inr (inr h)) (staged_means ps p d s.payloads staged.doubtful k)) (c.open_gate.ensures.images ps p staged) in
    goes_on g.D.Disk.moment g.D.Disk.left_since _ _ _ P (goes_on g.D.Disk.moment g.D.Disk.left_since _ _ _ P first second) third
