use Rattle.std.proofs.Common.{◌≡◌, ◌+◌, ◌++◌, [], ◌∷◌, length, drop, refl, ◌∙◌, ap, subst, List, ℕ, arith, length-append}
use Rattle.lv_outside.specs.Images.{Told, Holds}
use Rattle.lv_journal.specs.Bytes.{frame}
use Rattle.lv_journal.proofs.Standing.{behind_stays, behind_leaves, staged_now}
use Rattle.lv_journal.proofs.Steps.{room_for, on_err}
use Rattle.lv_journal.proofs.writer.Writer.write_behind.Goals as goal

pub write_through-requires-clause-room : goal.write_through-requires-clause-room
write_through-requires-clause-room g c =
    let n = length c.args.payload.now in
    let whole : length c.fill.new.self.bytes ≡ n + 6 = ap length c.fill.ensures ∙ (length-append (1 ∷ frame c.args.payload.now) (0 ∷ []) ∙ omega arith) in
    let size = c.tail.ensures.size in
    room_for _ 2 (n + 6) (c.args.self.now.gate + n + 6) 1 (length c.tail.result.now) _ c.requires.room (omega arith) (omega (arith, size, whole)) (omega (arith, size, whole))

pub returns-in_err-write_through-clause-failed : goal.returns-in_err-write_through-clause-failed
returns-in_err-write_through-clause-failed g c ps s =
    on_err _ _ (behind_stays g.D.Disk.seen g.D.Disk.may_leave g.D.Disk.moment g.D.Disk.left_since c.args.self.now _ ps _ s refl refl c.write_through.ensures.passes)

pub returns-in_err-write_through-clause-images : goal.returns-in_err-write_through-clause-images
returns-in_err-write_through-clause-images g c ps s =
    behind_leaves g.D.Disk.seen g.D.Disk.may_leave g.D.Disk.moment g.D.Disk.left_since c.args.self.now _ ps _ (g.met.D.Disk.only_now c.args.self.now.disk) s c.write_through.ensures.passes

pub returns-clause-ok : goal.returns-clause-ok
returns-clause-ok g c ps s =
    let piece : c.tail.result.now ≡ frame c.args.payload.now ++ 0 ∷ [] = c.tail.ensures.bytes ∙ ap (λ (l : List ℕ). drop 1 l) c.fill.ensures in
    let told = subst (λ (l : List ℕ). Told (Holds (c.args.self.now.gate + 1) l) (g.D.Disk.seen c.args.self.now.disk) (g.D.Disk.seen c.write_through.new.disk)) piece c.in_ok-write_through.ensures.written in
    staged_now g.D.Disk.seen g.D.Disk.may_leave c.args.self.now _ ps c.args.payload.now s (record { some = c.requires.some; fits = c.requires.short }) refl refl told c.in_ok-write_through.ensures.durable

pub returns-clause-images : goal.returns-clause-images
returns-clause-images g c ps s =
    behind_leaves g.D.Disk.seen g.D.Disk.may_leave g.D.Disk.moment g.D.Disk.left_since c.args.self.now _ ps _ (g.met.D.Disk.only_now c.args.self.now.disk) s c.write_through.ensures.passes
