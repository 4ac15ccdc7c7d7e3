use Rattle.std.proofs.Common.{◌≡◌, map, Ok, Err, Some, true, false, ◌+◌, ◌++◌, ◌∷◌, [], ℕ, List, length}
use Rattle.std.specs.Prelude.{IfSome, slice_get}
use Rattle.std.proofs.lemmas.Result.{err_from_is_err_and}
use Rattle.lv_journal.specs.Bytes.{records_of}
use Rattle.lv_journal.specs.Reading.{IsRead}
use Rattle.lv_journal.specs.declared.fault.JFault.TheVariants.{Bad}
use Rattle.lv_record.specs.Spelling.{spelling}
use Rattle.lv_recover.proofs.Told.{cut_told, ok_some, read_more, refused_told}
use Rattle.lv_recover.proofs.reading.read_one.Goals as goal

pub returns-in_err-payload-clause-bad : goal.returns-in_err-payload-clause-bad
returns-in_err-payload-clause-bad g c = λ recs offset h is.
    let p = err_from_is_err_and c.from_residual.result c.from_residual.ensures.1 in
    let was : c.next.result ≡ Err (Bad offset) = cc (c.in_err-payload.was, p.1, p.2, is) in
    cut_told g.D.Disk.seen g.D.Disk.may_leave recs offset c.args.reader.now c.args.loading.now h (c.next.ensures.bad (map spelling recs) offset h.read was)

pub returns-then-branch-clause-more : goal.returns-then-branch-clause-more
returns-then-branch-clause-more g c = λ recs h is.
    let given : c.next.result ≡ Ok (Some c.as_slice.result.now) = cc (c.in_ok-payload.was, c.in-Some.is, c.as_slice.ensures) in
    let was : c.take.result ≡ Ok true = cc (c.in_ok-take-in-Some.was, c.if-branch.true) in
    let made = c.take.ensures.taken recs h.loads was in
    let read : IsRead g.D.Disk.seen g.D.Disk.may_leave c.next.new.self (map spelling recs ++ c.as_slice.result.now ∷ []) =
    ok_some (λ (p : List ℕ). IsRead g.D.Disk.seen g.D.Disk.may_leave c.next.new.self (map spelling recs ++ p ∷ [])) c.next.result c.as_slice.result.now given (c.next.ensures.read (map spelling recs) h.read) in
    (made.0, read_more g.D.Disk.seen g.D.Disk.may_leave recs made.0 c.as_slice.result.now c.next.new.self c.take.new.loading h.spelled read made.1 made.2)

pub returns-else-branch-clause-bad : goal.returns-else-branch-clause-bad
returns-else-branch-clause-bad g c = λ recs offset h is.
    let given : c.next.result ≡ Ok (Some c.as_slice.result.now) = cc (c.in_ok-payload.was, c.in-Some.is, c.as_slice.ensures) in
    let was : c.take.result ≡ Ok false = cc (c.in_ok-take-in-Some.was, c.if-branch.false) in
    let there = ok_some (λ (p : List ℕ). c.next.new.self.place ≡ c.args.reader.now.gate + 1) c.next.result c.as_slice.result.now given c.next.ensures.place in
    let place : offset ≡ c.args.reader.now.gate + 1 = cc (is, c.place.ensures, there) in
    let next = ok_some (λ (p : List ℕ). IfSome (g.D.Disk.seen c.args.reader.now.disk) (λ bytes. slice_get (records_of bytes) (length (map spelling recs)) ≡ Some p)) c.next.result c.as_slice.result.now given (c.next.ensures.exact (map spelling recs) h.read) in
    refused_told g.D.Disk.seen g.D.Disk.may_leave recs c.as_slice.result.now offset c.args.reader.now c.args.loading.now h next (c.take.ensures.refused recs h.loads was) place
