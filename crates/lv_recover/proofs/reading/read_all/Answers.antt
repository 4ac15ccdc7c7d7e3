use Rattle.std.proofs.Common.{◌≡◌, Err, ℕ, List, Option, subst}
use Rattle.std.specs.Prelude.{IfSome}
use Rattle.std.proofs.lemmas.Result.{err_from_is_err_and}
use Rattle.lv_journal.specs.declared.fault.JFault.TheVariants.{Bad}
use Rattle.lv_journal.proofs.Reading.{some_goes}
use Rattle.lv_schema.specs.declared.rec.Rec.{Rec}
use Rattle.lv_recover.specs.Opening.{IsBadBehind}
use Rattle.lv_recover.proofs.reading.read_all.Goals as goal

pub returns-in_err-read_one-clause-bad : goal.returns-in_err-read_one-clause-bad
returns-in_err-read_one-clause-bad g c = λ offset is.
    let p = err_from_is_err_and c.from_residual.result c.from_residual.ensures.1 in
    let was : c.read_one.result ≡ Err (Bad offset) = cc (c.in_err-read_one.was, p.1, p.2, is) in
    let read = c.loop.invariant.read in
    subst (λ (told : Option (List ℕ)). IfSome told (λ bytes. (recs : List Rec) × IsBadBehind bytes recs offset)) c.loop.invariant.bytes
    (some_goes (λ bytes. IsBadBehind bytes read.0 offset) (λ bytes. (recs : List Rec) × IsBadBehind bytes recs offset) (g.D.Disk.seen c.loop.reader.disk) (λ bytes bad. (read.0, bad)) (c.read_one.ensures.bad read.0 offset read.1 was))
