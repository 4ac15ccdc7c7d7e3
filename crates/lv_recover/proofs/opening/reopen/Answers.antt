use Rattle.std.proofs.Common.{◌≡◌, ◌⊎◌, ◌<◌, ◌++◌, ◌∷◌, [], ℕ, Some, List, inr, length, ◌∙◌}
use Rattle.std.specs.Prelude.{IfSome}
use Rattle.lv_journal.specs.Bytes.{magic}
use Rattle.lv_journal.specs.declared.fault.JFault.TheVariants.{Bad, NoMemory}
use Rattle.lv_journal.proofs.Reading.{some_goes}
use Rattle.lv_outside.specs.Images.{NoMore}
use Rattle.lv_schema.specs.declared.rec.Rec.{Rec}
use Rattle.lv_store.specs.Kept.{kept}
use Rattle.lv_engine.specs.Fresh.{IsFresh}
use Rattle.lv_engine.specs.Kept.{length_of}
use Rattle.lv_recover.specs.Opening.{BadAt, IsBadBehind}
use Rattle.lv_recover.specs.Reopened.{IsFreshAt, IsMadeOf, IsReopened}
use Rattle.lv_recover.proofs.Told.{err_goes, err_meets, ok_goes, ok_is}
use Rattle.lv_recover.proofs.Whole.{bad_told, reopened_of, stays_told}
use Rattle.lv_recover.proofs.opening.reopen.Goals as goal

pub returns-in-Ok-clause-opened : goal.returns-in-Ok-clause-opened
returns-in-Ok-clause-opened g c =
    let seen = g.D.Disk.seen in
    let told = seen c.args.disk in
    let new = ok_is (λ r. told ≡ Some [] → seen r.disk ≡ Some (magic ++ 0 ∷ [])) c.attach.result c.in-Ok.reader c.in-Ok.is c.attach.ensures.new in
    let same = ok_is (λ r. IfSome told (λ f. 0 < length f → seen r.disk ≡ Some f)) c.attach.result c.in-Ok.reader c.in-Ok.is c.attach.ensures.same in
    ok_goes (λ e. (recs : List Rec) × IsMadeOf seen g.D.Disk.may_leave (seen c.in-Ok.reader.disk) recs e) (λ e. (recs : List Rec) × IsReopened seen g.D.Disk.may_leave told recs e) c.load.result
    (λ e made. (made.0, reopened_of seen g.D.Disk.may_leave told (seen c.in-Ok.reader.disk) new same made.0 e made.1)) c.load.ensures.made

pub returns-in-Ok-clause-fresh : goal.returns-in-Ok-clause-fresh
returns-in-Ok-clause-fresh g c = ok_goes (λ e. IsFreshAt e.store) (λ e. IsFresh (kept (length_of e.journal) e.store)) c.load.result (λ e fresh. fresh (length_of e.journal)) c.load.ensures.fresh

pub returns-in-Ok-clause-bad : goal.returns-in-Ok-clause-bad
returns-in-Ok-clause-bad g c = λ offset.
    let seen = g.D.Disk.seen in
    let told = seen c.args.disk in
    let new = ok_is (λ r. told ≡ Some [] → seen r.disk ≡ Some (magic ++ 0 ∷ [])) c.attach.result c.in-Ok.reader c.in-Ok.is c.attach.ensures.new in
    let same = ok_is (λ r. IfSome told (λ f. 0 < length f → seen r.disk ≡ Some f)) c.attach.result c.in-Ok.reader c.in-Ok.is c.attach.ensures.same in
    err_goes (λ r. r.cause ≡ Bad offset → IfSome (seen c.in-Ok.reader.disk) (λ bytes. (recs : List Rec) × IsBadBehind bytes recs offset)) (λ r. r.cause ≡ Bad offset → IfSome told (λ bytes. BadAt bytes offset)) c.load.result
    (λ r bad is. bad_told told (seen c.in-Ok.reader.disk) new same offset (bad is)) (c.load.ensures.bad offset)

pub returns-in-Ok-clause-stays : goal.returns-in-Ok-clause-stays
returns-in-Ok-clause-stays g c = λ offset.
    let seen = g.D.Disk.seen in
    let told = seen c.args.disk in
    let new = ok_is (λ r. told ≡ Some [] → seen r.disk ≡ Some (magic ++ 0 ∷ [])) c.attach.result c.in-Ok.reader c.in-Ok.is c.attach.ensures.new in
    let same = ok_is (λ r. IfSome told (λ f. 0 < length f → seen r.disk ≡ Some f)) c.attach.result c.in-Ok.reader c.in-Ok.is c.attach.ensures.same in
    err_meets (λ r. seen r.disk ≡ seen c.in-Ok.reader.disk) (λ r. r.cause ≡ Bad offset → IfSome (seen c.in-Ok.reader.disk) (λ bytes. (recs : List Rec) × IsBadBehind bytes recs offset))
    (λ r. r.cause ≡ Bad offset → IfSome told (λ bytes. seen r.disk ≡ Some bytes)) c.load.result (λ r is bad at. stays_told told (seen c.in-Ok.reader.disk) new same offset (seen r.disk) is (bad at))
    c.load.ensures.bytes (c.load.ensures.bad offset)

pub returns-in-Ok-clause-left : goal.returns-in-Ok-clause-left
returns-in-Ok-clause-left g c =
    let seen = g.D.Disk.seen in
    let told = seen c.args.disk in
    let same = ok_is (λ r. IfSome told (λ f. 0 < length f → seen r.disk ≡ Some f)) c.attach.result c.in-Ok.reader c.in-Ok.is c.attach.ensures.same in
    err_goes (λ r. seen r.disk ≡ seen c.in-Ok.reader.disk) (λ r. IfSome told (λ f. 0 < length f → seen r.disk ≡ Some f)) c.load.result
    (λ r is. some_goes (λ (f : List ℕ). 0 < length f → seen c.in-Ok.reader.disk ≡ Some f) (λ (f : List ℕ). 0 < length f → seen r.disk ≡ Some f) told (λ f there some. is ∙ there some) same) c.load.ensures.bytes

pub returns-in-Ok-clause-no_more : goal.returns-in-Ok-clause-no_more
returns-in-Ok-clause-no_more g c =
    let seen = g.D.Disk.seen in
    let may_leave = g.D.Disk.may_leave in
    let told = seen c.args.disk in
    let none = ok_is (λ r. IfSome told (λ f. 0 < length f → NoMore (may_leave c.args.disk) (may_leave r.disk))) c.attach.result c.in-Ok.reader c.in-Ok.is c.attach.ensures.crash in
    err_goes (λ r. NoMore (may_leave c.in-Ok.reader.disk) (may_leave r.disk)) (λ r. IfSome told (λ f. 0 < length f → NoMore (may_leave c.args.disk) (may_leave r.disk))) c.load.result
    (λ r is. some_goes (λ (f : List ℕ). 0 < length f → NoMore (may_leave c.args.disk) (may_leave c.in-Ok.reader.disk)) (λ (f : List ℕ). 0 < length f → NoMore (may_leave c.args.disk) (may_leave r.disk)) told (λ f there some image left. there some image (is image left)) none) c.load.ensures.crash

pub returns-in-Ok-clause-begun : goal.returns-in-Ok-clause-begun
returns-in-Ok-clause-begun g c =
    let seen = g.D.Disk.seen in
    let told = seen c.args.disk in
    let new = ok_is (λ r. told ≡ Some [] → seen r.disk ≡ Some (magic ++ 0 ∷ [])) c.attach.result c.in-Ok.reader c.in-Ok.is c.attach.ensures.new in
    err_goes (λ r. seen r.disk ≡ seen c.in-Ok.reader.disk) (λ r. r.cause ≡ NoMemory → told ≡ Some [] → (seen r.disk ≡ Some []) ⊎ (seen r.disk ≡ Some (magic ++ 0 ∷ []))) c.load.result
    (λ r is cause empty. inr (is ∙ new empty)) c.load.ensures.bytes
