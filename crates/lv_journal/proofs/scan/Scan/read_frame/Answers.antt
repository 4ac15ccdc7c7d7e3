use Rattle.std.proofs.Common.{◌≡◌, ◌+◌, List, ℕ, length, take, drop, refl, subst, arith, Option, Some, slice_get}
use Rattle.std.specs.Prelude.{IfSome}
use Rattle.lv_journal.specs.Bytes.{records_of, Begins}
use Rattle.lv_journal.specs.Reading.{OpensAt}
use Rattle.lv_journal.proofs.Reading.{frame_read, next_here, some_meets}
use Rattle.lv_journal.proofs.scan.Scan.read_frame.Goals as goal

pub returns-in-Some-clause-read : goal.returns-in-Some-clause-read
returns-in-Some-clause-read g c ps s =
    let p = c.in-Some.payload in
    let count = c.args.count in
    let size : length p ≡ count = subst (λ (o : Option (List ℕ)). IfSome o (λ l. length l ≡ count)) c.in-Some.is c.in_ok-payload.ensures.whole in
    let given : IfSome (g.D.Disk.seen c.args.self.now.disk) (λ f. p ≡ take count (drop (c.args.self.now.gate + 5) f)) = subst (λ (o : Option (List ℕ)). IfSome o (λ l. IfSome (g.D.Disk.seen c.args.self.now.disk) (λ f. l ≡ take count (drop (c.args.self.now.gate + 5) f)))) c.in-Some.is c.in_ok-payload.ensures.told in
    frame_read g.D.Disk.seen g.D.Disk.may_leave c.args.self.now _ ps p count s c.requires.some (omega arith) c.requires.fits c.requires.open size given c.read_payload.ensures.bytes c.read_payload.ensures.crash refl refl refl

pub returns-in-Some-clause-exact : goal.returns-in-Some-clause-exact
returns-in-Some-clause-exact g c ps s =
    let p = c.in-Some.payload in
    let count = c.args.count in
    let gate = c.args.self.now.gate in
    let seen = g.D.Disk.seen c.args.self.now.disk in
    let given : IfSome seen (λ f. p ≡ take count (drop (gate + 5) f)) = subst (λ (o : Option (List ℕ)). IfSome o (λ l. IfSome seen (λ f. l ≡ take count (drop (gate + 5) f)))) c.in-Some.is c.in_ok-payload.ensures.told in
    some_meets (Begins ps) (λ f. OpensAt gate count f × (p ≡ take count (drop (gate + 5) f))) (λ f. slice_get (records_of f) (length ps) ≡ Some p) seen (λ f b both. next_here ps p f gate count s.payloads b s.place both.0 both.1) s.told
    (some_meets (OpensAt gate count) (λ f. p ≡ take count (drop (gate + 5) f)) (λ f. OpensAt gate count f × (p ≡ take count (drop (gate + 5) f))) seen (λ f o g. (o, g)) c.requires.open given)
