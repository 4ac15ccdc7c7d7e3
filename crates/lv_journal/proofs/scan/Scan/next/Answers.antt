use Rattle.std.proofs.Common.{◌≡◌, ◌+◌, ◌-◌, ◌∷◌, List, ℕ, take, drop, refl, sym, subst, ap, w32, Option, Some, None}
use Rattle.std.specs.Prelude.{IfSome}
use Rattle.std.specs.Int.{to_le_bytes}
use Rattle.lv_journal.specs.declared.found.Found.TheVariants.{Missing, Shut, Broken, Open}
use Rattle.lv_journal.specs.Bytes.{found_at, records_of, bad_place, Begins}
use Rattle.lv_journal.specs.Reading.{OpensAt}
use Rattle.lv_journal.proofs.Reading.{ends_here, looked, some_meets}
use Rattle.lv_journal.proofs.scan.Scan.next.Goals as goal

pub read_frame-requires-clause-open : goal.read_frame-requires-clause-open
read_frame-requires-clause-open g c =
    let s = c.requires.standing.1 in
    let gate = c.args.self.now.gate in
    let count = c.in-Open.count in
    let seen = g.D.Disk.seen c.args.self.now.disk in
    let at = looked seen gate (c.args.self.now.size - gate) c.args.self.now.size c.in_ok-look.field-0 (Open count) refl c.in-Open.is s.size c.in_ok-look.ensures.told in
    let opens = some_meets (λ f. found_at (drop gate f) ≡ Open count) (λ f. take 5 (drop gate f) ≡ 1 ∷ to_le_bytes w32 count) (OpensAt gate count) seen (λ f a h. record { found = a; head = h }) at (c.in_ok-look.ensures.spelled count c.in-Open.is) in
    subst (λ (v : Option (List ℕ)). IfSome v (OpensAt gate count)) (sym c.look.ensures.bytes) opens

pub returns-in-Missing-clause-bad : goal.returns-in-Missing-clause-bad
returns-in-Missing-clause-bad g c ps offset s is =
    let gate = c.args.self.now.gate in
    let seen = g.D.Disk.seen c.args.self.now.disk in
    let same : gate ≡ offset = cc is in
    let at = looked seen gate (c.args.self.now.size - gate) c.args.self.now.size c.in_ok-look.field-0 Missing refl c.in-Missing.is s.size c.in_ok-look.ensures.told in
    some_meets (Begins ps) (λ f. found_at (drop gate f) ≡ Missing) (λ f. (records_of f ≡ ps) × (bad_place f ≡ Some offset)) seen (λ f b a. ends_here ps f gate Missing (Some offset) s.payloads b s.place a (λ k r. refl) (λ k r. ap Some same)) s.told at

pub returns-in-Shut-clause-closed : goal.returns-in-Shut-clause-closed
returns-in-Shut-clause-closed g c ps s is =
    let gate = c.args.self.now.gate in
    let seen = g.D.Disk.seen c.args.self.now.disk in
    let at = looked seen gate (c.args.self.now.size - gate) c.args.self.now.size c.in_ok-look.field-0 Shut refl c.in-Shut.is s.size c.in_ok-look.ensures.told in
    some_meets (Begins ps) (λ f. found_at (drop gate f) ≡ Shut) (λ f. (records_of f ≡ ps) × (bad_place f ≡ None)) seen (λ f b a. ends_here ps f gate Shut None s.payloads b s.place a (λ k r. refl) (λ k r. refl)) s.told at

pub returns-in-Broken-clause-bad : goal.returns-in-Broken-clause-bad
returns-in-Broken-clause-bad g c ps offset s is =
    let gate = c.args.self.now.gate in
    let seen = g.D.Disk.seen c.args.self.now.disk in
    let same : gate + 1 ≡ offset = cc is in
    let at = looked seen gate (c.args.self.now.size - gate) c.args.self.now.size c.in_ok-look.field-0 Broken refl c.in-Broken.is s.size c.in_ok-look.ensures.told in
    some_meets (Begins ps) (λ f. found_at (drop gate f) ≡ Broken) (λ f. (records_of f ≡ ps) × (bad_place f ≡ Some offset)) seen (λ f b a. ends_here ps f gate Broken (Some offset) s.payloads b s.place a (λ k r. refl) (λ k r. ap Some same)) s.told at
