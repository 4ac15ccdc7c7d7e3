use Rattle.std.proofs.Common.{List, ℕ, [], ◌∷◌, ◌++◌, ◌+◌, max, length, sym, ◌∙◌, ap, subst, arith}
use Rattle.lv_outside.specs.Images.{Elapses}
use Rattle.lv_outside.specs.Crashes.{images, Crashing, LeadsTo, LeftSince}
use Rattle.lv_outside.specs.declared.crash_disk.Call.{Call}
use Rattle.lv_outside.specs.declared.crash_disk.Call.TheVariants.{Wrote}
use Rattle.lv_outside.proofs.Crashes.{wrote, tears, elapses, torn_same, leads_push}
use Rattle.lv_outside.proofs.crash_disk.CrashDiskDisk.write_at.Goals as goal

pub returns-then-not-passes-clause-crash : goal.returns-then-not-passes-clause-crash
returns-then-not-passes-clause-crash c d left =
    (d, subst (λ (l : List Call). images l d) (ap (λ (v : Crashing). v.calls) c.self.view_is) left, torn_same c.args.at (length c.args.piece.now) d)

pub invariant_of-self-in-Ok : goal.invariant_of-self-in-Ok
invariant_of-self-in-Ok c =
    let n = length c.args.piece.now in
    let leads : LeadsTo 0 (c.self.inside.calls.items ++ Wrote c.args.at n ∷ []) (max (length c.self.inside.bytes.items) (c.args.at + n)) = leads_push c.self.inside.calls.items 0 (length c.self.inside.bytes.items) (Wrote c.args.at n) c.self.invariant.size (omega (arith, c.requires, ap (λ (v : Crashing). length v.bytes) c.self.view_is)) in
    record {
      image = subst (λ (l : List Call). images l c.record_write.new.bytes.items) (sym c.in-Ok.ensures.recorded) (tears c.self.inside.calls.items c.args.at n c.self.inside.bytes.items c.record_write.new.bytes.items c.self.invariant.image c.in-Ok.ensures.torn);
      size = subst (λ (l : List Call). LeadsTo 0 l (length c.record_write.new.bytes.items)) (sym c.in-Ok.ensures.recorded) (subst (λ (m : ℕ). LeadsTo 0 (c.self.inside.calls.items ++ Wrote c.args.at n ∷ []) m) (sym c.in-Ok.ensures.size) leads);
    }

pub returns-in-Ok-clause-crash : goal.returns-in-Ok-clause-crash
returns-in-Ok-clause-crash c d left =
    let from = wrote c.self.inside.calls.items c.args.at (length c.args.piece.now) d (subst (λ (l : List Call). images l d) c.in-Ok.ensures.recorded left) in
    (from.0, subst (λ (l : List Call). images l from.0) (ap (λ (v : Crashing). v.calls) c.self.view_is) from.1, from.2)

pub returns-in-Ok-clause-time : goal.returns-in-Ok-clause-time
returns-in-Ok-clause-time c =
    let later = c.record_write.new.calls.items in
    subst (λ (l : List Call). Elapses (length l) (length later) (LeftSince l) (LeftSince later) (images later)) (ap (λ (v : Crashing). v.calls) c.self.view_is)
    (elapses c.self.inside.calls.items later (Wrote c.args.at (length c.args.piece.now)) c.in-Ok.ensures.recorded)

pub returns-in-Err-clause-crash : goal.returns-in-Err-clause-crash
returns-in-Err-clause-crash c d left =
    (d, subst (λ (l : List Call). images l d) (c.in-Err.ensures.calls_kept ∙ ap (λ (v : Crashing). v.calls) c.self.view_is) left, torn_same c.args.at (length c.args.piece.now) d)
