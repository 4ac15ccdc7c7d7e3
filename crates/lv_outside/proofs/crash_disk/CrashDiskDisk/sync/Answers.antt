use Rattle.std.proofs.Common.{◌++◌, [], ◌∷◌, List, ℕ, Some, length, sym, ◌∙◌, ap, subst}
use Rattle.lv_outside.specs.Crashes.{images, Crashing, LeadsTo}
use Rattle.lv_outside.specs.declared.crash_disk.Call.{Call}
use Rattle.lv_outside.specs.declared.crash_disk.Call.TheVariants.{Synced}
use Rattle.lv_outside.proofs.Crashes.{stays, synced, leads_push}
use Rattle.lv_outside.proofs.crash_disk.CrashDiskDisk.sync.Goals as goal

pub invariant_of-self-in-Ok : goal.invariant_of-self-in-Ok
invariant_of-self-in-Ok c =
    let calls = c.self.inside.calls.items in
    let bytes = c.self.inside.bytes.items in
    let is = c.in-Ok.ensures.recorded ∙ ap (λ (b : List ℕ). calls ++ Synced b ∷ []) c.deref.ensures.value in
    record {
      image = subst (λ (l : List Call). images l bytes) (sym is) (stays calls bytes);
      size = subst (λ (l : List Call). LeadsTo 0 l (length bytes)) (sym is) (leads_push calls 0 (length bytes) (Synced bytes) c.self.invariant.size tt);
    }

pub returns-in-Ok-clause-durable : goal.returns-in-Ok-clause-durable
returns-in-Ok-clause-durable c d left =
    let is = c.in-Ok.ensures.recorded ∙ ap (λ (b : List ℕ). c.self.inside.calls.items ++ Synced b ∷ []) c.deref.ensures.value in
    ap Some (sym (synced c.self.inside.calls.items c.self.inside.bytes.items d (subst (λ (l : List Call). images l d) is left)))

pub returns-in-Ok-clause-crash : goal.returns-in-Ok-clause-crash
returns-in-Ok-clause-crash c d left =
    let is = c.in-Ok.ensures.recorded ∙ ap (λ (b : List ℕ). c.self.inside.calls.items ++ Synced b ∷ []) c.deref.ensures.value in
    let same = synced c.self.inside.calls.items c.self.inside.bytes.items d (subst (λ (l : List Call). images l d) is left) in
    subst (λ (e : List ℕ). images c.args.self.now.calls e) (sym same) (subst (λ (l : List Call). images l c.self.inside.bytes.items) (ap (λ (v : Crashing). v.calls) c.self.view_is) c.self.invariant.image)
