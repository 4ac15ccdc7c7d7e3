use Rattle.std.proofs.Common.{◌≡◌, true, Option, sym, ap, ◌∙◌}
use Rattle.std.specs.Prelude.{is_some}
use Rattle.lv_schema.specs.declared.forced.Forced.{Forced}
use Rattle.lv_upkeep.specs.Kept.{claim_kept}
use Rattle.lv_core.proofs.WorkerAnswers.{busy_gives}
use Rattle.lv_core.proofs.maintaining.claim_next.Goals as goal

pub returns-then-is_some-clause-entry : goal.returns-then-is_some-clause-entry
returns-then-is_some-clause-entry g c = λ rules s combines policy stands.
    let some : is_some (claim_kept c.args.engine.now.store.upkeep c.args.worker) ≡ true = ap (λ (o : Option Forced). is_some o) (sym c.claim.ensures) ∙ sym c.is_some.ensures ∙ c.if-is_some.true in
    busy_gives rules s c.args.engine.now c.args.worker stands some
