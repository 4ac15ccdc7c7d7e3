use Rattle.std.proofs.Common.{◌≡◌, true, Option, None, sym, ap, ◌∙◌, subst, refl}
use Rattle.std.specs.Prelude.{is_some}
use Rattle.lv_schema.specs.declared.forced.Forced.{Forced}
use Rattle.lv_schema.specs.UpkeepCases.{fetching}
use Rattle.lv_schema.specs.WholeWorld.{maintained}
use Rattle.lv_schema.specs.World.{Settings}
use Rattle.lv_maint.specs.Inputs.{Input}
use Rattle.lv_upkeep.specs.Kept.{claim_kept}
use Rattle.lv_engine.specs.Answering.{GivesFetch}
use Rattle.lv_core.proofs.Fetching.{idle_stays}
use Rattle.lv_core.proofs.Standing.{none_is}
use Rattle.lv_core.proofs.WorkerAnswers.{busy_gives, claim_there}
use Rattle.lv_core.proofs.maintaining.fetch.Goals as goal

pub returns-then-is_some-clause-entry : goal.returns-then-is_some-clause-entry
returns-then-is_some-clause-entry g c = λ rules s combines policy stands.
    let some : is_some (claim_kept c.args.engine.now.store.upkeep c.args.worker) ≡ true = ap (λ (o : Option Forced). is_some o) (sym c.claim.ensures) ∙ sym c.is_some.ensures ∙ c.if-is_some.true in
    busy_gives rules s c.args.engine.now c.args.worker stands some

pub returns-in_default-clause-idle : goal.returns-in_default-clause-idle
returns-in_default-clause-idle g c = λ nothing.
    let settings : Settings = record { combine = c.args.engine.now.store.settings.combine; limit = 0; policy = c.args.picker.now.kind } in
    let w = c.known.ensures.0 in
    let free : claim_kept c.args.engine.now.store.upkeep c.args.worker ≡ None = sym c.claim.ensures ∙ none_is c.claim.result (sym c.is_some.ensures ∙ c.if-is_some.false) in
    idle_stays settings w c.args.engine.now c.fetch.new.self c.args.worker c.known.ensures.1 free c.in_ok-input.field-0 c.in_default.is (c.in_ok-input.ensures.done w settings refl refl c.known.ensures.1) c.in_ok-input.ensures.others

pub unreachable-requires : goal.unreachable-requires
unreachable-requires g c =
    let settings : Settings = record { combine = c.args.engine.now.store.settings.combine; limit = 0; policy = c.args.picker.now.kind } in
    let w = c.known.ensures.0 in
    let none : claim_kept c.args.engine.now.store.upkeep c.args.worker ≡ None = sym c.claim.ensures ∙ none_is c.claim.result (sym c.is_some.ensures ∙ c.if-is_some.false) in
    let gives = subst (λ (input : Option Input). GivesFetch w.visible (maintained (fetching settings c.args.worker w) w) input c.fetch.new.self) c.in-Some.is (c.in_ok-input.ensures.done w settings refl refl c.known.ensures.1) in
    let some = claim_there settings w c.args.engine.now c.args.worker c.known.ensures.1 c.requires.worker.1 none c.fetch.new.self c.in-Some.input gives in
    let gone : claim_kept c.fetch.new.self.store.upkeep c.args.worker ≡ None = sym c.claim-2.ensures ∙ c.in_default-claim.is in
    absurd cc
