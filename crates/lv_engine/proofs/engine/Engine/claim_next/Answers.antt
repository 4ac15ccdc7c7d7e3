use Rattle.std.proofs.Common.{◌≡◌, None, refl, subst, sym, ◌∙◌}
use Rattle.lv_schema.specs.UpkeepCases.{claim_of}
use Rattle.lv_schema.specs.World.{Settings}
use Rattle.lv_engine.specs.Kept.{EngineView, Stands}
use Rattle.lv_engine.proofs.NoneLeft.{claim_is, step_none}
use Rattle.lv_engine.proofs.Wrapped.{claimed_stands, if_ok}
use Rattle.lv_engine.proofs.engine.Engine.claim_next.Goals as goal

pub returns-clause-done : goal.returns-clause-done
returns-clause-done g c = λ w settings same policy is.
    let here = subst (λ (e : EngineView g.row.D.Denot). Stands w e) (sym c.self.view_is) is in
    if_ok c.claim_next.result (λ step gives. claimed_stands w settings c.args.worker step _ c.self.inside.journal here.journal_is gives)
    (c.claim_next.ensures.done w settings (subst (λ (e : EngineView g.row.D.Denot). settings.combine ≡ e.store.settings.combine) (sym c.self.view_is) same) policy here.store_stands)

pub returns-clause-none : goal.returns-clause-none
returns-clause-none g c = λ w is.
    let here = subst (λ (e : EngineView g.row.D.Denot). Stands w e) (sym c.self.view_is) is in
    let settings : Settings = record { combine = c.self.inside.store.settings.combine; limit = 0; policy = c.args.picker.now.kind } in
    let free : claim_of w.upkeep c.args.worker ≡ None = sym (claim_is w c.args.self.now c.args.worker is) ∙ c.requires.free in
    if_ok c.claim_next.result (λ step gives. step_none settings c.args.worker w free step gives.step_is) (c.claim_next.ensures.done w settings refl refl here.store_stands)
