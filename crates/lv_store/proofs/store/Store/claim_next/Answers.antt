use Rattle.std.proofs.Common.{refl, sym, ◌∙◌}
use Rattle.lv_schema.specs.World.{Settings}
use Rattle.lv_store.proofs.WorkerSteps.{claims_none, claims_step, still_whole}
use Rattle.lv_store.proofs.store.Store.claim_next.Goals as goal

pub returns-in_default-clause-done : goal.returns-in_default-clause-done
returns-in_default-clause-done g c = λ w settings same policy is.
    claims_none c.args.self.now w is settings c.args.worker c.args.picker.now.kind same policy c.requires.free (sym c.in_ok-step.ensures ∙ c.in_default.is)

pub returns-clause-done : goal.returns-clause-done
returns-clause-done g c = λ w settings same policy is.
    claims_step c.args.self.now w is settings c.args.worker c.args.picker.now.kind same policy c.requires.free c.in-Some.step c.set_claim.new.self.kept (sym c.in_ok-step.ensures ∙ c.in-Some.is) c.set_claim.ensures.claimed

pub returns-clause-whole : goal.returns-clause-whole
returns-clause-whole g c =
    let p = c.args.self.now in
    let whole = c.requires.whole in
    let settings : Settings = record { combine = p.settings.combine; limit = 0; policy = c.args.picker.now.kind } in
    still_whole p p.base c.set_claim.new.self p.rows whole whole.defs _
    (claims_step p whole.world whole.stands settings c.args.worker c.args.picker.now.kind refl refl c.requires.free c.in-Some.step c.set_claim.new.self.kept (sym c.in_ok-step.ensures ∙ c.in-Some.is) c.set_claim.ensures.claimed).stands
