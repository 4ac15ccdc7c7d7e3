use Rattle.lv_schema.specs.World.{Settings}
use Rattle.lv_store.proofs.Forcing.{can_compute}
use Rattle.lv_store.proofs.WorkerSteps.{gives_none, gives_step, next_is_kept, still_whole, takes_step}
use Rattle.std.proofs.Common.{refl, sym, ◌∙◌}
use Rattle.lv_store.proofs.store.Store.fetch.Goals as goal

pub input-requires-clause-can : goal.input-requires-clause-can
input-requires-clause-can g c =
    let p = c.args.self.now in
    let whole = c.requires.whole in
    can_compute p whole.world whole.stands c.in-Some.step (next_is_kept p whole.world whole.stands c.args.picker.now.kind c.in-Some.step (sym c.in_ok-step.ensures ∙ c.in-Some.is))

pub returns-in_default-clause-done : goal.returns-in_default-clause-done
returns-in_default-clause-done g c = λ w settings same policy is.
    gives_none c.args.self.now w is settings c.args.worker c.args.picker.now.kind same policy c.requires.free (sym c.in_ok-step.ensures ∙ c.in_default.is)

pub returns-clause-done : goal.returns-clause-done
returns-clause-done g c = λ w settings same policy is.
    gives_step c.args.self.now w is settings c.args.worker c.args.picker.now.kind same policy c.requires.free c.in-Some.step c.in_ok-input.input c.set_claim.new.self.kept
    (sym c.in_ok-step.ensures ∙ c.in-Some.is) c.in_ok-input.ensures.input c.set_claim.ensures.claimed

pub returns-clause-whole : goal.returns-clause-whole
returns-clause-whole g c =
    let p = c.args.self.now in
    let whole = c.requires.whole in
    let w = whole.world in
    let settings : Settings = record { combine = p.settings.combine; limit = 0; policy = c.args.picker.now.kind } in
    still_whole p p.base c.set_claim.new.self p.rows whole whole.defs _
    (gives_step p w whole.stands settings c.args.worker c.args.picker.now.kind refl refl c.requires.free c.in-Some.step c.in_ok-input.input c.set_claim.new.self.kept
    (sym c.in_ok-step.ensures ∙ c.in-Some.is) c.in_ok-input.ensures.input c.set_claim.ensures.claimed).stands

pub returns-in_err-input-clause-most : goal.returns-in_err-input-clause-most
returns-in_err-input-clause-most g c = λ w settings same policy is.
    takes_step c.args.self.now w is settings c.args.worker c.args.picker.now.kind same policy c.requires.free c.in-Some.step c.args.steps.now c.input.new.steps (sym c.in_ok-step.ensures ∙ c.in-Some.is) c.in_err-input.ensures.most

pub returns-clause-most : goal.returns-clause-most
returns-clause-most g c = λ w settings same policy is.
    takes_step c.args.self.now w is settings c.args.worker c.args.picker.now.kind same policy c.requires.free c.in-Some.step c.args.steps.now c.input.new.steps (sym c.in_ok-step.ensures ∙ c.in-Some.is) c.in_ok-input.ensures.most
