use Rattle.std.proofs.Common.{◌<◌, ℕ, List, length, refl, sym, subst}
use Rattle.std.specs.Prelude.{IfOk}
use Rattle.lv_plain.specs.Machine.{steps_of}
use Rattle.lv_plain.specs.Turns.{bound_line}
use Rattle.lv_bind.specs.Reads.{reads}
use Rattle.std.specs.List.{AllZip}
use Rattle.lv_store.specs.Answering.{IsCostBetween, IsInputBetween}
use Rattle.lv_store.specs.Inputs.{AreCosts}
use Rattle.lv_core.specs.Run.{next_steps, state_of, view_of}
use Rattle.lv_core.proofs.Turns.{next_line_is, place_held}
use Rattle.lv_core.proofs.running.Run.stale.Goals as goal

pub place_of-place-requires : goal.place_of-place-requires
place_of-place-requires g c =
    let r = c.self.inside in
    subst (λ (ps : List ℕ). c.args.session < length ps) (sym c.as_slice.ensures) (place_held g.D.Disk.seen g.D.Disk.may_leave g.D.Disk.moment g.D.Disk.left_since g.D.Disk.failures r.policy r.program r.engine r.opening.engine.value r.places r.entries.list c.args.self.now c.self.invariant.roomy.run c.self.view_is c.args.session c.requires.may)

pub returns : goal.returns
returns g c =
    let r = c.self.inside in
    let v = view_of r.policy r.program r.engine r.opening.engine.value r.places r.entries.list in
    let w = (state_of v).world in
    let line = next_line_is r.program r.places c.as_slice.result.now c.args.session c.place_of-place.result c.line_left-line.result.now c.as_slice.ensures c.place_of-place.ensures c.line_left-line.ensures.line in
    record {
      inputs = subst (λ x. IfOk c.stale_line.result (λ inputs. AllZip (IsInputBetween (state_of x).world.visible) (next_steps x c.args.session) inputs)) c.self.view_is
          (subst (λ (l : List ℕ). IfOk c.stale_line.result (λ inputs. AllZip (IsInputBetween w.visible) (steps_of v.settings c.args.session (bound_line reads c.args.session l w.visible) w) inputs)) line
          (c.stale_line.ensures.inputs w v.settings refl c.self.invariant.roomy.run.stands));
      most = λ n costs.
          c.stale_line.ensures.most w v.settings refl c.self.invariant.roomy.run.stands n
          (subst (λ (l : List ℕ). AreCosts (IsCostBetween w.visible) (steps_of v.settings c.args.session (bound_line reads c.args.session l w.visible) w) n) (sym line)
          (subst (λ x. AreCosts (IsCostBetween (state_of x).world.visible) (next_steps x c.args.session) n) (sym c.self.view_is) costs));
    }
