use Rattle.std.proofs.Common.{◌≡◌, sym, ◌∙◌, subst}
use Rattle.std.proofs.lemmas.Result.{IfOk-weaker}
use Rattle.std.specs.List.{AllByRecursion, AllZip}
use Rattle.lv_schema.specs.UpkeepCases.{forced_by}
use Rattle.lv_store.specs.Answering.{IsInputBetween}
use Rattle.lv_store.specs.Inputs.{AreCosts}
use Rattle.lv_store.specs.Querying.{CanCompute, IsCostIn, IsInputIn, steps_in}
use Rattle.lv_store.proofs.Forcing.{can_compute_all, forced_costs, inputs_told, steps_follow}
use Rattle.lv_store.proofs.store.Store.stale.Goals as goal

pub inputs-requires-clause-can : goal.inputs-requires-clause-can
inputs-requires-clause-can g c =
    let p = c.args.self.now in
    let whole = c.requires.whole in
    subst (AllByRecursion (CanCompute p)) (sym (c.as_slice.ensures ∙ c.in_ok-forced.ensures))
    (can_compute_all p whole.world whole.stands (steps_in p c.args.session c.args.query.now) (steps_follow p whole.world whole.stands c.args.session c.args.query.now c.requires.bound))

pub returns : goal.returns
returns g c =
    let p = c.args.self.now in
    let session = c.args.session in
    let query = c.args.query.now in
    let forced : c.as_slice.result.now ≡ steps_in p session query = c.as_slice.ensures ∙ c.in_ok-forced.ensures in
    record {
      inputs = λ w settings same is.
          IfOk-weaker c.inputs.result (λ inputs. AllZip (IsInputIn p) c.as_slice.result.now inputs) (λ inputs. AllZip (IsInputBetween w.visible) (forced_by settings session query w) inputs)
          (λ inputs h. inputs_told p w is session query c.requires.bound settings same inputs (subst (λ fs. AllZip (IsInputIn p) fs inputs) forced h))
          c.inputs.ensures.inputs;
      most = λ w settings same is n costs.
          c.inputs.ensures.most n (subst (λ fs. AreCosts (IsCostIn p) fs n) (sym forced) (forced_costs p w is session query c.requires.bound settings same n costs));
    }
