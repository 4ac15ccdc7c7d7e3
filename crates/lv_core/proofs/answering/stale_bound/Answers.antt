use Rattle.std.proofs.Common.{sym, subst}
use Rattle.std.specs.List.{AllZip}
use Rattle.std.specs.Prelude.{IfOk, Ok}
use Rattle.lv_schema.specs.declared.bound.Bound.{Bound}
use Rattle.lv_plain.specs.Machine.{steps_of}
use Rattle.lv_store.specs.Answering.{IsInputBetween}
use Rattle.lv_core.proofs.answering.stale_bound.Goals as goal

pub returns-in-Query-clause-inputs : goal.returns-in-Query-clause-inputs
returns-in-Query-clause-inputs g c = λ w settings combines stands.
    subst (λ (b : Bound). IfOk c.stale.result (λ inputs. AllZip (IsInputBetween w.visible) (steps_of settings c.args.session (Ok b) w) inputs)) (sym c.in-Query.is)
    (c.stale.ensures.inputs w settings combines stands)
