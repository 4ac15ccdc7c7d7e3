use Rattle.std.proofs.Common.{List, [], sym, ◌∙◌, subst}
use Rattle.std.specs.Prelude.{IfOk, Result}
use Rattle.lv_schema.specs.declared.bound.Bound.{Bound}
use Rattle.lv_schema.specs.declared.fault.Fault.{Fault}
use Rattle.lv_plain.specs.Machine.{steps_of}
use Rattle.std.specs.List.{AllZip}
use Rattle.lv_store.specs.Answering.{IsCostBetween, IsInputBetween}
use Rattle.lv_store.specs.Inputs.{AreCosts}
use Rattle.lv_maint.specs.Inputs.{Input}
use Rattle.lv_core.proofs.Standing.{line_told, live_told}
use Rattle.lv_core.proofs.answering.stale_line.Goals as goal

pub returns-in-Ok-clause-inputs : goal.returns-in-Ok-clause-inputs
returns-in-Ok-clause-inputs g c = λ w settings combines stands.
    let e = c.args.engine.now in
    let live = live_told e c.args.session c.live.result c.is_some-live.result c.live.ensures c.is_some-live.ensures in
    let line = line_told w e c.args.session c.args.line.now c.schema.result.now.tables c.schema.result.now.views c.is_some-live.result stands c.schema.ensures.tables c.schema.ensures.views live in
    subst (λ (r : Result Bound Fault). IfOk c.stale_bound.result (λ inputs. AllZip (IsInputBetween w.visible) (steps_of settings c.args.session r w) inputs)) (sym (line ∙ c.in-Ok.ensures.found))
    (c.stale_bound.ensures.inputs w settings combines stands)

pub returns-in-Ok-clause-most : goal.returns-in-Ok-clause-most
returns-in-Ok-clause-most g c = λ w settings combines stands n costs.
    let e = c.args.engine.now in
    let live = live_told e c.args.session c.live.result c.is_some-live.result c.live.ensures c.is_some-live.ensures in
    let line = line_told w e c.args.session c.args.line.now c.schema.result.now.tables c.schema.result.now.views c.is_some-live.result stands c.schema.ensures.tables c.schema.ensures.views live in
    c.stale_bound.ensures.most w settings combines stands n
    (subst (λ (r : Result Bound Fault). AreCosts (IsCostBetween w.visible) (steps_of settings c.args.session r w) n) (line ∙ c.in-Ok.ensures.found) costs)

pub returns-in-Err-Stmt-clause-inputs : goal.returns-in-Err-Stmt-clause-inputs
returns-in-Err-Stmt-clause-inputs g c = λ w settings combines stands.
    let e = c.args.engine.now in
    let live = live_told e c.args.session c.live.result c.is_some-live.result c.live.ensures c.is_some-live.ensures in
    let line = line_told w e c.args.session c.args.line.now c.schema.result.now.tables c.schema.result.now.views c.is_some-live.result stands c.schema.ensures.tables c.schema.ensures.views live in
    subst (λ (r : Result Bound Fault). AllZip (IsInputBetween w.visible) (steps_of settings c.args.session r w) c.new.result) (sym (line ∙ c.in-Err-Stmt.ensures.refused c.in-Err-Stmt.field-0-0 cc))
    (subst (λ (inputs : List Input). AllZip (IsInputBetween w.visible) [] inputs) (sym c.new.ensures) tt)
