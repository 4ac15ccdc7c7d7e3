use Rattle.std.proofs.Common.{◌++◌, ◌∷◌, [], ◌-◌, ◌∙◌, List, sym, ap, arith, append_assoc}
use Rattle.lv_schema.specs.declared.forced.Forced.{Forced}
use Rattle.lv_schema.specs.StepPlans.{step_of}
use Rattle.lv_tasks.specs.Kept.{tasks_kept}
use Rattle.lv_upkeep.specs.Kept.{forced_among}
use Rattle.lv_upkeep.proofs.Chains.{chain_more, step_rises}
use Rattle.lv_upkeep.proofs.planning.force_into.Goals as goal

pub loop-hi-smaller : goal.loop-hi-smaller
loop-hi-smaller g c =
    let rises = step_rises (g.V.Live.inside c.args.live.now) c.args.combine c.args.view (tasks_kept c.args.tasks.now.tasks c.args.view) c.args.limit c.loop-hi.lo c.in-Some.hi (sym c.in-Some.ensures) in
    omega (arith, rises.0, rises.1)

pub loop-hi-preserved : goal.loop-hi-preserved
loop-hi-preserved g c =
    let inside = g.V.Live.inside c.args.live.now in
    let view = c.args.view in
    let tasks = tasks_kept c.args.tasks.now.tasks view in
    let limit = c.args.limit in
    let lo = c.loop-hi.lo in
    let hi = c.in-Some.hi in
    let rest : List Forced = forced_among inside c.args.combine view tasks limit (limit - hi) hi in
    ap (λ (l : List Forced). l ++ rest) c.in_ok-push.ensures.added
    ∙ append_assoc c.loop-hi.out (step_of view lo hi ∷ []) rest
    ∙ ap (λ (l : List Forced). c.loop-hi.out ++ l) (sym (chain_more inside c.args.combine view tasks limit lo hi (sym c.in-Some.ensures)))
    ∙ c.loop-hi.invariant
