use Rattle.std.proofs.Common.{◌≡◌, ◌++◌, ◌∙◌, ℕ, List, length, sym, ap, arith}
use Rattle.lv_schema.specs.declared.pending.Pending.{Pending}
use Rattle.lv_upkeep.specs.Kept.{UpkeepRoom, candidate_in, unclaimed_in}
use Rattle.lv_upkeep.proofs.Candidates.{flat_more}
use Rattle.lv_upkeep.proofs.Made.{unclaimed_made}
use Rattle.lv_upkeep.proofs.upkeep.Upkeep.unclaimed.Goals as goal

pub loop-view-preserved : goal.loop-view-preserved
loop-view-preserved c =
    let candidate : ℕ → List Pending = candidate_in c.self.inside.claims c.self.inside.tasks.tasks in
    c.in_ok-candidate_into.ensures ∙ ap (λ (l : List Pending). l ++ candidate c.loop-view.view) c.loop-view.invariant ∙ sym (flat_more candidate c.loop-view.view)

pub returns : goal.returns
returns c =
    let views = c.self.inside.views.list in
    let end : c.loop-view.view ≡ length views = omega (arith, c.loop-view-test.false, c.len-view-end.ensures, c.loop-view.auto.view-end) in
    c.loop-view.invariant
    ∙ unclaimed_made views c.self.inside.tasks.tasks c.self.inside.claims c.loop-view.view end (omega (arith, c.self.invariant.0, c.self.invariant.1))
    ∙ ap (λ (u : UpkeepRoom). unclaimed_in u.kept) c.self.view_is
