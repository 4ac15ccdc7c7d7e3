use Rattle.std.proofs.Common.{◌+◌, ◌<◌, List, ◌∷◌, ◌++◌, drop, length, sym, subst, arith}
use Rattle.lv_schema.specs.declared.forced.Forced.{Forced}
use Rattle.lv_store.specs.Querying.{CanCompute, InPlaceOf}
use Rattle.lv_store.proofs.Forcing.{IsKeptStep, steps_kept}
use Rattle.lv_store.proofs.JoinedSteps.{follows_more, in_own_place, is_itself, joined_more, none_left}
use Rattle.lv_store.proofs.Steps.{each_at}
use Rattle.lv_store.proofs.store.Store.join_all.Goals as goal

pub loop-step-init : goal.loop-step-init
loop-step-init c = record {
  can = c.requires.can.0;
  place = λ w is follow. (is_itself w.visible c.args.first, (steps_kept c.args.self.now w is (c.args.first ∷ c.args.rest.now) follow).0, subst (λ (l : List Forced). InPlaceOf w (c.args.first ∷ c.args.rest.now) (l ++ c.args.first ∷ c.args.rest.now)) (sym c.new-taken.ensures) (in_own_place w (c.args.first ∷ c.args.rest.now) follow));
}

pub join_step-requires-clause-can : goal.join_step-requires-clause-can
join_step-requires-clause-can c = c.loop-step.invariant.can

pub loop-step-preserved : goal.loop-step-preserved
loop-step-preserved c =
    let p = c.args.self.now in
    let all = c.args.first ∷ c.args.rest.now in
    let rest = c.args.rest.now in
    let i = c.loop-step.step-index in
    let d : Forced = record { view = 0; lo = 0; hi = 0 } in
    let lt : i < length rest = omega (arith, c.loop-step-test.true) in
    record {
      can = each_at (CanCompute p) rest i d lt c.requires.can.1;
      place = λ w is follow.
          let at = c.loop-step.invariant.place w is follow in
          let more = c.in_ok-joined.ensures w (drop (i + 1) rest) is at.0 at.1.step at.1.kept (follows_more w c.loop-step.taken rest i d c.loop-step.joined lt at.2.follow) in
          (more.0, each_at (IsKeptStep w) rest i d lt (steps_kept p w is all follow).1, joined_more w all c.loop-step.taken c.join_step.new.taken rest i d c.loop-step.joined c.in_ok-joined.joined lt at.2 more.1);
    }

pub returns : goal.returns
returns c = λ w is follow.
    let at = c.loop-step.invariant.place w is follow in
    let all = c.args.first ∷ c.args.rest.now in
    subst (λ l. InPlaceOf w all l) (sym c.in_ok-push.ensures.added)
    (subst (λ (l : List Forced). InPlaceOf w all (c.loop-step.taken ++ c.loop-step.joined ∷ l)) (none_left c.args.rest.now c.loop-step.step-index c.loop-step-test.false) at.2)
