use Rattle.std.proofs.Common.{List, ◌∷◌, ◌++◌, sym, subst}
use Rattle.std.proofs.Math.Seq.{append_snoc}
use Rattle.lv_schema.specs.declared.forced.Forced.{Forced}
use Rattle.lv_store.specs.Querying.{InPlaceOf}
use Rattle.lv_store.proofs.JoinedSteps.{all_keep, goes_on_tests, goes_with, in_own_place, is_itself, joins}
use Rattle.lv_store.proofs.store.Store.join_step.Goals as goal

pub returns-then-branch : goal.returns-then-branch
returns-then-branch c = λ w rest is joined step kept follow.
    let keeps = c.in_ok-can_join.ensures.keeps w is step kept c.if-branch.true in
    let tests = goes_on_tests c.args.joined.view c.args.step.view c.args.joined.hi c.args.step.lo _ (c.in_ok-can_join.ensures.goes c.if-branch.true) in (
      goes_with w.visible c.args.joined c.args.before c.args.step joined keeps tests.0 tests.1,
      joins c.args.self.now w is c.args.taken.now rest c.args.joined c.args.step tests.0 tests.1 tests.2 (all_keep w.visible c.args.joined c.args.before c.args.step joined keeps) follow,
    )

pub returns : goal.returns
returns c = λ w rest is joined step kept follow.
    let taken = c.args.taken.now in
    let steps = taken ++ c.args.joined ∷ c.args.step ∷ rest in (
      is_itself w.visible c.args.step,
      subst (λ (l : List Forced). InPlaceOf w steps (l ++ c.args.step ∷ rest)) (sym c.in_ok-push.ensures.added)
          (subst (λ l. InPlaceOf w steps l) (sym (append_snoc taken c.args.joined (c.args.step ∷ rest))) (in_own_place w steps follow)),
    )
