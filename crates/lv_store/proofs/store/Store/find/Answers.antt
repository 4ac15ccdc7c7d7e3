use Rattle.std.proofs.Common.{◌<◌, length, sym, subst, arith}
use Rattle.std.specs.List.{AllByRecursion}
use Rattle.lv_stands.specs.Moves.{StepsFollow}
use Rattle.lv_schema.specs.declared.forced.Forced.{Forced}
use Rattle.lv_store.specs.Pending.{ArePending}
use Rattle.lv_store.specs.Querying.{CanCompute, InPlaceOf, IsCostIn, steps_in}
use Rattle.lv_store.specs.Inputs.{AreCosts}
use Rattle.lv_store.proofs.Forcing.{can_compute_all, steps_follow}
use Rattle.lv_store.proofs.OwnReads.{rows_long}
use Rattle.lv_store.proofs.Queries.{can_read, steps_below, takes_most}
use Rattle.lv_store.proofs.store.Store.find.Goals as goal

pub differences-requires-clause-can : goal.differences-requires-clause-can
differences-requires-clause-can g c =
    let p = c.args.self.now in
    let whole = c.requires.whole in
    let follow = subst (StepsFollow whole.world) (sym c.in_ok-forced.ensures) (steps_follow p whole.world whole.stands c.args.session c.args.query.now c.requires.bound) in
    let place = c.in_ok-taken.ensures.taken whole.world whole.stands follow in
    subst (AllByRecursion (CanCompute p)) (sym c.as_slice.ensures)
    (can_compute_all p whole.world whole.stands c.in_ok-taken.taken place.follow)

pub differences-requires-clause-views : goal.differences-requires-clause-views
differences-requires-clause-views g c =
    let p = c.args.self.now in
    let whole = c.requires.whole in
    let follow = subst (StepsFollow whole.world) (sym c.in_ok-forced.ensures) (steps_follow p whole.world whole.stands c.args.session c.args.query.now c.requires.bound) in
    let place = c.in_ok-taken.ensures.taken whole.world whole.stands follow in
    subst (AllByRecursion (λ (f : Forced). f.view < length p.rows.list)) (sym c.as_slice.ensures)
    (steps_below p c.args.session c.args.query.now c.requires.bound whole.world whole.stands c.in_ok-taken.taken place.follow (length p.rows.list) (omega (arith, rows_long p whole.world whole.stands)))

pub answer_with-requires-clause-pending : goal.answer_with-requires-clause-pending
answer_with-requires-clause-pending g c =
    let p = c.args.self.now in
    let whole = c.requires.whole in
    let follow = subst (StepsFollow whole.world) (sym c.in_ok-forced.ensures) (steps_follow p whole.world whole.stands c.args.session c.args.query.now c.requires.bound) in
    let place = subst (λ steps. InPlaceOf whole.world steps c.in_ok-taken.taken) c.in_ok-forced.ensures (c.in_ok-taken.ensures.taken whole.world whole.stands follow) in
    can_read p c.args.session c.args.query.now c.requires.bound whole c.requires.live c.in_ok-taken.taken place c.in_ok-pending.pending
    (subst (λ steps. ArePending p steps c.in_ok-pending.pending) c.as_slice.ensures c.in_ok-pending.ensures.pending)

pub returns-clause-pending : goal.returns-clause-pending
returns-clause-pending g c = subst (λ steps. ArePending c.args.self.now steps c.in_ok-pending.pending) c.as_slice.ensures c.in_ok-pending.ensures.pending

pub returns-clause-taken : goal.returns-clause-taken
returns-clause-taken g c = λ w is.
    c.in_ok-taken.ensures.taken w is (subst (StepsFollow w) (sym c.in_ok-forced.ensures) (steps_follow c.args.self.now w is c.args.session c.args.query.now c.requires.bound))

pub to_take-requires-clause-can : goal.to_take-requires-clause-can
to_take-requires-clause-can g c =
    let p = c.args.self.now in
    let whole = c.requires.whole in
    subst (AllByRecursion (CanCompute p)) (sym c.in_ok-forced.ensures)
    (can_compute_all p whole.world whole.stands (steps_in p c.args.session c.args.query.now) (steps_follow p whole.world whole.stands c.args.session c.args.query.now c.requires.bound))

pub returns-in_err-forced-clause-most : goal.returns-in_err-forced-clause-most
returns-in_err-forced-clause-most g c = λ kept w is n costs. omega arith

pub returns-in_err-taken-clause-most : goal.returns-in_err-taken-clause-most
returns-in_err-taken-clause-most g c = λ kept w is n costs. omega arith

pub returns-in_err-pending-clause-most : goal.returns-in_err-pending-clause-most
returns-in_err-pending-clause-most g c = λ kept w is.
    let p = c.args.self.now in
    let follow = subst (StepsFollow w) (sym c.in_ok-forced.ensures) (steps_follow p w is c.args.session c.args.query.now c.requires.bound) in
    takes_most p c.args.session c.args.query.now c.requires.bound w is c.in_ok-taken.taken
    (subst (λ steps. InPlaceOf w steps c.in_ok-taken.taken) c.in_ok-forced.ensures (c.in_ok-taken.ensures.taken w is follow)) c.args.steps.now c.differences.new.steps
    (λ n costs. c.in_err-pending.ensures.most n (subst (λ steps. AreCosts (IsCostIn p) steps n) (sym c.as_slice.ensures) costs))

pub returns-in_err-rows-clause-most : goal.returns-in_err-rows-clause-most
returns-in_err-rows-clause-most g c = λ kept w is.
    let p = c.args.self.now in
    let follow = subst (StepsFollow w) (sym c.in_ok-forced.ensures) (steps_follow p w is c.args.session c.args.query.now c.requires.bound) in
    takes_most p c.args.session c.args.query.now c.requires.bound w is c.in_ok-taken.taken
    (subst (λ steps. InPlaceOf w steps c.in_ok-taken.taken) c.in_ok-forced.ensures (c.in_ok-taken.ensures.taken w is follow)) c.args.steps.now c.answer_with.new.steps
    (λ n costs.
    let most = c.in_ok-pending.ensures.most n (subst (λ steps. AreCosts (IsCostIn p) steps n) (sym c.as_slice.ensures) costs) in
    omega (arith, most, c.in_err-rows.ensures.cost kept))

pub returns-clause-most : goal.returns-clause-most
returns-clause-most g c = λ kept w is.
    let p = c.args.self.now in
    let follow = subst (StepsFollow w) (sym c.in_ok-forced.ensures) (steps_follow p w is c.args.session c.args.query.now c.requires.bound) in
    takes_most p c.args.session c.args.query.now c.requires.bound w is c.in_ok-taken.taken
    (subst (λ steps. InPlaceOf w steps c.in_ok-taken.taken) c.in_ok-forced.ensures (c.in_ok-taken.ensures.taken w is follow)) c.args.steps.now c.answer_with.new.steps
    (λ n costs.
    let most = c.in_ok-pending.ensures.most n (subst (λ steps. AreCosts (IsCostIn p) steps n) (sym c.as_slice.ensures) costs) in
    omega (arith, most, c.in_ok-rows.ensures.cost kept))
