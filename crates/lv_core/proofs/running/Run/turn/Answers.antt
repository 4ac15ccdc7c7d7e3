use Rattle.std.proofs.Common.{◌≡◌, ◌<◌, ◌≤◌, ◌+◌, ℕ, List, length, Ok, ap, ◌∙◌, sym, subst, arith}
use Rattle.std.specs.Prelude.{Result, slice_index}
use Rattle.lv_schema.specs.declared.bound.Bound.{Bound}
use Rattle.lv_schema.specs.declared.bound.Bound.TheVariants as bound
use Rattle.lv_schema.specs.declared.query.Query.{Query as AQuery}
use Rattle.lv_schema.specs.declared.fault.Fault.{Fault}
use Rattle.lv_plain.specs.declared.event.Event.TheVariants.{Turn as turn_of}
use Rattle.lv_bind.specs.Reads.{reads}
use Rattle.lv_plain.specs.Machine.{steps_of}
use Rattle.lv_plain.specs.Turns.{bound_line}
use Rattle.lv_store.specs.Answering.{IsCostBetween, ReadsNoTable, ReadsViews}
use Rattle.lv_store.specs.Inputs.{AreCosts}
use Rattle.lv_core.specs.Answering.{IsUndone}
use Rattle.lv_engine.specs.Kept.{Stands}
use Rattle.lv_core.specs.Run.{Gave, next_bound, next_steps, state_of, view_of}
use Rattle.lv_core.proofs.Happened.{on_err, roomy}
use Rattle.lv_core.proofs.Held.{combine_held, limit_held, open_run, roomy_held, stands_held}
use Rattle.lv_core.proofs.Turns.{bound_here, next_held, next_line_is, place_held, small_held, turn_taken}
use Rattle.lv_core.proofs.Undone.{IsLeft, is_left}
use Rattle.lv_core.proofs.running.Run.turn.Goals.{After-answer_line, After-place_of-place}
use Rattle.lv_core.proofs.running.Run.turn.Goals as goal

pub place_of-place-requires : goal.place_of-place-requires
place_of-place-requires g c =
    let r = c.self.inside in
    let v = c.args.self.now in
    subst (λ (ps : List ℕ). c.args.session < length ps) (sym c.as_slice.ensures) (place_held g.D.Disk.seen g.D.Disk.may_leave g.D.Disk.moment g.D.Disk.left_since g.D.Disk.failures r.policy r.program r.engine r.opening.engine.value r.places r.entries.list v c.self.invariant.roomy.run c.self.view_is c.args.session c.requires.may)

pub answer_line-requires-clause-next : goal.answer_line-requires-clause-next
answer_line-requires-clause-next g c =
    let r = c.self.inside in
    let v = c.args.self.now in
    next_held g.D.Disk.seen g.D.Disk.may_leave g.D.Disk.moment g.D.Disk.left_since g.D.Disk.failures r.policy r.program r.engine r.opening.engine.value r.places r.entries.list v c.self.invariant.roomy.run c.self.view_is c.args.session c.requires.may

-- want of memory
undone : (g : _) (c : goal.After-from_residual-in_err-answered g) → IsUndone g.D.Disk.seen g.D.Disk.may_leave g.D.Disk.moment g.D.Disk.left_since g.D.Disk.failures c.self.inside.engine c.answer_line.new.engine
undone g c =
    let r = c.self.inside in
    let v = c.args.self.now in
    let o = open_run r.policy r.program r.engine r.opening.engine.value r.places r.entries.list r.entries.spare v c.self.invariant.roomy c.self.view_is in
    c.in_err-answered.ensures.case (state_of v).world v.settings (combine_held o) (limit_held o) (stands_held o)

-- what it leaves
left : (g : _) (c : goal.After-from_residual-in_err-answered g) → let r = c.self.inside in IsLeft g.D.Disk.seen g.D.Disk.may_leave g.D.Disk.moment g.D.Disk.left_since g.D.Disk.failures c.args.self.now (view_of r.policy r.program c.answer_line.new.engine r.opening.engine.value r.places c.make_room.new.entries.list) c.make_room.new.entries.spare
left g c =
    let r = c.self.inside in
    is_left g.D.Disk.seen g.D.Disk.may_leave g.D.Disk.moment g.D.Disk.left_since g.D.Disk.failures r.policy r.program r.engine c.answer_line.new.engine r.opening.engine.value r.places r.entries.list c.make_room.new.entries.list c.args.self.now c.self.view_is c.in_ok-make_room.ensures.same (undone g c) r.entries.spare c.make_room.new.entries.spare c.self.invariant.roomy c.in_ok-make_room.ensures.kept

pub invariant_of-self-in_err-answered : goal.invariant_of-self-in_err-answered
invariant_of-self-in_err-answered g c = record { roomy = (left g c).roomy; length_is = c.self.invariant.length_is; faults_are = c.self.invariant.faults_are }

pub returns-in_err-answered-clause-kept : goal.returns-in_err-answered-clause-kept
returns-in_err-answered-clause-kept g c = on_err c.from_residual-in_err-answered.result _ (left g c).same

pub returns-in_err-answered-clause-journal : goal.returns-in_err-answered-clause-journal
returns-in_err-answered-clause-journal g c = on_err c.from_residual-in_err-answered.result _ (left g c).undone

-- the statement is answered
at : (g : _) (c : After-place_of-place g) → c.place_of-place.result ≡ slice_index c.self.inside.places c.args.session
at g c = c.place_of-place.ensures ∙ ap (λ (ps : List ℕ). slice_index ps c.args.session) c.as_slice.ensures

small : (g : _) (c : After-place_of-place g) → c.place_of-place.result < 100000
small g c =
    let r = c.self.inside in
    omega (arith, at g c, small_held g.D.Disk.seen g.D.Disk.may_leave g.D.Disk.moment g.D.Disk.left_since g.D.Disk.failures r.policy r.program r.engine r.opening.engine.value r.places r.entries.list c.args.self.now c.self.invariant.roomy.run c.self.view_is c.args.session c.requires.may)

pub overflow_add-place : goal.overflow_add-place
overflow_add-place g c = omega (arith, small g (goal.at.overflow_add-place g c).After-place_of-place)

pub overflow_add-place-2 : goal.overflow_add-place-2
overflow_add-place-2 g c = omega (arith, small g (goal.at.overflow_add-place-2 g c).After-place_of-place)

pub set-requires : goal.set-requires
set-requires g c =
    let r = c.self.inside in
    let v = c.args.self.now in
    place_held g.D.Disk.seen g.D.Disk.may_leave g.D.Disk.moment g.D.Disk.left_since g.D.Disk.failures r.policy r.program r.engine r.opening.engine.value r.places r.entries.list v c.self.invariant.roomy.run c.self.view_is c.args.session c.requires.may

gave_turn : (g : _) (c : goal.After-set g) → let r = c.self.inside in Gave g.D.Disk.seen g.D.Disk.may_leave g.D.Disk.moment g.D.Disk.left_since g.D.Disk.failures (turn_of c.args.session) c.args.self.now (view_of r.policy r.program c.answer_line.new.engine r.opening.engine.value c.set.new.self c.push.new.self.list)
gave_turn g c =
    let r = c.self.inside in
    let v = c.args.self.now in
    let o = open_run r.policy r.program r.engine r.opening.engine.value r.places r.entries.list r.entries.spare v c.self.invariant.roomy c.self.view_is in
    let at : c.place_of-place.result ≡ slice_index r.places c.args.session = c.place_of-place.ensures ∙ ap (λ (ps : List ℕ). slice_index ps c.args.session) c.as_slice.ensures in
    let line = next_line_is r.program r.places c.as_slice.result.now c.args.session c.place_of-place.result c.line_left-line.result.now c.as_slice.ensures c.place_of-place.ensures c.line_left-line.ensures.line in
    turn_taken g.D.Disk.seen g.D.Disk.may_leave g.D.Disk.moment g.D.Disk.left_since g.D.Disk.failures r.policy r.program r.engine c.answer_line.new.engine r.opening.engine.value r.places c.set.new.self r.entries.list c.make_room.new.entries.list c.push.new.self.list v c.args.session c.place_of-place.result
    c.line_left-line.result.now c.in_ok-answered.answered c.self.view_is (roomy_held o).run c.requires.may at line c.in_ok-make_room.ensures.same c.set.ensures c.push.ensures.added
    c.in_ok-answered.ensures.settings c.in_ok-answered.ensures.case

pub invariant_of-self-2 : goal.invariant_of-self-2
invariant_of-self-2 g c =
    let r = c.self.inside in
    record {
      roomy = roomy g.D.Disk.seen g.D.Disk.may_leave g.D.Disk.moment g.D.Disk.left_since g.D.Disk.failures (view_of r.policy r.program c.answer_line.new.engine r.opening.engine.value c.set.new.self c.push.new.self.list) c.make_room.new.entries.spare c.push.new.self.spare (gave_turn g c).run c.in_ok-make_room.ensures.room c.push.ensures.room;
      length_is = c.self.invariant.length_is;
      faults_are = c.self.invariant.faults_are;
    }

pub returns-clause-done : goal.returns-clause-done
returns-clause-done g c = gave_turn g c

-- what it reads, which want of memory does not change
module _ (g : _) (c : After-answer_line g) (query : AQuery) (bound_is : next_bound c.args.self.now c.args.session ≡ Ok (bound.Query query)) where
  here : bound_line reads c.args.session c.line_left-line.result.now (state_of c.args.self.now).world.visible ≡ next_bound c.args.self.now c.args.session
  here =
      let r = c.self.inside in
      let line = next_line_is r.program r.places c.as_slice.result.now c.args.session c.place_of-place.result c.line_left-line.result.now c.as_slice.ensures c.place_of-place.ensures c.line_left-line.ensures.line in
      bound_here g.D.Disk.seen g.D.Disk.may_leave g.D.Disk.moment g.D.Disk.left_since g.D.Disk.failures r.policy r.program r.engine r.opening.engine.value r.places r.entries.list c.args.self.now c.self.view_is c.args.session c.line_left-line.result.now line

  stands : Stands (state_of c.args.self.now).world c.self.inside.engine
  stands =
      let r = c.self.inside in
      stands_held (open_run r.policy r.program r.engine r.opening.engine.value r.places r.entries.list r.entries.spare c.args.self.now c.self.invariant.roomy c.self.view_is)

  fresh : ReadsNoTable c.args.session query (state_of c.args.self.now).world → c.answer_line.new.steps ≡ c.args.steps.now
  fresh reading = c.answer_line.ensures.fresh (state_of c.args.self.now).world query stands (here ∙ bound_is) reading

  most : ReadsViews c.args.session query (state_of c.args.self.now).world → (n : ℕ) → AreCosts (IsCostBetween (state_of c.args.self.now).world.visible) (next_steps c.args.self.now c.args.session) n → c.answer_line.new.steps ≤ c.args.steps.now + n
  most reading n costs =
      let r = c.self.inside in
      let v = c.args.self.now in
      let o = open_run r.policy r.program r.engine r.opening.engine.value r.places r.entries.list r.entries.spare v c.self.invariant.roomy c.self.view_is in
      let w = (state_of v).world in
      c.answer_line.ensures.most w v.settings query (combine_held o) stands (here ∙ bound_is) reading n
      (subst (λ (b : Result Bound Fault). AreCosts (IsCostBetween w.visible) (steps_of v.settings c.args.session b w) n) (sym here) costs)

pub returns-in_err-answered-clause-fresh : goal.returns-in_err-answered-clause-fresh
returns-in_err-answered-clause-fresh g c = fresh g (goal.at.returns-in_err-answered-clause-fresh g c).After-answer_line

pub returns-in_err-answered-clause-most : goal.returns-in_err-answered-clause-most
returns-in_err-answered-clause-most g c = most g (goal.at.returns-in_err-answered-clause-most g c).After-answer_line

pub returns-clause-fresh : goal.returns-clause-fresh
returns-clause-fresh g c = fresh g (goal.at.returns-clause-fresh g c).After-answer_line

pub returns-clause-most : goal.returns-clause-most
returns-clause-most g c = most g (goal.at.returns-clause-most g c).After-answer_line
