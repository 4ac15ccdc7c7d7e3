use Rattle.std.proofs.Common.{◌∷◌, [], ◌++◌, sym, ◌∙◌}
use Rattle.lv_plain.specs.declared.entry.Entry.TheVariants as entry
use Rattle.lv_plain.specs.declared.event.Event.TheVariants.{Mark as mark_of}
use Rattle.lv_core.specs.Answering.{IsUndone}
use Rattle.lv_core.specs.Run.{Gave, rules_of, state_of, view_of}
use Rattle.lv_core.proofs.Happened.{on_err, roomy}
use Rattle.lv_core.proofs.Held.{limit_held, open_run, roomy_held, setup_held, stands_held}
use Rattle.lv_core.proofs.MarksNamed.{marked_gave, unknown_gave}
use Rattle.lv_core.proofs.Undone.{IsLeft, is_left}
use Rattle.lv_core.proofs.running.Run.mark.Goals as goal

-- a name that is no view's
gave_unknown : (g : _) (c : goal.After-push g) → let r = c.self.inside in Gave g.D.Disk.seen g.D.Disk.may_leave g.D.Disk.moment g.D.Disk.left_since g.D.Disk.failures (mark_of c.args.view.now) c.args.self.now (view_of r.policy r.program r.engine r.opening.engine.value r.places c.push.new.self.list)
gave_unknown g c =
    let r = c.self.inside in
    let v = c.args.self.now in
    let o = open_run r.policy r.program r.engine r.opening.engine.value r.places r.entries.list r.entries.spare v c.self.invariant.roomy c.self.view_is in
    unknown_gave g.D.Disk.seen g.D.Disk.may_leave g.D.Disk.moment g.D.Disk.left_since g.D.Disk.failures r.policy r.program r.engine r.opening.engine.value r.places r.entries.list c.make_room.new.entries.list c.push.new.self.list v c.self.view_is (roomy_held o).run c.args.view.now
    (c.requires.name, setup_held o c.requires.setup) c.in_ok-make_room.ensures.same c.schema.result.now.views c.schema.ensures.views (sym c.in_default.is ∙ c.view_of_name.ensures)
    (c.push.ensures.added ∙ λ i. c.make_room.new.entries.list ++ entry.MarkUnknown (c.in_ok-name.ensures i) ∷ [])

pub invariant_of-self-in_default : goal.invariant_of-self-in_default
invariant_of-self-in_default g c =
    let r = c.self.inside in
    record {
      roomy = roomy g.D.Disk.seen g.D.Disk.may_leave g.D.Disk.moment g.D.Disk.left_since g.D.Disk.failures (view_of r.policy r.program r.engine r.opening.engine.value r.places c.push.new.self.list) c.make_room.new.entries.spare c.push.new.self.spare (gave_unknown g c).run c.in_ok-make_room.ensures.room c.push.ensures.room;
      length_is = c.self.invariant.length_is;
      faults_are = c.self.invariant.faults_are;
    }

pub returns-in_default-clause-done : goal.returns-in_default-clause-done
returns-in_default-clause-done g c = gave_unknown g c

-- want of memory
undone : (g : _) (c : goal.After-from_residual-in_err-entry g) → IsUndone g.D.Disk.seen g.D.Disk.may_leave g.D.Disk.moment g.D.Disk.left_since g.D.Disk.failures c.self.inside.engine c.mark_view.new.engine
undone g c =
    let r = c.self.inside in
    let v = c.args.self.now in
    let o = open_run r.policy r.program r.engine r.opening.engine.value r.places r.entries.list r.entries.spare v c.self.invariant.roomy c.self.view_is in
    c.in_err-entry.ensures.case (rules_of v.settings v.program) (state_of v).world (limit_held o) (stands_held o)

-- what it leaves
left : (g : _) (c : goal.After-from_residual-in_err-entry g) → let r = c.self.inside in IsLeft g.D.Disk.seen g.D.Disk.may_leave g.D.Disk.moment g.D.Disk.left_since g.D.Disk.failures c.args.self.now (view_of r.policy r.program c.mark_view.new.engine r.opening.engine.value r.places c.make_room.new.entries.list) c.make_room.new.entries.spare
left g c =
    let r = c.self.inside in
    is_left g.D.Disk.seen g.D.Disk.may_leave g.D.Disk.moment g.D.Disk.left_since g.D.Disk.failures r.policy r.program r.engine c.mark_view.new.engine r.opening.engine.value r.places r.entries.list c.make_room.new.entries.list c.args.self.now c.self.view_is c.in_ok-make_room.ensures.same (undone g c) r.entries.spare c.make_room.new.entries.spare c.self.invariant.roomy c.in_ok-make_room.ensures.kept

pub invariant_of-self-in_err-entry : goal.invariant_of-self-in_err-entry
invariant_of-self-in_err-entry g c = record { roomy = (left g c).roomy; length_is = c.self.invariant.length_is; faults_are = c.self.invariant.faults_are }

pub returns-in_err-entry-clause-kept : goal.returns-in_err-entry-clause-kept
returns-in_err-entry-clause-kept g c = on_err c.from_residual-in_err-entry.result _ (left g c).same

pub returns-in_err-entry-clause-journal : goal.returns-in_err-entry-clause-journal
returns-in_err-entry-clause-journal g c = on_err c.from_residual-in_err-entry.result _ (left g c).undone

-- a view
gave_mark : (g : _) (c : goal.After-push-2 g) → let r = c.self.inside in Gave g.D.Disk.seen g.D.Disk.may_leave g.D.Disk.moment g.D.Disk.left_since g.D.Disk.failures (mark_of c.args.view.now) c.args.self.now (view_of r.policy r.program c.mark_view.new.engine r.opening.engine.value r.places c.push-2.new.self.list)
gave_mark g c =
    let r = c.self.inside in
    let v = c.args.self.now in
    let o = open_run r.policy r.program r.engine r.opening.engine.value r.places r.entries.list r.entries.spare v c.self.invariant.roomy c.self.view_is in
    marked_gave g.D.Disk.seen g.D.Disk.may_leave g.D.Disk.moment g.D.Disk.left_since g.D.Disk.failures r.policy r.program r.engine r.opening.engine.value r.places r.entries.list c.make_room.new.entries.list c.push-2.new.self.list v c.self.view_is (roomy_held o).run c.args.view.now
    (c.requires.name, setup_held o c.requires.setup) c.in_ok-make_room.ensures.same c.in-Some.number c.schema.result.now.views c.mark_view.new.engine c.in_ok-entry.entry c.schema.ensures.views (sym c.in-Some.is ∙ c.view_of_name.ensures)
    c.push-2.ensures.added c.in_ok-entry.ensures.settings (c.in_ok-entry.ensures.case (rules_of v.settings v.program) (state_of v).world (limit_held o) (stands_held o))

pub invariant_of-self-2 : goal.invariant_of-self-2
invariant_of-self-2 g c =
    let r = c.self.inside in
    record {
      roomy = roomy g.D.Disk.seen g.D.Disk.may_leave g.D.Disk.moment g.D.Disk.left_since g.D.Disk.failures (view_of r.policy r.program c.mark_view.new.engine r.opening.engine.value r.places c.push-2.new.self.list) c.make_room.new.entries.spare c.push-2.new.self.spare (gave_mark g c).run c.in_ok-make_room.ensures.room c.push-2.ensures.room;
      length_is = c.self.invariant.length_is;
      faults_are = c.self.invariant.faults_are;
    }

pub returns-clause-done : goal.returns-clause-done
returns-clause-done g c = gave_mark g c
