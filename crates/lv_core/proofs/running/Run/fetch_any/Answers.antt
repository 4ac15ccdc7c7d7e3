use Rattle.std.proofs.Common.{◌≡◌, None, Some, refl, sym, ◌∙◌, subst}
use Rattle.lv_store.specs.Answering.{IsInputBetween}
use Rattle.lv_schema.specs.UpkeepCases.{fetching}
use Rattle.lv_plain.specs.declared.event.Event.TheVariants.{Fetch as fetch_of}
use Rattle.lv_store.specs.Maintaining.{IsGiven}
use Rattle.lv_core.specs.Run.{Gave, rules_of, state_of, view_of}
use Rattle.lv_engine.proofs.NoneLeft.{given_none}
use Rattle.lv_core.proofs.Fetching.{given_step}
use Rattle.lv_core.proofs.Happened.{roomy}
use Rattle.lv_core.proofs.Held.{combine_held, gave, open_run, setup_held, stands_held}
use Rattle.lv_core.proofs.running.Run.fetch_any.Goals as goal

pub returns-in_default-clause-none : goal.returns-in_default-clause-none
returns-in_default-clause-none g c =
    let r = c.self.inside in
    let v = c.args.self.now in
    let o = open_run r.policy r.program r.engine r.opening.engine.value r.places r.entries.list r.entries.spare v c.self.invariant.roomy c.self.view_is in
    let told = given_none v.settings c.args.worker (state_of v).world c.requires.free c.in_ok-entry.field-0.input (c.in_ok-entry.ensures.input (rules_of v.settings v.program) (state_of v) (combine_held o) c.requires.policy (stands_held o)) in
    let none : c.in_ok-entry.field-0.input ≡ None = let part = c.in_ok-entry.input-is in let is = c.in_default.is in cc in
    (λ e. told.0 none, λ views. refl)

-- ---- a step
gave_fetch : (g : _) (c : goal.After-push g) → Gave g.D.Disk.seen g.D.Disk.may_leave g.D.Disk.moment g.D.Disk.left_since g.D.Disk.failures (fetch_of c.args.worker) c.args.self.now (view_of c.self.inside.policy c.self.inside.program c.fetch.new.engine c.self.inside.opening.engine.value c.self.inside.places c.push.new.self.list)
gave_fetch g c =
    let r = c.self.inside in
    let v = c.args.self.now in
    let o = open_run r.policy r.program r.engine r.opening.engine.value r.places r.entries.list r.entries.spare v c.self.invariant.roomy c.self.view_is in
    let entry = c.in_ok-entry.ensures.entry (rules_of v.settings v.program) (state_of v) (combine_held o) c.requires.policy (stands_held o) in
    gave o
    (fetch_of c.args.worker) c.make_room.new.entries.list c.push.new.self.list c.fetch.new.engine c.in_ok-entry.field-0.entry (c.requires.worker, setup_held o c.requires.setup) refl refl
    c.in_ok-make_room.ensures.same c.push.ensures.added c.in_ok-entry.ensures.settings c.in_ok-entry.ensures.journal entry

pub invariant_of-self-2 : goal.invariant_of-self-2
invariant_of-self-2 g c =
    record {
      roomy = roomy g.D.Disk.seen g.D.Disk.may_leave g.D.Disk.moment g.D.Disk.left_since g.D.Disk.failures (view_of c.self.inside.policy c.self.inside.program c.fetch.new.engine c.self.inside.opening.engine.value c.self.inside.places c.push.new.self.list) c.make_room.new.entries.spare c.push.new.self.spare (gave_fetch g c).run
          c.in_ok-make_room.ensures.room c.push.ensures.room;
      length_is = c.self.invariant.length_is;
      faults_are = c.self.invariant.faults_are;
    }

input_told : (g : _) (c : goal.After-push g) → let v = c.args.self.now in IsGiven (state_of v).world.visible (fetching v.settings c.args.worker (state_of v).world).0 c.in_ok-entry.field-0.input
input_told g c =
    let r = c.self.inside in
    let v = c.args.self.now in
    let o = open_run r.policy r.program r.engine r.opening.engine.value r.places r.entries.list r.entries.spare v c.self.invariant.roomy c.self.view_is in
    c.in_ok-entry.ensures.input (rules_of v.settings v.program) (state_of v) (combine_held o) c.requires.policy (stands_held o)

input_is : (g : _) (c : goal.After-push g) → c.in_ok-entry.field-0.input ≡ Some c.in-Some.input
input_is g c = let part = c.in_ok-entry.input-is in let is = c.in-Some.is in cc

pub returns-clause-fetched : goal.returns-clause-fetched
returns-clause-fetched g c = λ input e.
    let v = c.args.self.now in
    let told = given_step (state_of v).world.visible (fetching v.settings c.args.worker (state_of v).world).0 c.in-Some.input (subst (IsGiven (state_of v).world.visible (fetching v.settings c.args.worker (state_of v).world).0) (input_is g c) (input_told g c)) in
    let same : c.in-Some.input ≡ input = cc in
    record { gave = gave_fetch g c; step = told.0; fetches = told.1; input_is = subst (IsInputBetween (state_of v).world.visible told.0) same told.2 }

pub returns-clause-none : goal.returns-clause-none
returns-clause-none g c =
    let v = c.args.self.now in
    let told = given_none v.settings c.args.worker (state_of v).world c.requires.free c.in_ok-entry.field-0.input (input_told g c) in
    (λ e. absurd cc, λ views. sym (input_is g c) ∙ told.1 views)
