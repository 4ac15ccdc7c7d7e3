use Rattle.std.proofs.Common.{◌≡◌, true, length, refl, sym, ap, subst, arith}
use Rattle.std.specs.Prelude.{nat_lt, OnErr, Result, Ok, Err}
use Rattle.std.specs.List.{list_all}
use Rattle.lv_schema.specs.declared.forced.Forced.{Forced}
use Rattle.lv_schema.specs.World.{World}
use Rattle.lv_store.specs.Querying.{InPlaceOf, StepsInstall, changes_in, steps_in}
use Rattle.lv_store.specs.declared.store.Store.{Store}
use Rattle.lv_stands.specs.Moves.{least_read}
use Rattle.lv_store.specs.Kept.{Stands, kept, store_of}
use Rattle.lv_store.proofs.OwnReads.{points_long, rows_long}
use Rattle.lv_store.proofs.PendingSteps.{steps_install}
use Rattle.lv_store.proofs.Queries.{after_is, all_below, can_take_pending, forced_are_costs, gives, reads_nothing, reads_views, refused_store, refused_whole, steps_below, still_engine, taken_store}
use Rattle.lv_store.proofs.store.Store.query.Goals as goal

on_err : {A E P : Type 0} (r : Result A E) → P → OnErr r P
on_err (Ok a) h = tt
on_err (Err e) h = h

pub returns-in_err-found-clause-fresh : goal.returns-in_err-found-clause-fresh
returns-in_err-found-clause-fresh g c = λ w is none.
    let nothing = reads_nothing c.args.self.now c.args.session c.args.query.now c.requires.bound w is c.requires.live none in
    c.find.ensures.cost nothing.0 nothing.1

pub returns-clause-fresh : goal.returns-clause-fresh
returns-clause-fresh g c = λ w is none.
    let nothing = reads_nothing c.args.self.now c.args.session c.args.query.now c.requires.bound w is c.requires.live none in
    c.find.ensures.cost nothing.0 nothing.1

pub returns-in_err-take_steps-clause-fresh : goal.returns-in_err-take_steps-clause-fresh
returns-in_err-take_steps-clause-fresh g c = λ w is none.
    let nothing = reads_nothing c.args.self.now c.args.session c.args.query.now c.requires.bound w is c.requires.live none in
    c.find.ensures.cost nothing.0 nothing.1

pub take_steps-requires-clause-views : goal.take_steps-requires-clause-views
take_steps-requires-clause-views g c =
    let p = c.args.self.now in
    let whole = c.requires.whole in
    let taken = c.in_ok-found.found.taken in
    let place = c.in_ok-found.ensures.taken whole.world whole.stands in
    subst (λ steps. list_all (λ (f : Forced). nat_lt f.view (length p.upkeep.kept.points)) steps ≡ true) (sym c.as_slice.ensures)
    (all_below taken (length p.upkeep.kept.points)
    (steps_below p c.args.session c.args.query.now c.requires.bound whole.world whole.stands taken place.follow (length p.upkeep.kept.points) (omega (arith, points_long p whole.world whole.stands))))

pub take_steps-requires-clause-can : goal.take_steps-requires-clause-can
take_steps-requires-clause-can g c =
    let p = c.args.self.now in
    let whole = c.requires.whole in
    let found = c.in_ok-found.found in
    let told = c.in_ok-found.ensures in
    can_take_pending p c.args.session c.args.query.now c.requires.bound whole found.taken (told.taken whole.world whole.stands).follow found.pending told.pending

pub returns-clause-done : goal.returns-clause-done
returns-clause-done g c = λ w settings same is.
    let p = c.args.self.now in
    let session = c.args.session in
    let query = c.args.query.now in
    let bound = c.requires.bound in
    let whole = c.requires.whole in
    let found = c.in_ok-found.found in
    let told = c.in_ok-found.ensures in
    let done = c.in_ok-take_steps.ensures in
    let new = c.take_steps.new.self in
    let last = new.rows.list in
    let place : (w : World) → Stands w (store_of p) → InPlaceOf w (steps_in p session query) found.taken = λ w is. subst (λ steps. InPlaceOf w steps found.taken) told.forced (told.taken w is) in
    let below = steps_below p session query bound w is found.taken (place w is).follow (length p.rows.list) (omega (arith, rows_long p w is)) in
    let install : StepsInstall (least_read (kept 0 (store_of p))) (changes_in p) found.taken p.rows.list last = steps_install p (least_read (kept 0 (store_of p))) found.taken found.pending last told.pending below done.rows in
    gives p session query bound found.taken place c.requires.live whole.defs last install w is (whole.under session) settings same
    (record { forced = found.forced; rows = found.rows }) (store_of new) told.forced (told.rows (least_read (kept 0 (store_of p))) last done.rows)
    (after_is p session query bound found.taken place c.requires.live whole.defs last install c.as_slice.result.now (store_of new) c.as_slice.ensures (taken_store p new c.as_slice.result.now done.others done.upkeep))

pub returns-clause-whole : goal.returns-clause-whole
returns-clause-whole g c =
    let p = c.args.self.now in
    let session = c.args.session in
    let query = c.args.query.now in
    let bound = c.requires.bound in
    let whole = c.requires.whole in
    let found = c.in_ok-found.found in
    let told = c.in_ok-found.ensures in
    let done = c.in_ok-take_steps.ensures in
    let new = c.take_steps.new.self in
    let last = new.rows.list in
    let place : (w : World) → Stands w (store_of p) → InPlaceOf w (steps_in p session query) found.taken = λ w is. subst (λ steps. InPlaceOf w steps found.taken) told.forced (told.taken w is) in
    let below = steps_below p session query bound whole.world whole.stands found.taken (place whole.world whole.stands).follow (length p.rows.list) (omega (arith, rows_long p whole.world whole.stands)) in
    let install : StepsInstall (least_read (kept 0 (store_of p))) (changes_in p) found.taken p.rows.list last = steps_install p (least_read (kept 0 (store_of p))) found.taken found.pending last told.pending below done.rows in
    let others = done.others in
    still_engine p session query bound found.taken place c.requires.live whole.defs last install new whole (ap (λ (s : Store). s.settings) others) (ap (λ (s : Store). s.schema) others) (ap (λ (s : Store). s.txns) others) refl
    (after_is p session query bound found.taken place c.requires.live whole.defs last install c.as_slice.result.now (store_of new) c.as_slice.ensures (taken_store p new c.as_slice.result.now others done.upkeep))

pub returns-in_err-take_steps-clause-refused : goal.returns-in_err-take_steps-clause-refused
returns-in_err-take_steps-clause-refused g c =
    let told = c.in_err-take_steps.ensures in
    on_err c.from_residual-in_err-take_steps.result (refused_store c.args.self.now c.take_steps.new.self told.others told.refused)

pub returns-in_err-take_steps-clause-whole : goal.returns-in_err-take_steps-clause-whole
returns-in_err-take_steps-clause-whole g c =
    let told = c.in_err-take_steps.ensures in
    refused_whole c.args.self.now c.take_steps.new.self told.others told.refused c.requires.whole

pub returns-in_err-found-clause-most : goal.returns-in_err-found-clause-most
returns-in_err-found-clause-most g c = λ w settings same is views n costs.
    let p = c.args.self.now in
    let session = c.args.session in
    let query = c.args.query.now in
    let bound = c.requires.bound in
    c.find.ensures.most (reads_views p session query bound w is c.requires.live views) w is n (forced_are_costs p session query bound w is settings same n costs)

pub returns-clause-most : goal.returns-clause-most
returns-clause-most g c = λ w settings same is views n costs.
    let p = c.args.self.now in
    let session = c.args.session in
    let query = c.args.query.now in
    let bound = c.requires.bound in
    c.find.ensures.most (reads_views p session query bound w is c.requires.live views) w is n (forced_are_costs p session query bound w is settings same n costs)

pub returns-in_err-take_steps-clause-most : goal.returns-in_err-take_steps-clause-most
returns-in_err-take_steps-clause-most g c = λ w settings same is views n costs.
    let p = c.args.self.now in
    let session = c.args.session in
    let query = c.args.query.now in
    let bound = c.requires.bound in
    c.find.ensures.most (reads_views p session query bound w is c.requires.live views) w is n (forced_are_costs p session query bound w is settings same n costs)
