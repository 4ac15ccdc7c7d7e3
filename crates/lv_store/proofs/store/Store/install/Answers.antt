use Rattle.std.proofs.Common.{◌≡◌, ◌<◌, None, Some, length, sym, ap, ◌∙◌, subst, arith}
use Rattle.std.specs.Prelude.{slice_index, OnErr, Result, Ok, Err}
use Rattle.lv_upkeep.specs.Kept.{claim_kept}
use Rattle.lv_upkeep.specs.Moves.{upkeep_claimed}
use Rattle.lv_viewrows.specs.Changed.{CanInstall}
use Rattle.lv_stands.specs.Moves.{least_read}
use Rattle.lv_store.specs.Kept.{Stands, kept, rows_in, store_of}
use Rattle.lv_store.specs.Querying.{ViewInstalled}
use Rattle.lv_store.proofs.Forcing.{can_compute}
use Rattle.lv_store.proofs.OwnReads.{points_long, rows_long}
use Rattle.lv_store.proofs.WorkerSteps.{claim_in_use, claim_installs, claim_kept_step, gives_installed, gives_moved, installed_know, released_stands, same_know, same_rows, still_whole, takes_installed}
use Rattle.lv_store.proofs.store.Store.install.Goals as goal

on_err : {A E P : Type 0} (r : Result A E) → P → OnErr r P
on_err (Ok a) h = tt
on_err (Err e) h = h

pub point-point-requires : goal.point-point-requires
point-point-requires g c =
    let p = c.args.self.now in
    let whole = c.requires.whole in
    let f = c.unwrap-view.result in
    let claim : claim_kept p.upkeep.kept c.args.worker ≡ Some f = sym c.claim.ensures ∙ c.unwrap-view.ensures in
    omega (arith, claim_in_use p whole.world whole.stands c.args.worker f claim, points_long p whole.world whole.stands)

pub returns-then-point-lo-clause-done : goal.returns-then-point-lo-clause-done
returns-then-point-lo-clause-done g c = λ w is.
    let p = c.args.self.now in
    let f = c.unwrap-view.result in
    let claim : claim_kept p.upkeep.kept c.args.worker ≡ Some f = sym c.claim.ensures ∙ c.unwrap-view.ensures in
    gives_moved p w is c.args.worker f claim c.point-point.result c.point-point.ensures c.if-point-lo.true c.end_claim.new.self.kept c.end_claim.ensures.claimed

pub returns-then-point-lo-clause-whole : goal.returns-then-point-lo-clause-whole
returns-then-point-lo-clause-whole g c =
    let p = c.args.self.now in
    let whole = c.requires.whole in
    still_whole p p.base c.end_claim.new.self p.rows whole whole.defs _ (released_stands p c.args.worker c.end_claim.new.self.kept c.end_claim.ensures.claimed whole.world whole.stands)

pub step_changes-requires-clause-can : goal.step_changes-requires-clause-can
step_changes-requires-clause-can g c =
    let p = c.args.self.now in
    let whole = c.requires.whole in
    let f = c.unwrap-view.result in
    let claim : claim_kept p.upkeep.kept c.args.worker ≡ Some f = sym c.claim.ensures ∙ c.unwrap-view.ensures in
    let at : slice_index p.upkeep.kept.points f.view ≡ f.lo = sym c.point-point.ensures ∙ c.if-point-lo.false in
    can_compute p whole.world whole.stands f (claim_kept_step p whole.world whole.stands c.args.worker f claim at)

pub install_in-requires-clause-can : goal.install_in-requires-clause-can
install_in-requires-clause-can g c =
    let p = c.args.self.now in
    let whole = c.requires.whole in
    let f = c.unwrap-view.result in
    let claim : claim_kept p.upkeep.kept c.args.worker ≡ Some f = sym c.claim.ensures ∙ c.unwrap-view.ensures in
    let at : slice_index p.upkeep.kept.points f.view ≡ f.lo = sym c.point-point.ensures ∙ c.if-point-lo.false in
    subst (CanInstall (rows_in p.rows.list f.view) f.hi) (sym c.in_ok-changes.ensures.changes) (claim_installs p whole.world whole.stands c.args.worker f claim at whole.defs).1

pub returns-in_err-install_in-clause-refused : goal.returns-in_err-install_in-clause-refused
returns-in_err-install_in-clause-refused g c =
    let p = c.args.self.now in
    let same = same_rows c.unwrap-view.result.view p.rows.list c.install_in.new.rows.list c.in_err-install_in.ensures.refused in
    on_err c.from_residual-in_err-install_in.result (λ i. record (store_of p) { rows = same i })

pub returns-in_err-install_in-clause-whole : goal.returns-in_err-install_in-clause-whole
returns-in_err-install_in-clause-whole g c =
    let p = c.args.self.now in
    let whole = c.requires.whole in
    let f = c.unwrap-view.result in
    let claim : claim_kept p.upkeep.kept c.args.worker ≡ Some f = sym c.claim.ensures ∙ c.unwrap-view.ensures in
    let refused = c.in_err-install_in.ensures.refused in
    let new = c.install_in.new.rows in
    let lt : f.view < length p.rows.list = omega (arith, claim_in_use p whole.world whole.stands c.args.worker f claim, rows_long p whole.world whole.stands) in
    still_whole p p.base p.upkeep new whole (same_know p.schema.views f.view p.rows.list new.list lt refused whole.defs) whole.world
    (subst (λ rows. Stands whole.world (record (store_of p) { rows = rows })) (sym (same_rows f.view p.rows.list new.list refused)) whole.stands)

pub returns-clause-done : goal.returns-clause-done
returns-clause-done g c = λ w is.
    let p = c.args.self.now in
    let whole = c.requires.whole in
    let f = c.unwrap-view.result in
    let claim : claim_kept p.upkeep.kept c.args.worker ≡ Some f = sym c.claim.ensures ∙ c.unwrap-view.ensures in
    let at : slice_index p.upkeep.kept.points f.view ≡ f.lo = sym c.point-point.ensures ∙ c.if-point-lo.false in
    let done : ViewInstalled (least_read (kept 0 (store_of p))) f.hi c.in_ok-changes.changes f.view p.rows.list c.install_in.new.rows.list =
    subst (λ n. ViewInstalled n f.hi c.in_ok-changes.changes f.view p.rows.list c.install_in.new.rows.list) c.least_read-floor.ensures c.in_ok-install_in.ensures.done in
    gives_installed p w is c.args.worker f claim at whole.defs c.in_ok-changes.changes c.in_ok-changes.ensures.changes c.install_in.new.rows.list done c.end_claim-2.new.self.kept
    (c.end_claim-2.ensures.claimed ∙ ap (upkeep_claimed c.args.worker None) c.advance.ensures.moved)

pub returns-clause-whole : goal.returns-clause-whole
returns-clause-whole g c =
    let p = c.args.self.now in
    let whole = c.requires.whole in
    let f = c.unwrap-view.result in
    let claim : claim_kept p.upkeep.kept c.args.worker ≡ Some f = sym c.claim.ensures ∙ c.unwrap-view.ensures in
    let at : slice_index p.upkeep.kept.points f.view ≡ f.lo = sym c.point-point.ensures ∙ c.if-point-lo.false in
    let w = whole.world in
    let is = whole.stands in
    let set = c.end_claim-2.ensures.claimed ∙ ap (upkeep_claimed c.args.worker None) c.advance.ensures.moved in
    let new = c.install_in.new.rows in
    let done : ViewInstalled (least_read (kept 0 (store_of p))) f.hi c.in_ok-changes.changes f.view p.rows.list c.install_in.new.rows.list =
    subst (λ n. ViewInstalled n f.hi c.in_ok-changes.changes f.view p.rows.list c.install_in.new.rows.list) c.least_read-floor.ensures c.in_ok-install_in.ensures.done in
    still_whole p p.base c.end_claim-2.new.self new whole (installed_know p w is c.args.worker f claim at whole.defs c.in_ok-changes.changes c.in_ok-changes.ensures.changes new.list done c.end_claim-2.new.self.kept set) _
    (gives_installed p w is c.args.worker f claim at whole.defs c.in_ok-changes.changes c.in_ok-changes.ensures.changes new.list done c.end_claim-2.new.self.kept set).stands

pub returns-in_err-changes-clause-most : goal.returns-in_err-changes-clause-most
returns-in_err-changes-clause-most g c = λ w is.
    let p = c.args.self.now in
    let f = c.unwrap-view.result in
    let claim : claim_kept p.upkeep.kept c.args.worker ≡ Some f = sym c.claim.ensures ∙ c.unwrap-view.ensures in
    let at : slice_index p.upkeep.kept.points f.view ≡ f.lo = sym c.point-point.ensures ∙ c.if-point-lo.false in
    takes_installed p w is c.args.worker f claim at c.args.steps.now c.step_changes.new.steps c.in_err-changes.ensures.most

pub returns-in_err-install_in-clause-most : goal.returns-in_err-install_in-clause-most
returns-in_err-install_in-clause-most g c = λ w is.
    let p = c.args.self.now in
    let f = c.unwrap-view.result in
    let claim : claim_kept p.upkeep.kept c.args.worker ≡ Some f = sym c.claim.ensures ∙ c.unwrap-view.ensures in
    let at : slice_index p.upkeep.kept.points f.view ≡ f.lo = sym c.point-point.ensures ∙ c.if-point-lo.false in
    takes_installed p w is c.args.worker f claim at c.args.steps.now c.step_changes.new.steps c.in_ok-changes.ensures.most

pub returns-clause-most : goal.returns-clause-most
returns-clause-most g c = λ w is.
    let p = c.args.self.now in
    let f = c.unwrap-view.result in
    let claim : claim_kept p.upkeep.kept c.args.worker ≡ Some f = sym c.claim.ensures ∙ c.unwrap-view.ensures in
    let at : slice_index p.upkeep.kept.points f.view ≡ f.lo = sym c.point-point.ensures ∙ c.if-point-lo.false in
    takes_installed p w is c.args.worker f claim at c.args.steps.now c.step_changes.new.steps c.in_ok-changes.ensures.most
