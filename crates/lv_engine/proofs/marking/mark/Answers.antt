use Rattle.std.proofs.Common.{◌≡◌, ℕ, true, false, Some, Ok, refl, sym, ap, ◌∙◌, subst}
use Rattle.lv_schema.specs.declared.rec.Rec.{Rec}
use Rattle.lv_schema.specs.declared.rec.Rec.TheVariants.{Mark}
use Rattle.lv_schema.specs.Cases.{good}
use Rattle.lv_schema.specs.UpkeepCases.{mark_record, need, outcome_of}
use Rattle.lv_schema.specs.World as schema
use Rattle.lv_engine.specs.Kept.{engine_of, length_of}
use Rattle.lv_engine.specs.Writing.{LogsWrite}
use Rattle.lv_engine.proofs.Marked.{already_done, apart_test, mark_done, mark_logged, mark_logs, mark_refused, point_is, same_test, test_is}
use Rattle.lv_engine.proofs.Writes.{err_is, logs_at, tells_at}
use Rattle.lv_engine.proofs.marking.mark.Goals as goal

pub returns-then-marked-point-clause-case : goal.returns-then-marked-point-clause-case
returns-then-marked-point-clause-case g c = λ w settings limit is.
    let e = engine_of c.args.store.now c.args.journal.now in
    let test = test_is w e e c.args.view is true (same_test _ _ (sym c.marked.ensures ∙ c.if-marked-point.true ∙ c.point-point.ensures)) in
    already_done w e e c.args.view is (outcome_of settings false w.upkeep) test

pub returns-in_err-write-clause-case : goal.returns-in_err-write-clause-case
returns-in_err-write-clause-case g c = λ w settings limit is.
    let e = engine_of c.args.store.now c.args.journal.now in
    let new = engine_of c.args.store.now c.write.new.journal in
    let test = test_is w e new c.args.view is false (apart_test _ _ (λ same. c.if-marked-point.false (c.marked.ensures ∙ same ∙ sym c.point-point.ensures))) in
    let rec_is : Mark c.args.view c.point-point.result ≡ mark_record c.args.view w.upkeep = ap (Mark c.args.view) (c.point-point.ensures ∙ point_is w e new c.args.view is) in
    mark_refused w e new c.args.view is test c.from_residual.result c.in_err-write.field-0.0 (err_is _ _ c.from_residual.ensures.1) settings
    (tells_at c.in_err-write.field-0.0 settings w.upkeep (Mark c.args.view c.point-point.result) (mark_record c.args.view w.upkeep) rec_is (c.in_err-write.ensures.outcome settings w.upkeep limit is.journal_is))
    (record { store_is = refl; length_is = c.in_err-write.ensures.stays })

pub returns-in_err-write-clause-log : goal.returns-in_err-write-clause-log
returns-in_err-write-clause-log g c = λ w settings limit is.
    let e = engine_of c.args.store.now c.args.journal.now in
    let new = engine_of c.args.store.now c.write.new.journal in
    let test = test_is w e new c.args.view is false (apart_test _ _ (λ same. c.if-marked-point.false (c.marked.ensures ∙ same ∙ sym c.point-point.ensures))) in
    let rec_is : Mark c.args.view c.point-point.result ≡ mark_record c.args.view w.upkeep = ap (Mark c.args.view) (c.point-point.ensures ∙ point_is w e new c.args.view is) in
    mark_logged w e new c.args.view is test g.D.Disk.seen g.D.Disk.may_leave g.D.Disk.moment g.D.Disk.left_since c.args.journal.now c.write.new.journal c.from_residual.result c.in_err-write.field-0.0 (err_is _ _ c.from_residual.ensures.1) settings
    (tells_at c.in_err-write.field-0.0 settings w.upkeep (Mark c.args.view c.point-point.result) (mark_record c.args.view w.upkeep) rec_is (c.in_err-write.ensures.outcome settings w.upkeep limit is.journal_is))
    (logs_at g.D.Disk.seen g.D.Disk.may_leave g.D.Disk.moment g.D.Disk.left_since c.in_err-write.field-0.0 c.args.journal.now c.write.new.journal (Mark c.args.view c.point-point.result) (mark_record c.args.view w.upkeep) rec_is c.in_err-write.ensures.log)

pub returns-clause-case : goal.returns-clause-case
returns-clause-case g c = λ w settings limit is.
    let e = engine_of c.args.store.now c.args.journal.now in
    let new = engine_of c.mark.new.self c.write.new.journal in
    let test = test_is w e new c.args.view is false (apart_test _ _ (λ same. c.if-marked-point.false (c.marked.ensures ∙ same ∙ sym c.point-point.ensures))) in
    let at : c.point-point.result ≡ schema.point w.upkeep c.args.view = c.point-point.ensures ∙ point_is w e new c.args.view is in
    let rec_is : Mark c.args.view c.point-point.result ≡ mark_record c.args.view w.upkeep = ap (Mark c.args.view) at in
    let done = mark_done w e new c.args.view is test (outcome_of settings false w.upkeep)
    (subst (λ (rec : Rec). outcome_of settings false w.upkeep rec ≡ good) rec_is (c.in_ok-write.ensures.outcome settings w.upkeep limit is.journal_is))
    (c.mark.ensures.case w is.store_stands)
    (subst (λ (rec : Rec). length_of c.write.new.journal ≡ need w.upkeep rec) rec_is (c.in_ok-write.ensures.longer w.upkeep is.journal_is)) in
    (done.0 ∙ ap (λ (n : ℕ). Ok (Some n)) (sym at), done.1)

pub returns-clause-log : goal.returns-clause-log
returns-clause-log g c = λ w settings limit is.
    let e = engine_of c.args.store.now c.args.journal.now in
    let new = engine_of c.mark.new.self c.write.new.journal in
    let test = test_is w e new c.args.view is false (apart_test _ _ (λ same. c.if-marked-point.false (c.marked.ensures ∙ same ∙ sym c.point-point.ensures))) in
    let rec_is : Mark c.args.view c.point-point.result ≡ mark_record c.args.view w.upkeep = ap (Mark c.args.view) (c.point-point.ensures ∙ point_is w e new c.args.view is) in
    mark_logs w e new c.args.view is test g.D.Disk.seen g.D.Disk.may_leave g.D.Disk.moment g.D.Disk.left_since c.args.journal.now c.write.new.journal (outcome_of settings false w.upkeep)
    (subst (λ (rec : Rec). outcome_of settings false w.upkeep rec ≡ good) rec_is (c.in_ok-write.ensures.outcome settings w.upkeep limit is.journal_is))
    (subst (λ (rec : Rec). LogsWrite g.D.Disk.seen g.D.Disk.may_leave g.D.Disk.moment g.D.Disk.left_since (Ok tt) rec c.args.journal.now c.write.new.journal) rec_is c.in_ok-write.ensures.log)
