use Rattle.std.proofs.Common.{◌≡◌, false, List, Ok, OnErr, refl, sym, ap, ◌∙◌, subst}
use Rattle.std.specs.Prelude.{Result}
use Rattle.std.proofs.Math.Path.{subst₂}
use Rattle.lv_record.specs.Kept.{IsKept}
use Rattle.lv_schema.specs.declared.rec.Rec.{Rec}
use Rattle.lv_schema.specs.declared.table.TableDef.{TableDef}
use Rattle.lv_schema.specs.declared.view.ViewDef.{ViewDef}
use Rattle.lv_schema.specs.Bound.{IsBoundView}
use Rattle.lv_schema.specs.Cases.{good}
use Rattle.lv_schema.specs.Cases as cases
use Rattle.lv_schema.specs.Records.{view_record}
use Rattle.lv_schema.specs.UpkeepCases.{need, outcome_of}
use Rattle.lv_store.specs.Answering.{wrote}
use Rattle.lv_store.specs.Kept as store
use Rattle.lv_store.specs.Kept.{StoreKept, store_of}
use Rattle.lv_engine.specs.Kept.{engine_of, length_of}
use Rattle.lv_engine.specs.declared.fault.CreateFault.{CreateFault}
use Rattle.lv_engine.specs.Writing.{IsUntouched, LogsWrite}
use Rattle.lv_engine.proofs.Writes.{done, err_is, logged_at, logs_at, logs_done, memory_logs, memory_wanted, refused_at, tells_at, view_rec}
use Rattle.lv_engine.proofs.creating.create_view.Goals as goal

pub returns-in_err-rec-clause-case : goal.returns-in_err-rec-clause-case
returns-in_err-rec-clause-case g c = λ w settings limit is.
    memory_wanted w (engine_of c.args.store.now c.args.journal.now) (engine_of c.prepare_view.new.self c.args.journal.now) c.from_residual-in_err-rec.result (err_is _ _ c.from_residual-in_err-rec.ensures.1)
    (λ fails. cases.view_made (outcome_of settings fails w.upkeep) c.args.def w.visible) (record { store_is = c.prepare_view.ensures.kept; length_is = refl })

pub returns-in_err-rec-clause-log : goal.returns-in_err-rec-clause-log
returns-in_err-rec-clause-log g c = λ w settings limit is.
    memory_logs g.D.Disk.seen g.D.Disk.may_leave g.D.Disk.moment g.D.Disk.left_since c.args.journal.now c.args.journal.now refl c.from_residual-in_err-rec.result (err_is _ _ c.from_residual-in_err-rec.ensures.1)
    (λ fails. cases.view_made (outcome_of settings fails w.upkeep) c.args.def w.visible)

pub write-requires : goal.write-requires
write-requires g c =
    let whole = c.requires.whole in
    let w = whole.world in
    let is = whole.stands in
    let rec_is = view_rec w c.args.def c.in_ok-ready.ready.def c.prepare_view.new.self c.in_ok-ready.ensures.def (subst (store.Stands w) (sym c.prepare_view.ensures.kept) is) in
    let bound = subst₂ (λ (ts : List TableDef) (vs : List ViewDef). IsBoundView ts vs c.args.def) is.tables_are is.views_are c.requires.bound in
    record { kept = subst IsKept (sym (c.in_ok-rec.ensures ∙ rec_is)) (c.written_records_can_be_kept.ensures.view w.visible c.args.def is.steady.sound bound) }

pub returns-in_err-write-clause-case : goal.returns-in_err-write-clause-case
returns-in_err-write-clause-case g c = λ w settings limit is.
    let there = subst (store.Stands w) (sym c.prepare_view.ensures.kept) is.store_stands in
    let rec_is = c.in_ok-rec.ensures ∙ view_rec w c.args.def c.in_ok-ready.ready.def c.prepare_view.new.self c.in_ok-ready.ensures.def there in
    refused_at w (engine_of c.args.store.now c.args.journal.now) (engine_of c.prepare_view.new.self c.write.new.journal) (view_record c.args.def w.visible) tt (cases.with_view c.args.def w.visible)
    c.from_residual-in_err-write.result c.in_err-write.field-0.0 (err_is _ _ c.from_residual-in_err-write.ensures.1)
    (λ fails. outcome_of settings fails w.upkeep (view_record c.args.def w.visible))
    (tells_at c.in_err-write.field-0.0 settings w.upkeep c.in_ok-rec.rec (view_record c.args.def w.visible) rec_is
    (c.in_err-write.ensures.outcome settings w.upkeep (limit ∙ sym (ap (λ (e : StoreKept). e.settings.log_limit) c.prepare_view.ensures.kept)) is.journal_is))
    (record { store_is = c.prepare_view.ensures.kept; length_is = c.in_err-write.ensures.stays }) is

pub returns-in_err-write-clause-log : goal.returns-in_err-write-clause-log
returns-in_err-write-clause-log g c = λ w settings limit is.
    let there = subst (store.Stands w) (sym c.prepare_view.ensures.kept) is.store_stands in
    let rec_is = c.in_ok-rec.ensures ∙ view_rec w c.args.def c.in_ok-ready.ready.def c.prepare_view.new.self c.in_ok-ready.ensures.def there in
    logged_at w (engine_of c.args.store.now c.args.journal.now) (engine_of c.prepare_view.new.self c.write.new.journal) (view_record c.args.def w.visible) tt (cases.with_view c.args.def w.visible) g.D.Disk.seen g.D.Disk.may_leave g.D.Disk.moment g.D.Disk.left_since c.args.journal.now c.write.new.journal
    c.from_residual-in_err-write.result c.in_err-write.field-0.0 (err_is _ _ c.from_residual-in_err-write.ensures.1)
    (λ fails. outcome_of settings fails w.upkeep (view_record c.args.def w.visible))
    (tells_at c.in_err-write.field-0.0 settings w.upkeep c.in_ok-rec.rec (view_record c.args.def w.visible) rec_is
    (c.in_err-write.ensures.outcome settings w.upkeep (limit ∙ sym (ap (λ (e : StoreKept). e.settings.log_limit) c.prepare_view.ensures.kept)) is.journal_is))
    (logs_at g.D.Disk.seen g.D.Disk.may_leave g.D.Disk.moment g.D.Disk.left_since c.in_err-write.field-0.0 c.args.journal.now c.write.new.journal c.in_ok-rec.rec (view_record c.args.def w.visible) rec_is c.in_err-write.ensures.log)

pub returns-clause-case : goal.returns-clause-case
returns-clause-case g c = λ w settings limit is.
    let there = subst (store.Stands w) (sym c.prepare_view.ensures.kept) is.store_stands in
    let rec_is = c.in_ok-rec.ensures ∙ view_rec w c.args.def c.in_ok-ready.ready.def c.prepare_view.new.self c.in_ok-ready.ensures.def there in
    done w (engine_of c.args.store.now c.args.journal.now) (engine_of c.add_view.new.self c.write.new.journal) (view_record c.args.def w.visible) tt (cases.with_view c.args.def w.visible) (outcome_of settings false w.upkeep (view_record c.args.def w.visible))
    (subst (λ (rec : Rec). outcome_of settings false w.upkeep rec ≡ good) rec_is
    (c.in_ok-write.ensures.outcome settings w.upkeep (limit ∙ sym (ap (λ (e : StoreKept). e.settings.log_limit) c.prepare_view.ensures.kept)) is.journal_is))
    (subst (λ (def : ViewDef). store.Stands (wrote (view_record def w.visible) (cases.with_view def w.visible) w) (store_of c.add_view.new.self)) c.in_ok-ready.ensures.def (c.add_view.ensures.case w there))
    (subst (λ (rec : Rec). length_of c.write.new.journal ≡ need w.upkeep rec) rec_is (c.in_ok-write.ensures.longer w.upkeep is.journal_is))

pub returns-clause-log : goal.returns-clause-log
returns-clause-log g c = λ w settings limit is.
    let there = subst (store.Stands w) (sym c.prepare_view.ensures.kept) is.store_stands in
    let rec_is = c.in_ok-rec.ensures ∙ view_rec w c.args.def c.in_ok-ready.ready.def c.prepare_view.new.self c.in_ok-ready.ensures.def there in
    logs_done w (engine_of c.args.store.now c.args.journal.now) (engine_of c.add_view.new.self c.write.new.journal) (view_record c.args.def w.visible) tt (cases.with_view c.args.def w.visible) g.D.Disk.seen g.D.Disk.may_leave g.D.Disk.moment g.D.Disk.left_since c.args.journal.now c.write.new.journal
    (outcome_of settings false w.upkeep (view_record c.args.def w.visible))
    (subst (λ (rec : Rec). outcome_of settings false w.upkeep rec ≡ good) rec_is
    (c.in_ok-write.ensures.outcome settings w.upkeep (limit ∙ sym (ap (λ (e : StoreKept). e.settings.log_limit) c.prepare_view.ensures.kept)) is.journal_is))
    (subst (λ (rec : Rec). LogsWrite g.D.Disk.seen g.D.Disk.may_leave g.D.Disk.moment g.D.Disk.left_since (Ok tt) rec c.args.journal.now c.write.new.journal) rec_is c.in_ok-write.ensures.log)

pub returns-in_err-write-clause-untouched : goal.returns-in_err-write-clause-untouched
returns-in_err-write-clause-untouched g c = λ other.
    let same = err_is _ _ c.from_residual-in_err-write.ensures.1 in
    subst (λ (r : Result (Unit {0}) CreateFault). OnErr r (IsUntouched g.D.Disk.seen g.D.Disk.may_leave g.D.Disk.failures c.args.journal.now.disk c.write.new.journal.disk)) (sym same) (c.in_err-write.ensures.untouched (λ store. other (same ∙ store)))
