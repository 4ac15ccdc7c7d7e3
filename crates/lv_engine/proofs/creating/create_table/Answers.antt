use Rattle.std.proofs.Common.{◌≡◌, false, Ok, sym, ap, ◌∙◌, subst}
use Rattle.lv_record.specs.Kept.{IsKept}
use Rattle.lv_schema.specs.declared.rec.Rec.{Rec}
use Rattle.lv_schema.specs.declared.table.TableDef.{TableDef}
use Rattle.lv_schema.specs.Cases.{good}
use Rattle.lv_schema.specs.Cases as cases
use Rattle.lv_schema.specs.Records.{table_record}
use Rattle.lv_schema.specs.UpkeepCases.{need, outcome_of}
use Rattle.lv_store.specs.Answering.{wrote}
use Rattle.lv_store.specs.Kept as store
use Rattle.lv_store.specs.Kept.{StoreKept, store_of}
use Rattle.lv_engine.specs.Kept.{engine_of, length_of}
use Rattle.lv_engine.specs.Writing.{LogsWrite}
use Rattle.lv_engine.proofs.Writes.{done, err_is, logged_at, logs_at, logs_done, refused_at, tells_at}
use Rattle.lv_engine.proofs.creating.create_table.Goals as goal

pub write-requires : goal.write-requires
write-requires g c =
    let rec_is : c.table_record-rec.result ≡ table_record c.args.def = c.table_record-rec.ensures ∙ ap table_record c.in_ok-def.ensures.ready.copied_is in
    record { kept = subst IsKept (sym rec_is) (c.written_records_can_be_kept.ensures.table _ _ c.args.def c.requires.bound) }

pub returns-in_err-write-clause-case : goal.returns-in_err-write-clause-case
returns-in_err-write-clause-case g c = λ w settings limit is.
    let rec_is : c.table_record-rec.result ≡ table_record c.args.def = c.table_record-rec.ensures ∙ ap table_record c.in_ok-def.ensures.ready.copied_is in
    refused_at w (engine_of c.args.store.now c.args.journal.now) (engine_of c.prepare_table.new.self c.write.new.journal) (table_record c.args.def) tt (cases.with_table c.args.def w.visible) c.from_residual-in_err-write.result c.in_err-write.field-0.0 (err_is _ _ c.from_residual-in_err-write.ensures.1)
    (λ fails. outcome_of settings fails w.upkeep (table_record c.args.def))
    (tells_at c.in_err-write.field-0.0 settings w.upkeep c.table_record-rec.result (table_record c.args.def) rec_is (c.in_err-write.ensures.outcome settings w.upkeep (limit ∙ sym (ap (λ (e : StoreKept). e.settings.log_limit) c.prepare_table.ensures.kept)) is.journal_is))
    (record { store_is = c.prepare_table.ensures.kept; length_is = c.in_err-write.ensures.stays }) is

pub returns-in_err-write-clause-log : goal.returns-in_err-write-clause-log
returns-in_err-write-clause-log g c = λ w settings limit is.
    let rec_is : c.table_record-rec.result ≡ table_record c.args.def = c.table_record-rec.ensures ∙ ap table_record c.in_ok-def.ensures.ready.copied_is in
    logged_at w (engine_of c.args.store.now c.args.journal.now) (engine_of c.prepare_table.new.self c.write.new.journal) (table_record c.args.def) tt (cases.with_table c.args.def w.visible) g.D.Disk.seen g.D.Disk.may_leave g.D.Disk.moment g.D.Disk.left_since c.args.journal.now c.write.new.journal
    c.from_residual-in_err-write.result c.in_err-write.field-0.0 (err_is _ _ c.from_residual-in_err-write.ensures.1)
    (λ fails. outcome_of settings fails w.upkeep (table_record c.args.def))
    (tells_at c.in_err-write.field-0.0 settings w.upkeep c.table_record-rec.result (table_record c.args.def) rec_is (c.in_err-write.ensures.outcome settings w.upkeep (limit ∙ sym (ap (λ (e : StoreKept). e.settings.log_limit) c.prepare_table.ensures.kept)) is.journal_is))
    (logs_at g.D.Disk.seen g.D.Disk.may_leave g.D.Disk.moment g.D.Disk.left_since c.in_err-write.field-0.0 c.args.journal.now c.write.new.journal c.table_record-rec.result (table_record c.args.def) rec_is c.in_err-write.ensures.log)

pub returns-clause-case : goal.returns-clause-case
returns-clause-case g c = λ w settings limit is.
    let rec_is : c.table_record-rec.result ≡ table_record c.args.def = c.table_record-rec.ensures ∙ ap table_record c.in_ok-def.ensures.ready.copied_is in
    let def_is : c.in_ok-def.field-0.def ≡ c.args.def = c.in_ok-def.ensures.ready.def_is in
    done w (engine_of c.args.store.now c.args.journal.now) (engine_of c.add_table.new.self c.write.new.journal) (table_record c.args.def) tt (cases.with_table c.args.def w.visible) (outcome_of settings false w.upkeep (table_record c.args.def))
    (subst (λ (rec : Rec). outcome_of settings false w.upkeep rec ≡ good) rec_is (c.in_ok-write.ensures.outcome settings w.upkeep (limit ∙ sym (ap (λ (e : StoreKept). e.settings.log_limit) c.prepare_table.ensures.kept)) is.journal_is))
    (subst (λ (def : TableDef). store.Stands (wrote (table_record def) (cases.with_table def w.visible) w) (store_of c.add_table.new.self)) def_is
    (c.add_table.ensures.case w (subst (store.Stands w) (sym c.in_ok-def.ensures.kept) is.store_stands)))
    (subst (λ (rec : Rec). length_of c.write.new.journal ≡ need w.upkeep rec) rec_is (c.in_ok-write.ensures.longer w.upkeep is.journal_is))

pub returns-clause-log : goal.returns-clause-log
returns-clause-log g c = λ w settings limit is.
    let rec_is : c.table_record-rec.result ≡ table_record c.args.def = c.table_record-rec.ensures ∙ ap table_record c.in_ok-def.ensures.ready.copied_is in
    logs_done w (engine_of c.args.store.now c.args.journal.now) (engine_of c.add_table.new.self c.write.new.journal) (table_record c.args.def) tt (cases.with_table c.args.def w.visible) g.D.Disk.seen g.D.Disk.may_leave g.D.Disk.moment g.D.Disk.left_since c.args.journal.now c.write.new.journal
    (outcome_of settings false w.upkeep (table_record c.args.def))
    (subst (λ (rec : Rec). outcome_of settings false w.upkeep rec ≡ good) rec_is (c.in_ok-write.ensures.outcome settings w.upkeep (limit ∙ sym (ap (λ (e : StoreKept). e.settings.log_limit) c.prepare_table.ensures.kept)) is.journal_is))
    (subst (λ (rec : Rec). LogsWrite g.D.Disk.seen g.D.Disk.may_leave g.D.Disk.moment g.D.Disk.left_since (Ok tt) rec c.args.journal.now c.write.new.journal) rec_is c.in_ok-write.ensures.log)
