use Rattle.std.proofs.Common.{◌≡◌, ℕ, ◌+◌, None, false, true, List, Ok, refl, sym, ap, subst}
use Rattle.std.specs.List.{list_all}
use Rattle.lv_record.specs.Kept.{is_kept_action}
use Rattle.lv_schema.specs.declared.action.Action.{Action}
use Rattle.lv_schema.specs.declared.rec.Rec.{Rec}
use Rattle.lv_schema.specs.declared.rec.Rec.TheVariants.{Commit}
use Rattle.lv_schema.specs.Cases.{good}
use Rattle.lv_schema.specs.Cases as cases
use Rattle.lv_schema.specs.World.{World, transaction}
use Rattle.lv_schema.specs.UpkeepCases.{need, outcome_of}
use Rattle.lv_txn.specs.Kept.{transaction_at}
use Rattle.lv_store.specs.Alone.{MayCommitAlone, with_alone}
use Rattle.lv_store.specs.Committing.{next_record}
use Rattle.lv_store.specs.Answering.{with_visible, wrote}
use Rattle.lv_store.specs.Kept as store
use Rattle.lv_store.specs.Kept.{store_of}
use Rattle.lv_engine.specs.Kept.{engine_of, length_of}
use Rattle.lv_engine.specs.Writing.{LogsWrite}
use Rattle.lv_engine.proofs.AloneWrites.{alone_actions, alone_done, alone_not_written}
use Rattle.lv_engine.proofs.Writes.{err_is, logs_at, tells_at}
use Rattle.lv_engine.proofs.alone.write_alone.Goals as goal

pub write-requires : goal.write-requires
write-requires g c =
    let may = c.requires.may.1 in
    record {
      kept = subst (λ (actions : List Action). list_all is_kept_action actions ≡ true) (sym (alone_actions c.args.store.now c.requires.may.0 c.args.ready may))
          (c.written_records_can_be_kept.ensures.commit c.requires.may.0 may.whole.world.visible may.whole.stands.steady.sound);
    }

pub add_alone-requires-clause-may : goal.add_alone-requires-clause-may
add_alone-requires-clause-may g c =
    let same = c.actions_of-actions.ensures (c.last.result + 1) c.args.ready.actions refl in
    (c.requires.may.0, subst (λ (actions : List Action). MayCommitAlone c.requires.may.0 c.args.store.now (record { actions = actions; nets = c.args.ready.nets })) (sym same) c.requires.may.1, c.requires.may.2)

pub returns-in_err-write-clause-case : goal.returns-in_err-write-clause-case
returns-in_err-write-clause-case g c = λ session count w made settings limit may free is made_is.
    let p = c.args.store.now in
    let rec_is : Commit (c.last.result + 1) c.args.ready.actions ≡ next_record (store_of p) c.args.ready.actions = ap (λ (n : ℕ). Commit (n + 1) c.args.ready.actions) c.last.ensures in
    alone_not_written g.D.Disk.seen g.D.Disk.may_leave g.D.Disk.moment g.D.Disk.left_since session count c.args.ready.actions made w (engine_of p c.args.journal.now) (engine_of p c.write.new.journal) settings c.from_residual.result c.in_err-write.field-0.0 (err_is _ _ c.from_residual.ensures.1)
    (tells_at c.in_err-write.field-0.0 settings w.upkeep (Commit (c.last.result + 1) c.args.ready.actions) (next_record (store_of p) c.args.ready.actions) rec_is (c.in_err-write.ensures.outcome settings w.upkeep limit is.journal_is))
    (record { store_is = refl; length_is = c.in_err-write.ensures.stays }) is
    (logs_at g.D.Disk.seen g.D.Disk.may_leave g.D.Disk.moment g.D.Disk.left_since c.in_err-write.field-0.0 c.args.journal.now c.write.new.journal (Commit (c.last.result + 1) c.args.ready.actions) (next_record (store_of p) c.args.ready.actions) rec_is c.in_err-write.ensures.log)

pub returns-clause-case : goal.returns-clause-case
returns-clause-case g c = λ session count w made settings limit may free is made_is.
    let p = c.args.store.now in
    let rec_is : Commit (c.last.result + 1) c.args.ready.actions ≡ next_record (store_of p) c.args.ready.actions = ap (λ (n : ℕ). Commit (n + 1) c.args.ready.actions) c.last.ensures in
    let same = c.actions_of-actions.ensures (c.last.result + 1) c.args.ready.actions refl in
    let stands_then = subst
    (λ (actions : List Action). (s : ℕ) (v : World) → MayCommitAlone s p (record { actions = actions; nets = c.args.ready.nets }) → transaction_at (store_of p).sessions s ≡ None → store.Stands v (store_of (with_alone s actions p))
    → store.Stands (wrote (Commit ((store_of p).base.number + 1) actions) (cases.with_commit s (transaction s v.visible) v.visible) v) (store_of c.add_alone.new.self))
    same c.add_alone.ensures.case in
    alone_done g.D.Disk.seen g.D.Disk.may_leave g.D.Disk.moment g.D.Disk.left_since session count c.args.ready.actions made w (engine_of p c.args.journal.now) (engine_of c.add_alone.new.self c.write.new.journal) settings c.add_alone.result c.add_alone.ensures.number
    (subst (λ (rec : Rec). outcome_of settings false w.upkeep rec ≡ good) rec_is (c.in_ok-write.ensures.outcome settings w.upkeep limit is.journal_is))
    (stands_then session (with_visible made w) may free made_is)
    (subst (λ (rec : Rec). length_of c.write.new.journal ≡ need w.upkeep rec) rec_is (c.in_ok-write.ensures.longer w.upkeep is.journal_is))
    (subst (λ (rec : Rec). LogsWrite g.D.Disk.seen g.D.Disk.may_leave g.D.Disk.moment g.D.Disk.left_since (Ok tt) rec c.args.journal.now c.write.new.journal) rec_is c.in_ok-write.ensures.log)
