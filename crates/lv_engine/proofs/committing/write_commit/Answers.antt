use Rattle.std.proofs.Common.{◌≡◌, ℕ, ◌+◌, false, true, List, Ok, refl, sym, ap, ◌∙◌, subst}
use Rattle.std.specs.List.{list_all}
use Rattle.lv_record.specs.Kept.{is_kept_action}
use Rattle.lv_schema.specs.declared.action.Action.{Action}
use Rattle.lv_schema.specs.declared.rec.Rec.{Rec}
use Rattle.lv_schema.specs.declared.rec.Rec.TheVariants.{Commit}
use Rattle.lv_schema.specs.Cases.{good}
use Rattle.lv_schema.specs.Cases as cases
use Rattle.lv_schema.specs.World.{transaction}
use Rattle.lv_schema.specs.UpkeepCases.{need, outcome_of}
use Rattle.lv_txn.specs.Kept.{transaction_of}
use Rattle.lv_stands.proofs.Statements as stands
use Rattle.lv_store.specs.Committing.{next_record}
use Rattle.lv_store.specs.Answering.{wrote}
use Rattle.lv_store.specs.Kept as store
use Rattle.lv_store.specs.Kept.{store_of}
use Rattle.lv_store.proofs.Standing.{live_at}
use Rattle.lv_engine.specs.Kept.{engine_of, length_of}
use Rattle.lv_engine.specs.Writing.{LogsWrite}
use Rattle.lv_engine.proofs.Writes.{commit_done, commit_refused, err_is, logs_at, tells_at}
use Rattle.lv_engine.proofs.committing.write_commit.Goals as goal

pub write-requires : goal.write-requires
write-requires g c =
    let p = c.args.store.now in
    let whole = c.requires.whole in
    let w = whole.world in
    let k = transaction_of p.txns c.args.session in
    let kt = stands.transaction_of w.visible p.txns c.args.session k whole.stands.sessions_stand (live_at p.txns c.args.session c.requires.live) in
    record { kept = subst (λ (actions : List Action). list_all is_kept_action actions ≡ true) (sym (c.requires.may.actions_are ∙ kt.actions_are)) (c.written_records_can_be_kept.ensures.commit c.args.session w.visible whole.stands.steady.sound) }

pub returns-in_err-write-clause-case : goal.returns-in_err-write-clause-case
returns-in_err-write-clause-case g c = λ w settings limit is.
    let p = c.args.store.now in
    let rec_is : Commit (c.last.result + 1) c.args.ready.actions ≡ next_record (store_of p) c.args.ready.actions = ap (λ (n : ℕ). Commit (n + 1) c.args.ready.actions) c.last.ensures in
    commit_refused g.D.Disk.seen g.D.Disk.may_leave g.D.Disk.moment g.D.Disk.left_since c.args.session c.args.ready.actions w (engine_of p c.args.journal.now) (engine_of p c.write.new.journal) settings c.from_residual.result c.in_err-write.field-0.0 (err_is _ _ c.from_residual.ensures.1)
    (tells_at c.in_err-write.field-0.0 settings w.upkeep (Commit (c.last.result + 1) c.args.ready.actions) (next_record (store_of p) c.args.ready.actions) rec_is (c.in_err-write.ensures.outcome settings w.upkeep limit is.journal_is))
    (record { store_is = refl; length_is = c.in_err-write.ensures.stays }) is
    (logs_at g.D.Disk.seen g.D.Disk.may_leave g.D.Disk.moment g.D.Disk.left_since c.in_err-write.field-0.0 c.args.journal.now c.write.new.journal (Commit (c.last.result + 1) c.args.ready.actions) (next_record (store_of p) c.args.ready.actions) rec_is c.in_err-write.ensures.log)

pub returns-clause-case : goal.returns-clause-case
returns-clause-case g c = λ w settings limit is.
    let p = c.args.store.now in
    let rec_is : Commit (c.last.result + 1) c.args.ready.actions ≡ next_record (store_of p) c.args.ready.actions = ap (λ (n : ℕ). Commit (n + 1) c.args.ready.actions) c.last.ensures in
    commit_done g.D.Disk.seen g.D.Disk.may_leave g.D.Disk.moment g.D.Disk.left_since c.args.session c.args.ready.actions w (engine_of p c.args.journal.now) (engine_of c.add_commit.new.self c.write.new.journal) settings c.add_commit.result c.add_commit.ensures.number
    (subst (λ (rec : Rec). outcome_of settings false w.upkeep rec ≡ good) rec_is (c.in_ok-write.ensures.outcome settings w.upkeep limit is.journal_is))
    (subst (λ (actions : List Action). store.Stands (wrote (next_record (store_of p) actions) (cases.with_commit c.args.session (transaction c.args.session w.visible) w.visible) w) (store_of c.add_commit.new.self))
    (c.actions_of-actions.ensures (c.last.result + 1) c.args.ready.actions refl) (c.add_commit.ensures.case w is.store_stands))
    (subst (λ (rec : Rec). length_of c.write.new.journal ≡ need w.upkeep rec) rec_is (c.in_ok-write.ensures.longer w.upkeep is.journal_is))
    (subst (λ (rec : Rec). LogsWrite g.D.Disk.seen g.D.Disk.may_leave g.D.Disk.moment g.D.Disk.left_since (Ok tt) rec c.args.journal.now c.write.new.journal) rec_is c.in_ok-write.ensures.log)
