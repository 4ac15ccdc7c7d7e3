use Rattle.std.proofs.Common.{◌≡◌, ℕ, Bool, false, Option, Some, None, Ok, refl, sym, ap, ◌∙◌, subst}
use Rattle.std.specs.Prelude.{Result}
use Rattle.lv_schema.specs.declared.rec.Rec.{Rec}
use Rattle.lv_schema.specs.Cases.{Case, Outcome, alone}
use Rattle.lv_schema.specs.UpkeepCases.{outcome_of}
use Rattle.lv_txn.specs.Kept.{transaction_at}
use Rattle.lv_effect.specs.declared.fault.EffectFault.{EffectFault}
use Rattle.lv_store.specs.declared.committing.Prepared.{Prepared}
use Rattle.lv_store.specs.declared.committing.Prepared.TheVariants as prepared
use Rattle.lv_store.specs.Alone.{IsPrepared, made_alone}
use Rattle.lv_store.specs.Kept.{StoreKept, store_of}
use Rattle.lv_engine.specs.declared.fault.AloneFault.{AloneFault}
use Rattle.lv_engine.specs.Alone.{WritesAlone}
use Rattle.lv_engine.specs.Answering.{create_fault, fails}
use Rattle.lv_engine.specs.Kept.{Stands, engine_of}
use Rattle.lv_engine.proofs.AloneWrites.{TellsAll, TellsChange, by_record, tells_done, tells_recorded, tells_refused}
use Rattle.lv_engine.proofs.Writes.{err_is}
use Rattle.lv_engine.proofs.alone.change_alone.Goals.{After-from_residual, After-from_residual-in_err-number-in-Ready, After-write_alone, In-Nothing}
use Rattle.lv_engine.proofs.alone.change_alone.Goals as goal

pub write_alone-requires-clause-may : goal.write_alone-requires-clause-may
write_alone-requires-clause-may g c =
    let session = c.requires.free.0 in
    let kept = c.in_ok-count.ensures.kept in
    (session, c.in_ok-count.ensures.may c.in_ok-count.count c.in-Ready.ready (λ i. Ok (c.in_ok-count.count, c.in-Ready.is i)) session c.requires.free.1, subst (λ (e : StoreKept). transaction_at e.sessions session ≡ None) (sym kept) c.requires.free.2)

pub write_alone-requires-clause-some : goal.write_alone-requires-clause-some
write_alone-requires-clause-some g c = c.in_ok-count.ensures.some c.in_ok-count.count c.in-Ready.ready (λ i. Ok (c.in_ok-count.count, c.in-Ready.is i))

-- refused before its record
refused : (g : _) (c : After-from_residual g) → TellsAll g.D.Disk.seen g.D.Disk.may_leave g.D.Disk.moment g.D.Disk.left_since (engine_of c.args.store.now c.args.journal.now) (engine_of c.prepare_alone.new.self c.args.journal.now) c.args.change.now c.from_residual.result
refused g c session w settings inside free limit is =
    let p = c.args.store.now in
    let old = engine_of p c.args.journal.now in
    let new = engine_of c.prepare_alone.new.self c.args.journal.now in
    let change = c.args.change.now in
    let e = c.in_err-count.field-0.0 in
    let out = outcome_of settings false w.upkeep in
    let case_if : Bool → Case (ℕ × Option ℕ) = λ fails. alone (outcome_of settings fails w.upkeep) session change w.visible in
    subst (TellsChange g.D.Disk.seen g.D.Disk.may_leave g.D.Disk.moment g.D.Disk.left_since w old new case_if) (sym (err_is _ _ c.from_residual.ensures.1))
    (tells_refused g.D.Disk.seen g.D.Disk.may_leave g.D.Disk.moment g.D.Disk.left_since w old new case_if is c.in_err-count.ensures.kept refl (made_alone session change w.visible) out session (store_of p) e (c.in_err-count.ensures.case session w out inside free is.store_stands))

pub returns-in_err-count-clause-case : goal.returns-in_err-count-clause-case
returns-in_err-count-clause-case g c = λ session w settings inside free limit is. (refused g c session w settings inside free limit is).case

pub returns-in_err-count-clause-log : goal.returns-in_err-count-clause-log
returns-in_err-count-clause-log g c = λ session w settings inside free limit is. (refused g c session w settings inside free limit is).log

-- without an action
nothing : (g : _) (c : In-Nothing g) → TellsAll g.D.Disk.seen g.D.Disk.may_leave g.D.Disk.moment g.D.Disk.left_since (engine_of c.args.store.now c.args.journal.now) (engine_of c.prepare_alone.new.self c.args.journal.now) c.args.change.now (Ok (c.in_ok-count.count, None))
nothing g c session w settings inside free limit is =
    let p = c.args.store.now in
    let change = c.args.change.now in
    let count = c.in_ok-count.count in
    let out = outcome_of settings false w.upkeep in
    let told = subst (λ (x : Prepared). IsPrepared (made_alone session change w.visible) w out session (store_of p) count x (alone out session change w.visible)) c.in-Nothing.is (c.in_ok-count.ensures.case session w out inside free is.store_stands) in
    tells_done g.D.Disk.seen g.D.Disk.may_leave g.D.Disk.moment g.D.Disk.left_since w (engine_of p c.args.journal.now) (engine_of c.prepare_alone.new.self c.args.journal.now) (λ fails. alone (outcome_of settings fails w.upkeep) session change w.visible) is c.in_ok-count.ensures.kept refl count told

pub returns-in-Nothing-clause-case : goal.returns-in-Nothing-clause-case
returns-in-Nothing-clause-case g c = λ session w settings inside free limit is. (nothing g c session w settings inside free limit is).case

pub returns-in-Nothing-clause-log : goal.returns-in-Nothing-clause-log
returns-in-Nothing-clause-log g c = λ session w settings inside free limit is. (nothing g c session w settings inside free limit is).log

-- by its record
recorded : (g : _) (c : After-write_alone g) (result : Result (ℕ × Option ℕ) AloneFault) → by_record c.in_ok-count.count c.write_alone.result ≡ result → TellsAll g.D.Disk.seen g.D.Disk.may_leave g.D.Disk.moment g.D.Disk.left_since (engine_of c.args.store.now c.args.journal.now) (engine_of c.write_alone.new.store c.write_alone.new.journal) c.args.change.now result
recorded g c result same session w settings inside free limit is =
    let p = c.args.store.now in
    let mid = c.prepare_alone.new.self in
    let j = c.args.journal.now in
    let change = c.args.change.now in
    let made = made_alone session change w.visible in
    let new = engine_of c.write_alone.new.store c.write_alone.new.journal in
    let kept = c.in_ok-count.ensures.kept in
    let count = c.in_ok-count.count in
    let ready = c.in-Ready.ready in
    let at : ◌≡◌ {A = Result (ℕ × Prepared) EffectFault} (Ok (count, c.in_ok-count.prepared)) (Ok (count, prepared.Ready ready)) = λ i. Ok (count, c.in-Ready.is i) in
    let out : Bool → Rec → Outcome = λ fails. outcome_of settings fails w.upkeep in
    let told = λ (fails : Bool). subst (λ (x : Prepared). IsPrepared made w (out fails) session (store_of p) count x (alone (out fails) session change w.visible)) c.in-Ready.is (c.in_ok-count.ensures.case session w (out fails) inside free is.store_stands) in
    let written = c.write_alone.ensures.case session count w made settings (limit ∙ ap (λ (e : StoreKept). e.settings.log_limit) (sym kept)) (c.in_ok-count.ensures.may count ready at session inside) (subst (λ (e : StoreKept). transaction_at e.sessions session ≡ None) (sym kept) free)
    (subst (λ (e : StoreKept). Stands w (record { store = e; journal = j })) (sym kept) is) (c.in_ok-count.ensures.made count ready at session w inside is.store_stands) in
    let case_if : Bool → Case (ℕ × Option ℕ) = λ fails. alone (out fails) session change w.visible in
    subst (TellsChange g.D.Disk.seen g.D.Disk.may_leave g.D.Disk.moment g.D.Disk.left_since w (engine_of p j) new case_if) same (tells_recorded g.D.Disk.seen g.D.Disk.may_leave g.D.Disk.moment g.D.Disk.left_since w (engine_of p j) new case_if session count ready.actions made out told c.write_alone.result
    (subst (λ (e : StoreKept). WritesAlone g.D.Disk.seen g.D.Disk.may_leave g.D.Disk.moment g.D.Disk.left_since session count ready.actions made w (record { store = e; journal = j }) new c.write_alone.result (out (fails create_fault c.write_alone.result))) kept written))

refused_record : (g : _) (c : After-from_residual-in_err-number-in-Ready g) → by_record c.in_ok-count.count c.write_alone.result ≡ c.from_residual-in_err-number-in-Ready.result
refused_record g c = ap (by_record c.in_ok-count.count) c.in_err-number-in-Ready.was ∙ sym (err_is _ _ c.from_residual-in_err-number-in-Ready.ensures.1)

pub returns-in_err-number-in-Ready-clause-case : goal.returns-in_err-number-in-Ready-clause-case
returns-in_err-number-in-Ready-clause-case g c = λ session w settings inside free limit is. (recorded g (goal.at.returns-in_err-number-in-Ready-clause-case g c).After-write_alone c.from_residual-in_err-number-in-Ready.result (refused_record g c) session w settings inside free limit is).case

pub returns-in_err-number-in-Ready-clause-log : goal.returns-in_err-number-in-Ready-clause-log
returns-in_err-number-in-Ready-clause-log g c = λ session w settings inside free limit is. (recorded g (goal.at.returns-in_err-number-in-Ready-clause-log g c).After-write_alone c.from_residual-in_err-number-in-Ready.result (refused_record g c) session w settings inside free limit is).log

pub returns-in_ok-number-in-Ready-clause-case : goal.returns-in_ok-number-in-Ready-clause-case
returns-in_ok-number-in-Ready-clause-case g c = λ session w settings inside free limit is. (recorded g (goal.at.returns-in_ok-number-in-Ready-clause-case g c).After-write_alone (Ok (c.in_ok-count.count, Some c.in_ok-number-in-Ready.number)) (ap (by_record c.in_ok-count.count) c.in_ok-number-in-Ready.was) session w settings inside free limit is).case

pub returns-in_ok-number-in-Ready-clause-log : goal.returns-in_ok-number-in-Ready-clause-log
returns-in_ok-number-in-Ready-clause-log g c = λ session w settings inside free limit is. (recorded g (goal.at.returns-in_ok-number-in-Ready-clause-log g c).After-write_alone (Ok (c.in_ok-count.count, Some c.in_ok-number-in-Ready.number)) (ap (by_record c.in_ok-count.count) c.in_ok-number-in-Ready.was) session w settings inside free limit is).log
