use Rattle.std.proofs.Common.{◌≡◌, ℕ, false, None, [], sym, ◌∙◌}
use Rattle.lv_schema.specs.UpkeepCases.{outcome_of}
use Rattle.lv_core.proofs.CaseAnswers.{alone_turn, answers_turn, open_turn}
use Rattle.lv_core.proofs.Standing.{live_told, none_is, open_is}
use Rattle.lv_core.specs.Answering.{is_live}
use Rattle.lv_engine.specs.Kept.{EngineView}
use Rattle.lv_txn.specs.Kept.{transaction_at}
use Rattle.lv_core.proofs.changing.change.Goals as goal

nobody : {D : Type 0} (e : EngineView D) (session : ℕ) → is_live e session ≡ false → transaction_at e.store.sessions session ≡ None
nobody e session h = none_is (transaction_at e.store.sessions session) h

pub change_alone-requires-clause-free : goal.change_alone-requires-clause-free
change_alone-requires-clause-free g c =
    let live = live_told c.args.engine.now c.args.session c.live.result c.is_some.result c.live.ensures c.is_some.ensures in
    (c.args.session, c.requires.session, nobody c.args.engine.now c.args.session (sym live ∙ c.if-is_some.false))

pub returns-then-is_some-clause-case : goal.returns-then-is_some-clause-case
returns-then-is_some-clause-case g c = λ w settings tasks limit stands.
    let live = live_told c.args.engine.now c.args.session c.live.result c.is_some.result c.live.ensures c.is_some.ensures in
    answers_turn g.D.Disk.seen g.D.Disk.may_leave g.D.Disk.moment g.D.Disk.left_since g.D.Disk.failures w c.args.engine.now c.change_inside.new.engine c.change_inside.result [] _ _
    (λ fails. open_turn (outcome_of settings fails w.upkeep) tasks c.args.session c.args.change.now w.visible (open_is w c.args.engine.now c.args.session stands ∙ sym live ∙ c.if-is_some.true)) (c.change_inside.ensures.case w stands)

pub returns-else-is_some-clause-case : goal.returns-else-is_some-clause-case
returns-else-is_some-clause-case g c = λ w settings tasks limit stands.
    let live = live_told c.args.engine.now c.args.session c.live.result c.is_some.result c.live.ensures c.is_some.ensures in
    answers_turn g.D.Disk.seen g.D.Disk.may_leave g.D.Disk.moment g.D.Disk.left_since g.D.Disk.failures w c.args.engine.now c.change_alone.new.engine c.change_alone.result [] _ _
    (λ fails. alone_turn (outcome_of settings fails w.upkeep) tasks c.args.session c.args.change.now w.visible (open_is w c.args.engine.now c.args.session stands ∙ sym live ∙ c.if-is_some.false)) (c.change_alone.ensures.case c.args.session w settings c.requires.session (nobody c.args.engine.now c.args.session (sym live ∙ c.if-is_some.false)) limit stands)
