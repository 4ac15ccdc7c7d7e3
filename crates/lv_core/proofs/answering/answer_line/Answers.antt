use Rattle.std.proofs.Common.{◌≡◌, sym, ◌∙◌, subst, rules}
use Rattle.std.specs.Prelude.{Result, Ok}
use Rattle.lv_schema.specs.declared.bound.Bound.{Bound}
use Rattle.lv_schema.specs.declared.bound.Bound.TheVariants as bound
use Rattle.lv_schema.specs.declared.fault.Fault.{Fault}
use Rattle.lv_schema.specs.Tasks.{pending_tasks}
use Rattle.lv_schema.specs.UpkeepCases.{outcome_of}
use Rattle.lv_plain.specs.declared.entry.Reply.TheVariants as reply
use Rattle.lv_plain.specs.Machine.{steps_of}
use Rattle.lv_plain.specs.Turns.{read_turn}
use Rattle.lv_store.specs.Answering.{IsCostBetween}
use Rattle.lv_store.specs.Inputs.{AreCosts}
use Rattle.lv_core.specs.Answering.{Answers, GivesTurn}
use Rattle.lv_core.proofs.CaseAnswers.{gives_shown}
use Rattle.lv_core.proofs.Standing.{line_told, live_told, ready_told}
use Rattle.lv_core.proofs.answering.answer_line.Goals as goal

ok_same : (a b : Bound) → ◌≡◌ {A = Result Bound Fault} (Ok a) (Ok b) → a ≡ b
ok_same a b e = cc

pub answer-requires : goal.answer-requires
answer-requires g c =
    let e = c.args.engine.now in
    let live = live_told e c.args.session c.live.result c.is_some-live.result c.live.ensures c.is_some-live.ensures in
    record { ready = ready_told e c.args.session c.args.line.now c.in-Ok.bound c.schema.result.now.tables c.schema.result.now.views c.is_some-live.result c.requires.next c.schema.ensures.tables c.schema.ensures.views live c.in-Ok.ensures.bound c.in-Ok.ensures.found }

pub returns-in-Ok-clause-case : goal.returns-in-Ok-clause-case
returns-in-Ok-clause-case g c = λ w settings combines limit stands.
    let e = c.args.engine.now in
    let live = live_told e c.args.session c.live.result c.is_some-live.result c.live.ensures c.is_some-live.ensures in
    let line = line_told w e c.args.session c.args.line.now c.schema.result.now.tables c.schema.result.now.views c.is_some-live.result stands c.schema.ensures.tables c.schema.ensures.views live in
    subst (λ (r : Result Bound Fault). Answers g.D.Disk.seen g.D.Disk.may_leave g.D.Disk.moment g.D.Disk.left_since g.D.Disk.failures w e c.answer.new.engine c.answer.result (steps_of settings c.args.session r w) (λ fails. read_turn (outcome_of settings fails w.upkeep) (pending_tasks w) c.args.session r w.visible))
    (sym (line ∙ c.in-Ok.ensures.found)) (c.answer.ensures.case w settings combines limit stands)

pub returns-in-Ok-clause-fresh : goal.returns-in-Ok-clause-fresh
returns-in-Ok-clause-fresh g c = λ w query stands is reading.
    let e = c.args.engine.now in
    let live = live_told e c.args.session c.live.result c.is_some-live.result c.live.ensures c.is_some-live.ensures in
    let line = line_told w e c.args.session c.args.line.now c.schema.result.now.tables c.schema.result.now.views c.is_some-live.result stands c.schema.ensures.tables c.schema.ensures.views live in
    c.answer.ensures.fresh w query stands (ok_same c.in-Ok.bound (bound.Query query) (sym (line ∙ c.in-Ok.ensures.found) ∙ is)) reading

pub returns-in-Ok-clause-most : goal.returns-in-Ok-clause-most
returns-in-Ok-clause-most g c = λ w settings query combines stands is reading n costs.
    let e = c.args.engine.now in
    let live = live_told e c.args.session c.live.result c.is_some-live.result c.live.ensures c.is_some-live.ensures in
    let line = line_told w e c.args.session c.args.line.now c.schema.result.now.tables c.schema.result.now.views c.is_some-live.result stands c.schema.ensures.tables c.schema.ensures.views live in
    c.answer.ensures.most w settings query combines stands (ok_same c.in-Ok.bound (bound.Query query) (sym (line ∙ c.in-Ok.ensures.found) ∙ is)) reading n
    (subst (λ (r : Result Bound Fault). AreCosts (IsCostBetween w.visible) (steps_of settings c.args.session r w) n) (line ∙ c.in-Ok.ensures.found) costs)

pub returns-in-Err-Stmt-clause-case : goal.returns-in-Err-Stmt-clause-case
returns-in-Err-Stmt-clause-case g c = λ w settings combines limit stands.
    let e = c.args.engine.now in
    let live = live_told e c.args.session c.live.result c.is_some-live.result c.live.ensures c.is_some-live.ensures in
    let line = line_told w e c.args.session c.args.line.now c.schema.result.now.tables c.schema.result.now.views c.is_some-live.result stands c.schema.ensures.tables c.schema.ensures.views live in
    let said : c.replied.result.reply ≡ reply.Refused c.in-Err-Stmt.fault = first_of (cc, search rules) in
    subst (λ (r : Result Bound Fault). GivesTurn g.D.Disk.seen g.D.Disk.may_leave g.D.Disk.moment g.D.Disk.left_since g.D.Disk.failures w e e (steps_of settings c.args.session r w) (λ fails. read_turn (outcome_of settings fails w.upkeep) (pending_tasks w) c.args.session r w.visible) c.replied.result)
    (sym (line ∙ c.in-Err-Stmt.ensures.refused c.in-Err-Stmt.fault cc))
    (gives_shown g.D.Disk.seen g.D.Disk.may_leave g.D.Disk.moment g.D.Disk.left_since g.D.Disk.failures w e (reply.Refused c.in-Err-Stmt.fault) c.replied.result c.replied.ensures.forced said stands)
