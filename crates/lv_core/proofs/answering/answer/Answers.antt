use Rattle.std.proofs.Common.{◌≡◌, sym, ◌∙◌, subst}
use Rattle.std.specs.Prelude.{Ok}
use Rattle.lv_schema.specs.declared.bound.Bound.{Bound}
use Rattle.lv_schema.specs.declared.bound.Bound.TheVariants as bound
use Rattle.lv_schema.specs.declared.query.Query.{Query}
use Rattle.lv_schema.specs.Tasks.{pending_tasks}
use Rattle.lv_schema.specs.UpkeepCases.{outcome_of}
use Rattle.lv_plain.specs.Machine.{steps_of}
use Rattle.lv_plain.specs.Turns.{bound_turn}
use Rattle.lv_store.specs.Answering.{IsCostBetween, ReadsViews}
use Rattle.lv_store.specs.Inputs.{AreCosts}
use Rattle.lv_core.specs.Answering.{Answers}
use Rattle.lv_core.proofs.Standing.{ready_nobody}
use Rattle.lv_core.proofs.answering.answer.Goals as goal

query_same : (a b : Query) → bound.Query a ≡ bound.Query b → a ≡ b
query_same a b e = cc

pub create_view-requires-clause-nobody : goal.create_view-requires-clause-nobody
create_view-requires-clause-nobody g c = ready_nobody c.args.engine.now c.args.session c.args.statement c.in-View.def c.in-View.is c.requires.ready

pub returns-in-Change-clause-case : goal.returns-in-Change-clause-case
returns-in-Change-clause-case g c = λ w settings combines limit stands.
    subst (λ (b : Bound). Answers g.D.Disk.seen g.D.Disk.may_leave g.D.Disk.moment g.D.Disk.left_since g.D.Disk.failures w c.args.engine.now c.change.new.engine c.change.result (steps_of settings c.args.session (Ok b) w)
    (λ fails. bound_turn (outcome_of settings fails w.upkeep) (pending_tasks w) c.args.session b w.visible))
    (sym c.in-Change.is) (c.change.ensures.case w settings (pending_tasks w) limit stands)

pub returns-in-Table-clause-case : goal.returns-in-Table-clause-case
returns-in-Table-clause-case g c = λ w settings combines limit stands.
    subst (λ (b : Bound). Answers g.D.Disk.seen g.D.Disk.may_leave g.D.Disk.moment g.D.Disk.left_since g.D.Disk.failures w c.args.engine.now c.create_table.new.engine c.create_table.result (steps_of settings c.args.session (Ok b) w)
    (λ fails. bound_turn (outcome_of settings fails w.upkeep) (pending_tasks w) c.args.session b w.visible))
    (sym c.in-Table.is) (c.create_table.ensures.case w settings limit stands)

pub returns-in-View-clause-case : goal.returns-in-View-clause-case
returns-in-View-clause-case g c = λ w settings combines limit stands.
    subst (λ (b : Bound). Answers g.D.Disk.seen g.D.Disk.may_leave g.D.Disk.moment g.D.Disk.left_since g.D.Disk.failures w c.args.engine.now c.create_view.new.engine c.create_view.result (steps_of settings c.args.session (Ok b) w)
    (λ fails. bound_turn (outcome_of settings fails w.upkeep) (pending_tasks w) c.args.session b w.visible))
    (sym c.in-View.is) (c.create_view.ensures.case w settings limit stands)

pub returns-in-Commit-clause-case : goal.returns-in-Commit-clause-case
returns-in-Commit-clause-case g c = λ w settings combines limit stands.
    subst (λ (b : Bound). Answers g.D.Disk.seen g.D.Disk.may_leave g.D.Disk.moment g.D.Disk.left_since g.D.Disk.failures w c.args.engine.now c.commit.new.engine c.commit.result (steps_of settings c.args.session (Ok b) w)
    (λ fails. bound_turn (outcome_of settings fails w.upkeep) (pending_tasks w) c.args.session b w.visible))
    (sym c.in-Commit.is) (c.commit.ensures.case w settings limit stands)

pub returns-in-Query-clause-most : goal.returns-in-Query-clause-most
returns-in-Query-clause-most g c = λ w settings query combines stands is reads n costs.
    c.query.ensures.most w settings combines stands (subst (λ (q : Query). ReadsViews c.args.session q w) (query_same query c.in-Query.asked (sym is ∙ c.in-Query.is)) reads) n
    (subst (λ (b : Bound). AreCosts (IsCostBetween w.visible) (steps_of settings c.args.session (Ok b) w) n) c.in-Query.is costs)
