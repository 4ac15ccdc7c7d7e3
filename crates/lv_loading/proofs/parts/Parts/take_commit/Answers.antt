use Rattle.std.proofs.Common.{◌≡◌, true, false, List, Some, refl, sym, ap, ◌∙◌, subst}
use Rattle.std.specs.Prelude.{Option}
use Rattle.lv_schema.specs.declared.action.Action.{Action}
use Rattle.lv_schema.specs.declared.rec.Rec.TheVariants.{Commit}
use Rattle.lv_replay.specs.Replayed.{replayed}
use Rattle.lv_stands.specs.Moves.{BaseCommits, with_tasks}
use Rattle.lv_base.specs.Bases.{base_of, defs_of}
use Rattle.lv_base.specs.declared.ready.Ready.{Ready}
use Rattle.lv_loading.specs.Loads.{LoadingKept, LoadingStands}
use Rattle.lv_loading.specs.Taking.{IsPrepared, kept_in}
use Rattle.lv_loading.proofs.TakenCommits.{base_fits, can_commit, commit_taken, prepared_told, refused_told, tables_told}
use Rattle.lv_loading.proofs.parts.Parts.take_commit.Goals as goal

pub may_commit-requires-clause-same : goal.may_commit-requires-clause-same
may_commit-requires-clause-same c = tables_told c.args.self.now c.requires.whole.0 c.requires.whole.1

pub may_commit-requires-clause-fits : goal.may_commit-requires-clause-fits
may_commit-requires-clause-fits c = base_fits c.args.self.now c.requires.whole.0 c.requires.whole.1

pub returns-then-not-branch : goal.returns-then-not-branch
returns-then-not-branch c = (λ w is. refused_told c.args.self.now c.args.number c.args.actions.now (sym c.in_ok-may_commit.ensures ∙ c.if-not-branch.true) w is, refl)

pub prepare-requires-clause-same : goal.prepare-requires-clause-same
prepare-requires-clause-same c = tables_told c.args.self.now c.requires.whole.0 c.requires.whole.1

pub prepare-requires-clause-can : goal.prepare-requires-clause-can
prepare-requires-clause-can c = can_commit c.args.self.now c.requires.whole.0 c.requires.whole.1 c.args.number c.args.actions.now (sym c.in_ok-may_commit.ensures ∙ c.if-not-branch.false)

pub returns-in-None : goal.returns-in-None
returns-in-None c = (
  λ w is.
      prepared_told c.args.self.now c.prepare.new.self c.prepare.ensures.kept c.args.number c.args.actions.now (sym c.in_ok-may_commit.ensures ∙ c.if-not-branch.false) false
      (subst (λ (o : Option Ready). IsPrepared c.args.actions.now c.prepare.new.self o) c.in-None.is c.in_ok-prepare.ensures.prepared) w is,
  c.prepare.ensures.kept,
)

pub returns-in-Some : goal.returns-in-Some
returns-in-Some c = λ w is.
    let old = c.args.self.now in
    let mid = c.prepare.new.self in
    let new = c.add_commit.new.self in
    let number = c.args.number in
    let actions = c.args.actions.now in
    let prepared : IsPrepared actions mid (Some c.in-Some.ready) = subst (λ (o : Option Ready). IsPrepared actions mid o) c.in-Some.is c.in_ok-prepare.ensures.prepared in
    let applied = prepared_told old mid c.prepare.ensures.kept number actions (sym c.in_ok-may_commit.ensures ∙ c.if-not-branch.false) true prepared.0 w is in
    let there : LoadingStands w (kept_in mid) = subst (λ (k : LoadingKept). LoadingStands w k) (sym c.prepare.ensures.kept) is in
    let commits : BaseCommits (defs_of mid.base) actions (base_of mid.base) (base_of new.base) = subst (λ (list : List Action). BaseCommits (defs_of mid.base) list (base_of mid.base) (base_of new.base)) prepared.1 c.add_commit.ensures.commits in
    let taken = commit_taken (kept_in mid) number actions w there applied (defs_of mid.base) (base_of new.base) (sym (tables_told mid w there)) commits c.requires.kept in
    let upkeep : new.upkeep.kept ≡ record mid.upkeep.kept { tasks = with_tasks number actions mid.schema.views mid.upkeep.kept.tasks } =
    c.add_commit.ensures.upkeep ∙ ap (λ (list : List Action). record mid.upkeep.kept { tasks = with_tasks number list mid.schema.views mid.upkeep.kept.tasks }) prepared.1 in
    let schema = c.add_commit.ensures.schema in
    let same : kept_in new ≡ record (kept_in mid) { base = base_of new.base; upkeep = record mid.upkeep.kept { tasks = with_tasks number actions mid.schema.views mid.upkeep.kept.tasks } } =
    λ i. record { tables = (schema i).tables; views = (schema i).views; base = base_of new.base; upkeep = upkeep i } in
    (applied, subst (λ (k : LoadingKept). LoadingStands (replayed (Commit number actions) w) k) (sym same) taken)
