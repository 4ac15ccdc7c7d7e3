use Rattle.std.proofs.Common.{◌+◌, List, length, refl, sym, ap, ◌∙◌, subst, arith}
use Rattle.lv_schema.specs.declared.action.Action.{Action}
use Rattle.lv_schema.specs.declared.table.TableDef.{TableDef}
use Rattle.lv_tasks.specs.Kept.{IsLater, tasks_kept}
use Rattle.lv_stands.specs.Moves.{BaseCommits}
use Rattle.lv_base.specs.Bases.{base_of}
use Rattle.lv_base.proofs.Told.{told_tables}
use Rattle.lv_store.specs.declared.store.Store.{Store}
use Rattle.lv_store.specs.Kept.{kept, store_of}
use Rattle.lv_store.proofs.Commits.{kept_then, written_stands, written_whole}
use Rattle.lv_store.proofs.store.Store.add_commit.Goals as goal

pub add_tasks-requires-clause-later : goal.add_tasks-requires-clause-later
add_tasks-requires-clause-later c = λ v.
    let p = c.args.self.now in
    let w = c.requires.whole.world in
    subst (λ n. IsLater (n + 1) (tasks_kept p.upkeep.kept.tasks v)) (sym c.last-number.ensures)
    (c.what_stands_is_whole.ensures.tasks w (kept w.upkeep.journal (store_of p)) v c.requires.whole.stands).0

pub add_tasks-requires-clause-fits : goal.add_tasks-requires-clause-fits
add_tasks-requires-clause-fits c = λ v.
    let p = c.args.self.now in
    let w = c.requires.whole.world in
    let few = (c.what_stands_is_whole.ensures.tasks w (kept w.upkeep.journal (store_of p)) v c.requires.whole.stands).1 in
    omega (arith, few, c.requires.may.entries, ap (λ (list : List Action). length list) c.as_slice.ensures)

pub returns-clause-case : goal.returns-clause-case
returns-clause-case c = λ w is.
    let p = c.args.self.now in
    let new : Store = record p { base = c.commit.new.self; upkeep = c.add_tasks.new.upkeep; txns = c.end.new.self } in
    written_stands p new c.args.session c.args.ready c.requires.whole c.requires.live c.requires.some c.requires.may
    (subst (λ (defs : List TableDef). BaseCommits defs c.args.ready.actions (base_of p.base) (base_of c.commit.new.self))
    (told_tables c.requires.whole.world.visible c.requires.whole.world.upkeep.pruned p.base c.requires.whole.stands.base_stands ∙ sym c.requires.whole.stands.tables_are) c.commit.ensures.commits)
    (kept_then p new c.args.session c.last-number.result c.args.ready.actions c.as_slice.result.now c.add_tasks.new.upkeep.kept c.end.new.self c.last-number.ensures c.as_slice.ensures c.add_tasks.ensures c.end.ensures refl) w is

pub returns-clause-whole : goal.returns-clause-whole
returns-clause-whole c =
    let p = c.args.self.now in
    let new : Store = record p { base = c.commit.new.self; upkeep = c.add_tasks.new.upkeep; txns = c.end.new.self } in
    written_whole p new c.args.session c.args.ready c.requires.whole c.requires.live c.requires.some c.requires.may
    (subst (λ (defs : List TableDef). BaseCommits defs c.args.ready.actions (base_of p.base) (base_of c.commit.new.self))
    (told_tables c.requires.whole.world.visible c.requires.whole.world.upkeep.pruned p.base c.requires.whole.stands.base_stands ∙ sym c.requires.whole.stands.tables_are) c.commit.ensures.commits)
    (kept_then p new c.args.session c.last-number.result c.args.ready.actions c.as_slice.result.now c.add_tasks.new.upkeep.kept c.end.new.self c.last-number.ensures c.as_slice.ensures c.add_tasks.ensures c.end.ensures refl) refl refl
