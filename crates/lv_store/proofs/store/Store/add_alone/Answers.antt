use Rattle.std.proofs.Common.{◌+◌, List, length, refl, sym, ap, ◌∙◌, subst, arith}
use Rattle.lv_schema.specs.declared.action.Action.{Action}
use Rattle.lv_schema.specs.declared.table.TableDef.{TableDef}
use Rattle.lv_tasks.specs.Kept.{IsLater, tasks_kept}
use Rattle.lv_stands.specs.Moves.{BaseCommits}
use Rattle.lv_base.specs.Bases.{base_of}
use Rattle.lv_base.proofs.Told.{told_tables}
use Rattle.lv_store.specs.declared.store.Store.{Store}
use Rattle.lv_store.specs.Kept.{kept, store_of}
use Rattle.lv_store.proofs.AloneParts.{then_stands, then_whole}
use Rattle.lv_store.proofs.store.Store.add_alone.Goals as goal

pub add_tasks-requires-clause-later : goal.add_tasks-requires-clause-later
add_tasks-requires-clause-later c = λ v.
    let p = c.args.self.now in
    let w = c.requires.whole.world in
    subst (λ n. IsLater (n + 1) (tasks_kept p.upkeep.kept.tasks v)) (sym c.last-number.ensures)
    (c.what_stands_is_whole.ensures.tasks w (kept w.upkeep.journal (store_of p)) v c.requires.whole.stands).0

pub add_tasks-requires-clause-fits : goal.add_tasks-requires-clause-fits
add_tasks-requires-clause-fits c = λ v.
    let p = c.args.self.now in
    let w = c.requires.whole.world in
    let few = (c.what_stands_is_whole.ensures.tasks w (kept w.upkeep.journal (store_of p)) v c.requires.whole.stands).1 in
    omega (arith, few, c.requires.may.1.may.entries, ap (λ (list : List Action). length list) c.as_slice.ensures)

pub returns-clause-case : goal.returns-clause-case
returns-clause-case c = λ session w may free is.
    let p = c.args.self.now in
    let new : Store = record p { base = c.commit.new.self; upkeep = c.add_tasks.new.upkeep } in
    then_stands p new session c.args.ready may free c.requires.some
    (subst (λ (defs : List TableDef). BaseCommits defs c.args.ready.actions (base_of p.base) (base_of c.commit.new.self))
    (told_tables c.requires.whole.world.visible c.requires.whole.world.upkeep.pruned p.base c.requires.whole.stands.base_stands ∙ sym c.requires.whole.stands.tables_are) c.commit.ensures.commits)
    c.last-number.result c.as_slice.result.now c.add_tasks.new.upkeep.kept c.last-number.ensures c.as_slice.ensures c.add_tasks.ensures refl w is

pub returns-clause-whole : goal.returns-clause-whole
returns-clause-whole c =
    let p = c.args.self.now in
    let new : Store = record p { base = c.commit.new.self; upkeep = c.add_tasks.new.upkeep } in
    then_whole p new c.requires.may.0 c.args.ready c.requires.may.1 c.requires.may.2 c.requires.some
    (subst (λ (defs : List TableDef). BaseCommits defs c.args.ready.actions (base_of p.base) (base_of c.commit.new.self))
    (told_tables c.requires.whole.world.visible c.requires.whole.world.upkeep.pruned p.base c.requires.whole.stands.base_stands ∙ sym c.requires.whole.stands.tables_are) c.commit.ensures.commits)
    c.last-number.result c.as_slice.result.now c.add_tasks.new.upkeep.kept c.last-number.ensures c.as_slice.ensures c.add_tasks.ensures refl refl refl
