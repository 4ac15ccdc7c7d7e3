use Rattle.std.proofs.Common.{◌<◌, ap, ◌∙◌, subst, arith}
use Rattle.std.specs.Prelude.{Result}
use Rattle.lv_schema.specs.declared.fault.Fault.{Fault}
use Rattle.lv_schema.specs.Effects.{Effect}
use Rattle.lv_schema.specs.World.{table_at}
use Rattle.lv_effect.specs.Answered.{GivesEffect}
use Rattle.lv_base.specs.Bases.{table_in}
use Rattle.lv_stands.proofs.Whole.{last_is}
use Rattle.lv_store.specs.Kept.{kept, store_of}
use Rattle.lv_store.proofs.AloneParts.{alone_effect, alone_sums}
use Rattle.lv_store.proofs.store.Store.effect_alone.Goals as goal

pub effect-requires-clause-floor : goal.effect-requires-clause-floor
effect-requires-clause-floor g c =
    let p = c.args.self.now in
    let w = c.requires.whole.world in
    omega (arith, c.versions.ensures.floor, (last_is w (kept w.upkeep.journal (store_of p)) c.requires.whole.stands).1, c.last-snapshot.ensures)

pub effect-requires-clause-sums : goal.effect-requires-clause-sums
effect-requires-clause-sums g c =
    let p = c.args.self.now in
    let inside : 0 < 17 = omega arith in
    alone_sums p c.requires.whole 0 inside c.args.change.now c.requires.bound c.table.result.now c.versions.result.now c.last-snapshot.result c.new-own.result.list
    (c.table.ensures ∙ ap (λ t. table_at p.schema.tables t) c.changed_table-table.ensures)
    (c.versions.ensures.versions ∙ ap (λ t. table_in p.base.tables t) c.changed_table-table.ensures)
    c.last-snapshot.ensures c.new-own.ensures c.sums_of_a_bound_change_fit.ensures

pub returns : goal.returns
returns g c = record {
  given = λ w is.
      let p = c.args.self.now in
      let inside : 0 < 17 = omega arith in
      subst (λ (r : Result Effect Fault). GivesEffect c.effect.result r)
      (alone_effect p c.requires.whole 0 inside c.args.change.now c.requires.bound c.table.result.now c.versions.result.now c.last-snapshot.result c.new-own.result.list
      (c.table.ensures ∙ ap (λ t. table_at p.schema.tables t) c.changed_table-table.ensures)
      (c.versions.ensures.versions ∙ ap (λ t. table_in p.base.tables t) c.changed_table-table.ensures)
      c.last-snapshot.ensures c.new-own.ensures w is)
      c.effect.ensures.given;
}
