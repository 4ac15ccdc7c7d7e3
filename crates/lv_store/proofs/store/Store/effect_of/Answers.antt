use Rattle.std.proofs.Common.{ap, sym, ◌∙◌, subst, arith}
use Rattle.std.specs.Prelude.{Result}
use Rattle.lv_schema.specs.declared.fault.Fault.{Fault}
use Rattle.lv_schema.specs.Effects.{Effect}
use Rattle.lv_schema.specs.World.{table_at}
use Rattle.lv_effect.specs.Answered.{GivesEffect}
use Rattle.lv_base.specs.Bases.{table_in}
use Rattle.lv_store.proofs.ChangedParts.{effect_given, snapshot_is, sums_given}
use Rattle.lv_store.proofs.OwnReads.{snapshot_within}
use Rattle.lv_store.proofs.store.Store.effect_of.Goals as goal

pub effect-requires-clause-floor : goal.effect-requires-clause-floor
effect-requires-clause-floor g c =
    let p = c.args.self.now in
    omega (
      arith,
      c.versions.ensures.floor,
      snapshot_within p c.requires.whole.world c.requires.whole.stands c.args.session c.requires.live,
      snapshot_is p.txns c.args.session c.requires.live c.unwrap-snapshot.result (sym c.unwrap-snapshot.ensures ∙ c.live.ensures),
    )

pub effect-requires-clause-sums : goal.effect-requires-clause-sums
effect-requires-clause-sums g c =
    let p = c.args.self.now in
    sums_given p c.args.session c.requires.whole c.requires.live c.args.change.now c.requires.bound c.table.result.now c.versions.result.now c.unwrap-snapshot.result c.own.result.now.list
    (c.table.ensures ∙ ap (λ t. table_at p.schema.tables t) c.changed_table-table.ensures)
    (c.versions.ensures.versions ∙ ap (λ t. table_in p.base.tables t) c.changed_table-table.ensures)
    (snapshot_is p.txns c.args.session c.requires.live c.unwrap-snapshot.result (sym c.unwrap-snapshot.ensures ∙ c.live.ensures))
    c.own.ensures c.sums_of_a_bound_change_fit.ensures

pub returns : goal.returns
returns g c = record {
  given = λ w is.
      let p = c.args.self.now in
      subst (λ (r : Result Effect Fault). GivesEffect c.effect.result r)
      (effect_given p c.args.session c.requires.whole c.requires.live c.args.change.now c.requires.bound c.table.result.now c.versions.result.now c.unwrap-snapshot.result c.own.result.now.list
      (c.table.ensures ∙ ap (λ t. table_at p.schema.tables t) c.changed_table-table.ensures)
      (c.versions.ensures.versions ∙ ap (λ t. table_in p.base.tables t) c.changed_table-table.ensures)
      (snapshot_is p.txns c.args.session c.requires.live c.unwrap-snapshot.result (sym c.unwrap-snapshot.ensures ∙ c.live.ensures))
      c.own.ensures w is)
      c.effect.ensures.given;
}
