use Rattle.std.proofs.Common.{◌≡◌, List, length, map, ap, ◌∙◌, subst}
use Rattle.lv_engine.specs.Kept.{EngineView}
use Rattle.lv_schema.specs.declared.table.TableDef.{TableDef}
use Rattle.lv_schema.specs.declared.view.ViewDef.{ViewDef}
use Rattle.lv_runner.proofs.Named.{renewed}
use Rattle.lv_runner.proofs.naming.renew_names.Goals as goal

pub returns : goal.returns
returns g c =
    let names = c.args.names.now in
    let tables = c.renew_tables.new.names in
    let views = c.renew_views.new.names in
    let tables_are = c.schema-schema.ensures.tables ∙ ap (λ (e : EngineView _). e.store.tables) c.engine.ensures in
    let views_are = c.schema-schema.ensures.views ∙ ap (λ (e : EngineView _). e.store.views) c.engine.ensures in
    renewed g.D.Disk.seen g.D.Disk.may_leave g.D.Disk.moment g.D.Disk.left_since g.D.Disk.failures c.args.core.now.run names tables views c.known.ensures.run c.requires
    (subst (λ (ts : List TableDef). (length names.tables ≡ length ts → names.tables ≡ map (λ t. t.name) ts) → tables ≡ map (λ t. t.name) ts) tables_are c.in_ok-renew_tables.ensures)
    (subst (λ (vs : List ViewDef). (length names.views ≡ length vs → names.views ≡ map (λ v. v.name) vs) → views ≡ map (λ v. v.name) vs) views_are c.in_ok-renew_views.ensures)
