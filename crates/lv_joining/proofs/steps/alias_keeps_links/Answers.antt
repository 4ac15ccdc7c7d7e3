use Rattle.std.proofs.Common.{◌≡◌, ◌↔◌, true, ℕ, List, IfOk, refl, sym, ap, ◌∙◌, subst}
use Rattle.std.specs.List.{filter}
use Rattle.lv_values.specs.Rows.{key_cmp}
use Rattle.lv_schema.specs.declared.table.TableDef.{TableDef}
use Rattle.lv_schema.specs.Nets.{net_of}
use Rattle.lv_schema.specs.Databases.{rows_of}
use Rattle.lv_schema.specs.Once.{Ascends}
use Rattle.lv_schema.specs.World.{snap, table_at}
use Rattle.lv_delta.specs.Kept.{DeltasKept, is_between}
use Rattle.lv_versions.specs.Versions.{Kept}
use Rattle.lv_joining.specs.Joining.{HaveStandIns, are_met, linked_columns}
use Rattle.lv_joining.proofs.KeptSteps.{def_is, entries_tell, none_lost, up_after, up_before}
use Rattle.lv_joining.proofs.Meeting.{net_tells}
use Rattle.lv_joining.proofs.steps.alias_keeps_links.Goals as goal

-- where no entry takes a row away, none goes
pub returns-then-not-take_away : goal.returns-then-not-take_away
returns-then-not-take_away c = λ w kept at.
    let b = c.args.base.now in
    let t = c.args.table in
    let step = c.args.step in
    let before = rows_of (snap w.visible step.lo) t in
    let after = rows_of (snap w.visible step.hi) t in
    let entries = c.between-entries.ensures ∙ ap (λ (d : DeltasKept). filter (is_between step.lo step.hi) d.entries) c.deltas.ensures.deltas in
    let none = none_lost w b step kept c.args.alias t at c.between-entries.result.now entries (sym c.take_away.ensures ∙ c.if-not-take_away.true) in
    let told = net_tells (table_at w.visible.tables t).key (linked_columns c.args.links.now c.args.alias) before after (up_before w b step kept t) (up_after w b step kept t) in
    (λ yes. told.0 (ap (λ rows. are_met (table_at w.visible.tables t).key (linked_columns c.args.links.now c.args.alias) rows (net_of before after).plus) none), λ all. refl)

pub returns : goal.returns
returns c = λ w kept at.
    let b = c.args.base.now in
    let t = c.args.table in
    let step = c.args.step in
    let before = rows_of (snap w.visible step.lo) t in
    let after = rows_of (snap w.visible step.hi) t in
    let key : c.as_slice.result.now ≡ (table_at w.visible.tables t).key =
    c.as_slice.ensures ∙ ap (λ (d : TableDef). d.key) (c.def-def.ensures ∙ ap (λ (v : Kept). v.def) c.versions.ensures.versions ∙ def_is w b step kept t) in
    let told =
    c.have_stand_ins.ensures before after
    (subst (λ (k : List ℕ). Ascends (key_cmp k) before) (sym key) (up_before w b step kept t))
    (subst (λ (k : List ℕ). Ascends (key_cmp k) after) (sym key) (up_after w b step kept t))
    (c.in_ok-net.ensures ∙ entries_tell w b step kept c.args.alias t at c.between-entries.result.now (c.between-entries.ensures ∙ ap (λ (d : DeltasKept). filter (is_between step.lo step.hi) d.entries) c.deltas.ensures.deltas)) in
    subst (λ (k : List ℕ). IfOk c.have_stand_ins.result (λ keeps. (keeps ≡ true) ↔ HaveStandIns k (linked_columns c.args.links.now c.args.alias) before after)) key told
