use Rattle.std.proofs.Common.{ℕ, sym, ap, ◌∙◌, subst}
use Rattle.lv_schema.specs.declared.rec.Rec.TheVariants.{Table}
use Rattle.lv_schema.specs.declared.table.TableDef.{TableDef}
use Rattle.lv_replay.specs.Replayed.{replayed}
use Rattle.lv_loading.specs.Loads.{LoadingKept, LoadingStands}
use Rattle.lv_loading.specs.Taking.{kept_in, with_table}
use Rattle.lv_loading.proofs.TakenTables.{table_taken, table_told}
use Rattle.lv_loading.proofs.parts.Parts.take_table.Goals as goal

pub returns : goal.returns
returns c = λ w is.
    let k = kept_in c.args.self.now in
    let def = c.args.def in
    let applied = sym (table_told k def w is) ∙ sym c.can_be_next.ensures ∙ c.if-not-can_be_next.false in
    let made = c.in_ok-add_table.ensures.added ∙ ap (λ (d : TableDef). with_table d k) (c.numbered-def.ensures ∙ ap (λ (n : ℕ). record def { no = n }) c.tables.ensures.count) in (
      applied,
      subst (λ (x : LoadingKept). LoadingStands (replayed (Table def) w) x) (sym made) (table_taken k def w is c.requires.kept applied),
    )
