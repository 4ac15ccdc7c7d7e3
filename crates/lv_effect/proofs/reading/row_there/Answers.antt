use Rattle.std.proofs.Common.{◌≡◌, ◌∙◌, List, Option, None, Some, sym, ap, subst}
use Rattle.std.specs.Prelude.{MatchOption, unwrap_or}
use Rattle.lv_values.specs.declared.value.Value.{Value}
use Rattle.lv_schema.specs.Keys.{row_at}
use Rattle.lv_overlay.specs.Puts.{rows_over}
use Rattle.lv_versions.specs.Versions.{row_with, state_at}
use Rattle.lv_effect.proofs.KeyedRows.{read_row}
use Rattle.lv_effect.proofs.reading.row_there.Goals as goal

pub returns-in-None-clause-found : goal.returns-in-None-clause-found
returns-in-None-clause-found g c =
    let key = c.args.table.now.key in
    let k = c.args.key.now in
    let no = c.args.table.now.no in
    let puts = c.args.own.now.list in
    let below = state_at c.args.n c.args.base.now.versions in
    let own = c.writes_give_own_rows.ensures key puts no below c.requires.own in
    let is : row_at key k (rows_over key puts no below) ≡ row_at key k below = own.each k ∙ ap (λ o. unwrap_or o (row_at key k below)) c.in-None.ensures in
    let def : row_with c.args.base.now.def.key k below ≡ row_at key k below = ap (λ d. row_with d.key k below) c.requires.table ∙ read_row key k below in
    subst (λ (o : Option (List Value)). MatchOption c.read.result (o ≡ None) (λ row. o ≡ Some row.now)) (def ∙ sym is) c.read.ensures.found
