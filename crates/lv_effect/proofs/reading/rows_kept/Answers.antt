use Rattle.std.proofs.Common.{◌≡◌, Bool, List, [], ◌∷◌, filter, sym, ap, ◌∙◌, subst}
use Rattle.std.proofs.lemmas.Result.{IfOk-weaker}
use Rattle.lv_values.specs.declared.value.Value.{Value}
use Rattle.lv_values.specs.Rows.{key_cmp}
use Rattle.lv_schema.specs.declared.change.Set.{Set}
use Rattle.lv_schema.specs.declared.table.TableDef.{TableDef}
use Rattle.lv_schema.specs.Effects.{matching}
use Rattle.lv_schema.specs.Once.{Ascends}
use Rattle.lv_schema.specs.Truth.{holds}
use Rattle.lv_schema.proofs.Replay.{ascends_filter}
use Rattle.lv_overlay.specs.Puts.{rows_over}
use Rattle.lv_versions.specs.Versions.{state_at}
use Rattle.lv_effect.specs.Sums.{RowSumsFit, SumsFit}
use Rattle.lv_effect.proofs.KeptRows.{kept_among, kept_over}
use Rattle.lv_effect.proofs.reading.rows_kept.Goals as goal

pub merged-requires : goal.merged-requires
merged-requires g c =
    let key = c.args.table.now.key in
    let rows = state_at c.args.n c.args.base.now.versions in
    let up = subst (λ (d : TableDef). Ascends (key_cmp d.key) rows) c.requires.table c.in_ok-kept.ensures.keyed in
    subst (Ascends (key_cmp key)) (sym c.in_ok-kept.ensures.rows) (ascends_filter (key_cmp key) (λ row. holds c.args.cond.now (row ∷ [])) rows up)

pub returns-clause-all : goal.returns-clause-all
returns-clause-all g c =
    let key = c.args.table.now.key in
    let t = c.args.table.now.no in
    let puts = c.args.own.now.list in
    let cond = c.args.cond.now in
    let p : List Value → Bool = λ row. holds cond (row ∷ []) in
    let rows = state_at c.args.n c.args.base.now.versions in
    let up = subst (λ (d : TableDef). Ascends (key_cmp d.key) rows) c.requires.table c.in_ok-kept.ensures.keyed in
    let own = c.writes_give_own_rows.ensures key puts t rows c.requires.own in
    let few = c.writes_give_own_rows.ensures key puts t (filter p rows) c.requires.own in
    IfOk-weaker c.merged.result (λ (tried : List (List Value)). tried ≡ rows_over key puts t c.in_ok-kept.kept) (λ (tried : List (List Value)). matching cond tried ≡ matching cond (rows_over key puts t rows))
    (λ (tried : List (List Value)) e. ap (matching cond) (e ∙ ap (rows_over key puts t) c.in_ok-kept.ensures.rows) ∙ kept_over key p t puts rows up own few) c.merged.ensures

pub returns-clause-sums : goal.returns-clause-sums
returns-clause-sums g c = λ (sets : List Set) fit.
    let key = c.args.table.now.key in
    let t = c.args.table.now.no in
    let puts = c.args.own.now.list in
    let p : List Value → Bool = λ row. holds c.args.cond.now (row ∷ []) in
    let rows = state_at c.args.n c.args.base.now.versions in
    let up = subst (λ (d : TableDef). Ascends (key_cmp d.key) rows) c.requires.table c.in_ok-kept.ensures.keyed in
    let own = c.writes_give_own_rows.ensures key puts t rows c.requires.own in
    let few = c.writes_give_own_rows.ensures key puts t (filter p rows) c.requires.own in
    IfOk-weaker c.merged.result (λ (tried : List (List Value)). tried ≡ rows_over key puts t c.in_ok-kept.kept) (λ (tried : List (List Value)). SumsFit sets tried)
    (λ (tried : List (List Value)) e. subst (SumsFit sets) (sym (e ∙ ap (rows_over key puts t) c.in_ok-kept.ensures.rows)) (kept_among key p t puts rows up own few (RowSumsFit sets) fit)) c.merged.ensures
