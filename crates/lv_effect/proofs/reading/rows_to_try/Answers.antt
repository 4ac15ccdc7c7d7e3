use Rattle.std.proofs.Common.{◌≡◌, ◌∙◌, List, Option, option_to_list, sym, ap, subst}
use Rattle.std.specs.Prelude.{MatchOption}
use Rattle.lv_values.specs.declared.value.Value.{Value}
use Rattle.lv_schema.specs.Effects.{matching}
use Rattle.lv_schema.specs.Keys.{row_at}
use Rattle.lv_overlay.specs.Puts.{rows_over}
use Rattle.lv_versions.specs.Versions.{state_at}
use Rattle.lv_effect.specs.FixedKeys.{FixesKey}
use Rattle.lv_effect.specs.Sums.{RowSumsFit, SumsFit}
use Rattle.lv_effect.proofs.KeyedRows.{all_there, if_ok, matching_there}
use Rattle.lv_effect.proofs.reading.rows_to_try.Goals as goal

pub returns-in-Some-clause-all : goal.returns-in-Some-clause-all
returns-in-Some-clause-all g c =
    let key = c.args.table.now.key in
    let cond = c.args.cond.now in
    let k = c.in-Some.key in
    let puts = c.args.own.now.list in
    let no = c.args.table.now.no in
    let below = state_at c.args.n c.args.base.now.versions in
    let merged = rows_over key puts no below in
    let own = c.writes_give_own_rows.ensures key puts no below c.requires.own in
    let there : FixesKey c.as_slice.result.now cond k = subst (λ (o : Option (List Value)). MatchOption o (Unit {0}) (λ v. FixesKey c.as_slice.result.now cond v)) c.in-Some.is c.in_ok-key.ensures.fixes in
    let fixes : FixesKey key cond k = subst (λ ps. FixesKey ps cond k) c.as_slice.ensures there in
    if_ok (λ (rows : List (List Value)). rows ≡ option_to_list (row_at key k merged)) (λ (rows : List (List Value)). matching cond rows ≡ matching cond merged)
    (λ rows e. ap (matching cond) e ∙ matching_there key cond k merged fixes own.ascend) c.rows_there.result c.rows_there.ensures.rows

pub returns-in-Some-clause-sums : goal.returns-in-Some-clause-sums
returns-in-Some-clause-sums g c = λ sets h.
    let key = c.args.table.now.key in
    let k = c.in-Some.key in
    let merged = rows_over key c.args.own.now.list c.args.table.now.no (state_at c.args.n c.args.base.now.versions) in
    if_ok (λ (rows : List (List Value)). rows ≡ option_to_list (row_at key k merged)) (λ (rows : List (List Value)). SumsFit sets rows)
    (λ rows e. subst (SumsFit sets) (sym e) (all_there (RowSumsFit sets) key k merged h)) c.rows_there.result c.rows_there.ensures.rows
