use Rattle.std.proofs.Common.{◌≡◌, ◌+◌, ◌≤◌, List, drop, take, length, filter, ap, ◌∙◌, subst}
use Rattle.std.specs.Prelude.{OnErr, OnOk}
use Rattle.std.specs.Option.{option_copied}
use Rattle.std.proofs.lemmas.Result.{IfOk-weaker}
use Rattle.lv_values.specs.declared.value.Value.{Value}
use Rattle.lv_values.specs.Rows.{key_cmp}
use Rattle.lv_schema.specs.Once.{Ascends}
use Rattle.lv_shelf.specs.Chains.{joined}
use Rattle.lv_versions.specs.Versions.{Kept, rows_within, state_at}
use Rattle.lv_versions.proofs.Between.{at_most, fewer_within, passing_within}
use Rattle.lv_versions.proofs.Chaining.{histories}
use Rattle.lv_versions.proofs.ReadingChains.{rows_between_chains}
use Rattle.lv_versions.proofs.Standing.{state_ascends}
use Rattle.lv_versions.proofs.versions.Versions.scan_between.Goals as goal

pub rows_in-requires-clause-histories : goal.rows_in-requires-clause-histories
rows_in-requires-clause-histories g c = histories c.args.self.now.def.key c.seen-seen.result c.seen-seen.ensures.stand c.seen-seen.ensures.chained

pub returns : goal.returns
returns g c =
    let n = c.args.n in
    let cs = c.seen-seen.result in
    let p = g.T.Test.passed c.args.test.now in
    let now = c.args.self.now in
    let key = now.def.key in
    let low = c.args.low in
    let high = c.args.high in
    let found = state_at n (joined (drop c.place_of_low-first.result (take c.place_of_high-end.result cs))) in
    let within = rows_within key (option_copied low) (option_copied high) (state_at n now.versions) in
    let is : found ≡ within =
    rows_between_chains c.as_slice-positions.result.now low high n c.place_of_low-first.result c.place_of_high-end.result cs c.place_of_low-first.ensures.cut c.place_of_high-end.ensures.cut
    ∙ ap (λ ks. rows_within ks (option_copied low) (option_copied high) (state_at n (joined cs))) (c.as_slice-positions.ensures ∙ ap (λ (k : Kept). k.def.key) c.self.view_is)
    ∙ ap (rows_within key (option_copied low) (option_copied high)) c.seen-seen.ensures.rows in
    let cost = subst (λ l. OnOk c.rows_in.result (c.rows_in.new.steps ≡ c.args.steps.now + length l)) is c.rows_in.ensures.cost in
    let refused = subst (λ l. OnErr c.rows_in.result (c.rows_in.new.steps ≤ c.args.steps.now + length l)) is c.rows_in.ensures.most in
    record {
      rows = IfOk-weaker c.rows_in.result (λ (rows : List (List Value)). rows ≡ filter p found) (λ (rows : List (List Value)). rows ≡ filter p (state_at n now.versions))
          (λ (rows : List (List Value)) e. e ∙ ap (filter p) is ∙ passing_within key low high p (state_at n now.versions) c.requires.low c.requires.high) c.rows_in.ensures.rows;
      keyed = subst (Ascends (key_cmp key)) c.seen-seen.ensures.rows (state_ascends key n (joined cs) c.seen-seen.ensures.stand);
      cost = cost;
      refused = refused;
      most = at_most c.rows_in.result c.rows_in.new.steps c.args.steps.now (length within) (length (state_at n now.versions)) (fewer_within key (option_copied low) (option_copied high) (state_at n now.versions)) cost refused;
    }
