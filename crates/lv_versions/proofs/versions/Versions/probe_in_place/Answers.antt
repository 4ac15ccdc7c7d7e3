use Rattle.std.proofs.Common.{◌≡◌, ◌+◌, ◌≤◌, length, map, ap, subst, ◌∙◌}
use Rattle.std.specs.Prelude.{IfOk, OnErr, OnOk}
use Rattle.lv_values.specs.Rows.{key_cmp}
use Rattle.lv_schema.specs.Once.{Ascends}
use Rattle.lv_shelf.specs.Shelves.{other_at}
use Rattle.lv_shelf.specs.Chains.{joined}
use Rattle.lv_versions.specs.Versions.{rows_hit, rows_with, state_at}
use Rattle.lv_versions.proofs.Chaining.{histories}
use Rattle.lv_versions.proofs.Finding.{hit_rows, with_ascends}
use Rattle.lv_versions.proofs.Indexing.{indexed_hits, upto_falls}
use Rattle.lv_versions.proofs.Keeping.{index_at}
use Rattle.lv_versions.proofs.versions.Versions.probe_in_place.Goals as goal

pub rows_between-requires : goal.rows_between-requires
rows_between-requires g c =
    let s = c.self.inside in
    let found = rw c.as_slice.ensures at c.in-Some.ensures in
    let index = index_at s.def.key s.indexes.list c.args.columns.now s.versions.spare c.in-Some.index s.versions.others (joined s.versions.chains) found.0 found.1 c.self.invariant.orders in
    record {
      order = index.0;
      falls = λ b. upto_falls c.args.columns.now s.def.key c.args.values.now b (other_at s.versions.others (c.in-Some.index + 2)) index.1.ascends;
    }

pub rows_with-requires : goal.rows_with-requires
rows_with-requires g c = histories c.args.self.now.def.key c.seen.result c.seen.ensures.stand c.seen.ensures.chained

pub returns-in-Some : goal.returns-in-Some
returns-in-Some g c =
    let s = c.self.inside in
    let n = c.args.n in
    let columns = c.args.columns.now in
    let values = c.args.values.now in
    let order = other_at s.versions.others (c.in-Some.index + 2) in
    let found = rw c.as_slice.ensures at c.in-Some.ensures in
    let index = index_at s.def.key s.indexes.list columns s.versions.spare c.in-Some.index s.versions.others (joined s.versions.chains) found.0 found.1 c.self.invariant.orders in
    let same : rows_hit columns values n order ≡ rows_with columns values (state_at n c.args.self.now.versions) =
    indexed_hits columns s.def.key values n order (joined s.versions.chains) c.self.invariant.are.order index.1 ∙ hit_rows columns values n (joined s.versions.chains) ∙ ap (λ v. rows_with columns values (state_at n v.versions)) c.self.view_is in
    record {
      rows = subst (λ l. IfOk c.rows_between.result (λ rows. map (λ row. row.now) rows.items ≡ l)) same c.rows_between.ensures.rows;
      keyed = subst (λ v. Ascends (key_cmp v.def.key) (rows_with columns values (state_at n v.versions))) c.self.view_is (with_ascends s.def.key columns values n (joined s.versions.chains) c.self.invariant.are.order);
      cost = subst (λ l. OnOk c.rows_between.result (c.rows_between.new.steps ≡ c.args.steps.now + length l)) same c.rows_between.ensures.cost;
      most = subst (λ l. OnErr c.rows_between.result (c.rows_between.new.steps ≤ c.args.steps.now + length l)) same c.rows_between.ensures.most;
    }

pub returns-in-None-clause-keyed : goal.returns-in-None-clause-keyed
returns-in-None-clause-keyed g c =
    let s = c.self.inside in
    subst (λ v. Ascends (key_cmp v.def.key) (rows_with c.args.columns.now c.args.values.now (state_at c.args.n v.versions))) c.self.view_is
    (with_ascends s.def.key c.args.columns.now c.args.values.now c.args.n (joined s.versions.chains) c.self.invariant.are.order)
