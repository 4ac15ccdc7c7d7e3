use Rattle.std.proofs.Common.{false, true, ◌+◌, ◌++◌, [], length, length-append, drop, take, ap, sym, ◌∙◌, arith}
use Rattle.std.proofs.lemmas.List.{append-nil}
use Rattle.lv_shelf.specs.Shelves.{other_at}
use Rattle.lv_versions.specs.Versions.{state_at}
use Rattle.lv_versions.proofs.Between.{none_left}
use Rattle.lv_versions.proofs.Finding.{seen}
use Rattle.lv_versions.proofs.Indexing.{cuts_apart, hits_between}
use Rattle.lv_versions.proofs.Runs.{run_step}
use Rattle.lv_versions.proofs.versions.rows_between.Goals as goal

pub cut_in_near-first-requires-clause-falls : goal.cut_in_near-first-requires-clause-falls
cut_in_near-first-requires-clause-falls g c = c.requires.falls false

pub cut_in_near-end-requires-clause-falls : goal.cut_in_near-end-requires-clause-falls
cut_in_near-end-requires-clause-falls g c = c.requires.falls true

pub overflow_sub-end : goal.overflow_sub-end
overflow_sub-end g c = cuts_apart c.args.columns.now c.args.values.now c.cut_in_near-first.result c.cut_in_near-end.result (other_at c.args.versions.now.others c.args.order) c.cut_in_near-first.ensures.cut c.cut_in_near-end.ensures.cut

pub loop-at-init : goal.loop-at-init
loop-at-init g c =
    let list = take c.cut_in_near-end.result (other_at c.args.versions.now.others c.args.order) in
    record {
      rows = ap (λ l. seen l ++ state_at c.args.n (drop c.cut_in_near-first.result list)) c.in_ok-rows.ensures.items;
      cost = omega arith;
      count = omega (arith, c.in_ok-rows.ensures.len);
      room = omega (arith, c.in_ok-rows.ensures.capacity);
    }

pub loop-at-preserved : goal.loop-at-preserved
loop-at-preserved g c =
    let n = c.args.n in
    let i = c.loop-at.at in
    let end = c.cut_in_near-end.result in
    let order = other_at c.args.versions.now.others c.args.order in
    let run = c.run_in-run.result in
    let rows = seen c.loop-at.rows.items in
    let step = run_step n i end rows run order c.run_in-run.ensures.run c.run_in-run.ensures.within in
    let shown = ap length (run_step n i end [] run order c.run_in-run.ensures.run c.run_in-run.ensures.within) in
    let rest = state_at n (drop (i + length run) (take end order)) in
    let both = length-append (state_at n run) rest in
    rw c.len-at.ensures (record {
      rows = ap (λ l. l ++ rest) c.push_run.ensures.pushed ∙ step ∙ c.loop-at.invariant.rows;
      cost = omega (arith, c.push_run.ensures.cost, c.loop-at.invariant.cost, shown, both);
      count = omega (arith, c.push_run.ensures.len, c.loop-at.invariant.count);
      room = omega (arith, c.push_run.ensures.capacity, c.loop-at.invariant.room);
    })

pub returns-clause-rows : goal.returns-clause-rows
returns-clause-rows g c =
    let first = c.cut_in_near-first.result in
    let end = c.cut_in_near-end.result in
    let order = other_at c.args.versions.now.others c.args.order in
    let rows = seen c.loop-at.rows.items in
    let none = none_left c.args.n end c.loop-at.at order c.loop-at-test.false in
    sym (append-nil rows) ∙ sym (ap (λ l. rows ++ l) none) ∙ c.loop-at.invariant.rows ∙ hits_between c.args.columns.now c.args.values.now c.args.n first end order c.cut_in_near-first.ensures.cut c.cut_in_near-end.ensures.cut

pub returns-clause-cost : goal.returns-clause-cost
returns-clause-cost g c =
    let first = c.cut_in_near-first.result in
    let end = c.cut_in_near-end.result in
    let order = other_at c.args.versions.now.others c.args.order in
    let none = ap length (none_left c.args.n end c.loop-at.at order c.loop-at-test.false) in
    let all = ap length (hits_between c.args.columns.now c.args.values.now c.args.n first end order c.cut_in_near-first.ensures.cut c.cut_in_near-end.ensures.cut) in
    omega (arith, none, all, c.loop-at.invariant.cost)
