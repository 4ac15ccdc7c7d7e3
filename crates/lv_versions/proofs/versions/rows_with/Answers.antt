use Rattle.std.proofs.Common.{◌<◌, ◌++◌, length, drop, ap, ◌+◌, ◌∙◌, arith}
use Rattle.lv_shelf.specs.Chains.{chain_at, joined}
use Rattle.lv_versions.specs.Versions.{rows_hit}
use Rattle.lv_versions.proofs.Finding.{hit_rows, longer_seen, seen}
use Rattle.lv_versions.proofs.ReadingChains.{hit_chain}
use Rattle.lv_versions.proofs.versions.rows_with.Goals as goal

pub loop-chain-preserved : goal.loop-chain-preserved
loop-chain-preserved g c =
    let n = c.args.n in
    let ps = c.args.columns.now in
    let values = c.args.values.now in
    let i = c.loop-chain.chain in
    let cs = c.args.seen.now in
    let lt : i < length cs = omega (arith, c.loop-chain-test.true, c.len-chain-end.ensures.count) in
    let more = hit_chain ps values n i (seen c.loop-chain.rows.items) cs lt in
    record {
      rows = ap (λ l. l ++ rows_hit ps values n (joined (drop (i + 1) cs))) c.in_ok-push_chain.ensures.pushed ∙ more ∙ c.loop-chain.invariant.rows;
      cost = omega (arith, c.in_ok-push_chain.ensures.cost, c.loop-chain.invariant.cost, longer_seen c.loop-chain.rows.items c.push_chain.new.rows.items (rows_hit ps values n (chain_at cs i)) c.in_ok-push_chain.ensures.pushed);
    }

pub loop-chain-init : goal.loop-chain-init
loop-chain-init g c = record {
  rows = ap (λ l. seen l ++ rows_hit c.args.columns.now c.args.values.now c.args.n (joined c.args.seen.now)) c.new-rows.ensures.items ∙ hit_rows c.args.columns.now c.args.values.now c.args.n (joined c.args.seen.now);
  cost = omega (arith, ap length c.new-rows.ensures.items);
}
