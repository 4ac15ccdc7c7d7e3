use Rattle.std.proofs.Common.{◌≡◌, ◌++◌, ◌+◌, ◌-◌, ◌≤◌, length, take, drop, filter}
use Rattle.lv_shelf.specs.Chains.{chain_at, with_chain}
use Rattle.lv_shelf.proofs.chain_shelf.ChainShelf.drop_failing.Given as goal

abbrev pub invariant-loop-left : goal.invariant-loop-left
invariant-loop-left g l =
    let test = g.P.Test.passed l.test in
    let chain = chain_at l.fn.self.chains l.chain in
    let rest = drop (length chain - l.left) chain in
    record {
      chains : l.self.chains ≡ take l.chain l.fn.self.chains ++ with_chain rest (drop (l.chain + 1) l.fn.self.chains);
      same : filter test rest ≡ filter test chain;
      within : l.left ≤ length chain;
      others : l.self.others ≡ l.fn.self.others;
      room : l.fn.self.spare ≤ l.self.spare;
    }

abbrev pub decreases-loop-left : goal.decreases-loop-left
decreases-loop-left g l = l.left
