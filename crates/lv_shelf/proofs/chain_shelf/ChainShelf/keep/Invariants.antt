use Rattle.std.proofs.Common.{◌≡◌, ◌++◌, ◌≤◌, length, map, take, drop, filter}
use Rattle.lv_shelf.specs.Chains.{kept_in}
use Rattle.lv_shelf.proofs.chain_shelf.ChainShelf.keep.Given as goal

abbrev pub invariant-loop-chain : goal.invariant-loop-chain
invariant-loop-chain g l =
    let test = g.P.Test.passed l.test in
    record {
      within : l.chain ≤ length l.fn.self.chains;
      chains : l.self.chains ≡ take l.chain l.fn.self.chains ++ kept_in test (drop l.chain l.fn.self.chains);
      others : l.self.others ≡ map (filter test) l.fn.self.others;
      room : l.fn.self.spare ≤ l.self.spare;
    }

abbrev pub decreases-loop-chain : goal.decreases-loop-chain
decreases-loop-chain g l = l.chain
