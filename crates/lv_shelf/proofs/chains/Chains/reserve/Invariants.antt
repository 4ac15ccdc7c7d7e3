use Rattle.std.proofs.Common.{◌≡◌, ◌≤◌, length, map, vec_capacity}
use Rattle.lv_shelf.specs.Chains.{AreLinked, chain_of}
use Rattle.lv_shelf.proofs.chains.Chains.reserve.Given as goal

abbrev pub invariant-loop : goal.invariant-loop
invariant-loop l =
    let links = l.self-inside.links.items in
    let newest = l.self-inside.newest in
    record {
      are : AreLinked links newest.list;
      same : map (chain_of links) newest.list ≡ l.fn.self.chains;
      newest : newest ≡ l.initial.self-inside.newest;
      long : length links ≡ l.counter;
      room : l.room ≤ vec_capacity l.self-inside.links;
      kept : length l.initial.self-inside.links.items ≤ length links;
    }
