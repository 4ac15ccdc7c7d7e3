use Rattle.std.proofs.Common.{List, length, ap, arith}
use Rattle.lv_reach.specs.declared.rows.AliasRow.{AliasRow}
use Rattle.lv_reach.proofs.FoundLaws.{found_all, found_next}
use Rattle.lv_reach.proofs.near.NearRows.move_into.Goals as goal

pub loop-row-preserved : goal.loop-row-preserved
loop-row-preserved c = let long = ap (λ (l : List AliasRow). length l) c.in-Some.ensures.steps in record {
  few = omega (arith, long, c.loop-row.invariant.few);
  left = found_next c.args.from c.loop-row.at c.loop-row.parts _ c.loop-row.row-iterator c.in-Some.row c.next.new.self c.add_from.new.parts c.loop-row.invariant.left c.in-Some.ensures.steps c.in_ok-add_from.ensures;
}

pub returns : goal.returns
returns c = found_all c.args.from c.loop-row.at c.loop-row.parts _ c.loop-row.row-iterator c.loop-row.invariant.left c.in-None.ensures.steps.0
