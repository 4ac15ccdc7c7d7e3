use Rattle.std.proofs.Common.{rules}
use Rattle.std.specs.Ordering.{is_gt}
use Rattle.std.proofs.lemmas.Fn.{always_returns_same}
use Rattle.lv_values.specs.Order.{row_cmp}
use Rattle.lv_schema.specs.declared.signed.SignedRow.{SignedRow}
use Rattle.lv_bags.proofs.Placing.{rising_partitioned, place_from}
use Rattle.lv_bags.proofs.adding.place_of.Goals as goal

pub returns : goal.returns
returns c =
    let row = c.args.row.now in
    let list = c.args.list.now in
    place_from row list c.partition_point.result c.partition_point.ensures.bound
    (c.partition_point.ensures.partitioned (λ (r : SignedRow). is_gt (row_cmp row r.row)) (always_returns_same _ _ _ (λ a r f k. search rules)) (rising_partitioned row list c.requires))
