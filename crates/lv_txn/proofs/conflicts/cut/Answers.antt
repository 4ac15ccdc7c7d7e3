use Rattle.std.proofs.Common.{rules}
use Rattle.std.proofs.lemmas.Fn.{always_returns_same}
use Rattle.lv_values.specs.Rows.{values_at}
use Rattle.lv_schema.specs.Commits.{Place}
use Rattle.lv_txn.specs.Written.{is_before}
use Rattle.lv_txn.proofs.PlaceSearch.{partitioned}
use Rattle.lv_txn.proofs.conflicts.cut.Goals as goal

pub returns-clause-cut : goal.returns-clause-cut
returns-clause-cut c =
    let p : Place = (c.args.action.now.table, values_at c.args.key.now c.args.action.now.row) in
    c.partition_point.ensures.partitioned (is_before p) (always_returns_same _ _ _ (λ a r f k. search rules)) (partitioned p c.args.places.now c.requires)
