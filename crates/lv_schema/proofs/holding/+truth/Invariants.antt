use Rattle.std.proofs.Common.{◌≡◌, map, drop}
use Rattle.lv_schema.specs.Truth.{both, either, all_of, any_of, truth}
use Rattle.lv_schema.proofs.holding.+truth.Given as goal

abbrev pub invariant-truth_of_all-loop-part : goal.invariant-truth_of_all-loop-part
invariant-truth_of_all-loop-part g l =
    let rows = g.T.HasRows.rows l.rows in both l.all (all_of (map (λ part. truth part rows) (drop l.part-index l.parts))) ≡ all_of (map (λ part. truth part rows) l.parts)

abbrev pub invariant-truth_of_any-loop-part : goal.invariant-truth_of_any-loop-part
invariant-truth_of_any-loop-part g l =
    let rows = g.T.HasRows.rows l.rows in either l.any (any_of (map (λ part. truth part rows) (drop l.part-index l.parts))) ≡ any_of (map (λ part. truth part rows) l.parts)
