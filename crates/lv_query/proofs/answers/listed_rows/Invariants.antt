use Rattle.std.proofs.Common.{◌≡◌, map}
use Rattle.lv_query.proofs.answers.listed_rows.Given as goal

abbrev pub invariant-loop-sorted : goal.invariant-loop-sorted
invariant-loop-sorted l = l.rows ≡ map (λ r. r.row) l.yielded
