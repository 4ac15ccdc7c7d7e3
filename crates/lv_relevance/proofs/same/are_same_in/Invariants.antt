use Rattle.std.proofs.Common.{◌≡◌, drop, length}
use Rattle.std.specs.Cmp.Lexicographic.{pointwise}
use Rattle.lv_relevance.specs.Relevance.{same_in}
use Rattle.lv_relevance.proofs.same.are_same_in.Given as goal

abbrev pub invariant-loop-i : goal.invariant-loop-i
invariant-loop-i l = record {
  long : length l.rows ≡ length l.others;
  rest : pointwise (same_in l.cols l.alias) (drop l.i l.rows) (drop l.i l.others) ≡ pointwise (same_in l.cols l.alias) l.rows l.others;
}
