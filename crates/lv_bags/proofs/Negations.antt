-- Counts that can be negated are so exactly.
use Rattle.std.proofs.Common.{◌≡◌, neg_ℤ, List, [], ◌∷◌, map, refl}
use Rattle.std.proofs.lemmas.Int.{int_wrap_fits}
use Rattle.std.specs.Int.{int_wrap, w128}
use Rattle.lv_schema.specs.declared.signed.SignedRow.{SignedRow}
use Rattle.lv_bags.specs.Bags.{CanBeNegated, negated, turned}

pub turned_are : (list : List SignedRow) → CanBeNegated list → map turned list ≡ map negated list
turned_are [] h = refl
turned_are (s ∷ list) h = λ i. record { row = s.row; count = int_wrap_fits w128 (neg_ℤ s.count) h.0 i; sums = map (λ n. int_wrap w128 (neg_ℤ n)) s.sums } ∷ turned_are list h.1 i
