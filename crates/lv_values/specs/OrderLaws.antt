-- The orders of values and rows are total, and what they do not tell apart is equal.
use Rattle.std.specs.Prelude.{◌≡◌, refl}
use Rattle.std.proofs.Common.{ap}
use Rattle.std.specs.Ordering.{nat_cmp, ordering_then}
use Rattle.std.specs.Cmp.{IsTotalOrder}
use Rattle.std.specs.Cmp.Lexicographic.{slice_cmp}
use Rattle.std.specs.FinMap.{IsAntisymmetric, slice_cmp-IsAntisymmetric, int_cmp-IsAntisymmetric, nat_cmp-IsAntisymmetric}
use Rattle.std.proofs.lemmas.Cmp.{then_total, on_total, nat_cmp_total, int_cmp_total, nat_list_cmp_total, lists_total}
use Rattle.std.specs.declared.cmp.Ordering.{Ordering}
use Rattle.std.specs.declared.cmp.Ordering.TheVariants.{Less, Equal, Greater}
use Rattle.lv_values.specs.declared.value.Value.{Value}
use Rattle.lv_values.specs.declared.value.Value.TheVariants.{Num, Text}
use Rattle.lv_values.specs.Order.{rank_of, number_of, text_of, value_cmp, row_cmp}

pub value_total : IsTotalOrder value_cmp
value_total = then_total (on_total rank_of nat_cmp_total) (then_total (on_total number_of int_cmp_total) (on_total text_of nat_list_cmp_total))

-- two orders in turn that find two values equal both do
pub both_tie : (a b : Ordering) → ordering_then a b ≡ Equal → (a ≡ Equal) × (b ≡ Equal)
both_tie Less b h = cc
both_tie Equal b h = (refl, h)
both_tie Greater b h = cc

same_parts : (a b : Value) → rank_of a ≡ rank_of b → number_of a ≡ number_of b → text_of a ≡ text_of b → a ≡ b
same_parts (Num x) (Num y) r n t = ap Num n
same_parts (Num x) (Text y) r n t = cc
same_parts (Text x) (Num y) r n t = cc
same_parts (Text x) (Text y) r n t = ap Text t

pub text_exact : IsAntisymmetric (slice_cmp nat_cmp)
text_exact = slice_cmp-IsAntisymmetric nat_cmp-IsAntisymmetric

pub value_exact : IsAntisymmetric value_cmp
value_exact a b h =
    let ranks = both_tie _ _ h in
    let numbers = both_tie _ _ ranks.1 in
    same_parts a b (nat_cmp-IsAntisymmetric _ _ ranks.0) (int_cmp-IsAntisymmetric _ _ numbers.0) (text_exact _ _ numbers.1)

pub row_total : IsTotalOrder row_cmp
row_total = lists_total value_total

pub row_exact : IsAntisymmetric row_cmp
row_exact = slice_cmp-IsAntisymmetric value_exact
