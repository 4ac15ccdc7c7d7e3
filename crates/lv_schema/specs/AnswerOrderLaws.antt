-- The orders of an answer's rows are total, and tell every two apart.
use Rattle.std.specs.Prelude.{◌≡◌, refl}
use Rattle.std.proofs.Common.{ap, sym}
use Rattle.std.specs.Cmp.{IsTotalOrder, IsPartialEquivalence, IsEquivalence, eq_by_cmp_equiv, partial_equiv_from_equiv}
use Rattle.std.specs.FinMap.{IsAntisymmetric, slice_cmp-IsAntisymmetric, nat_cmp-IsAntisymmetric}
use Rattle.std.specs.Ordering.{ordering_then}
use Rattle.std.specs.declared.cmp.Ordering.{Ordering}
use Rattle.std.specs.declared.cmp.Ordering.TheVariants.{Less, Equal, Greater}
use Rattle.std.proofs.lemmas.Cmp.{then_total, on_total, back_total, nat_cmp_total, lists_total}
use Rattle.lv_values.specs.OrderLaws.{both_tie, value_total, value_exact, row_total, row_exact}
use Rattle.lv_schema.specs.declared.directed.Directed.{Directed}
use Rattle.lv_schema.specs.declared.directed.Directed.TheVariants.{Up, Down}
use Rattle.lv_schema.specs.AnswerOrder.{way_of, rising, falling, directed_cmp, directed_eq, sorted_cmp, sorted_eq}

pub directed_total : IsTotalOrder directed_cmp
directed_total = then_total (on_total way_of nat_cmp_total) (then_total (on_total rising value_total) (on_total falling (back_total value_total)))

pub sorted_total : IsTotalOrder sorted_cmp
sorted_total = then_total (on_total (λ r. r.order) (lists_total directed_total)) (on_total (λ r. r.row) row_total)

pub directed_equiv : IsEquivalence directed_eq
directed_equiv = eq_by_cmp_equiv directed_total

pub directed_per : IsPartialEquivalence directed_eq
directed_per = partial_equiv_from_equiv directed_equiv

pub sorted_equiv : IsEquivalence sorted_eq
sorted_equiv = eq_by_cmp_equiv sorted_total

pub sorted_per : IsPartialEquivalence sorted_eq
sorted_per = partial_equiv_from_equiv sorted_equiv

same_parts : (a b : Directed) → way_of a ≡ way_of b → rising a ≡ rising b → falling a ≡ falling b → a ≡ b
same_parts (Up x) (Up y) w r f = ap Up r
same_parts (Up x) (Down y) w r f = cc
same_parts (Down x) (Up y) w r f = cc
same_parts (Down x) (Down y) w r f = ap Down f

pub directed_exact : IsAntisymmetric directed_cmp
directed_exact a b h =
    let ways = both_tie _ _ h in
    let values = both_tie _ _ ways.1 in
    same_parts a b (nat_cmp-IsAntisymmetric _ _ ways.0) (value_exact _ _ values.0) (sym (value_exact _ _ values.1))

pub sorted_exact : IsAntisymmetric sorted_cmp
sorted_exact a b h =
    let parts = both_tie _ _ h in
    let order = slice_cmp-IsAntisymmetric directed_exact a.order b.order parts.0 in
    let row = row_exact a.row b.row parts.1 in
    λ i. record { order = order i; row = row i }
