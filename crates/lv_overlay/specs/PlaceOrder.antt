-- The order of places is total, and tells every two places apart.
use Rattle.std.specs.Prelude.{◌≡◌, ℕ, List, refl}
use Rattle.std.proofs.Common.{ap, ◌∙◌}
use Rattle.std.specs.Ordering.{ordering_then}
use Rattle.std.specs.Cmp.{IsTotalOrder}
use Rattle.std.specs.FinMap.{IsAntisymmetric, nat_cmp-IsAntisymmetric}
use Rattle.std.proofs.lemmas.Cmp.{then_total, on_total, nat_cmp_total}
use Rattle.std.specs.declared.cmp.Ordering.{Ordering}
use Rattle.std.specs.declared.cmp.Ordering.TheVariants.{Less, Equal, Greater}
use Rattle.lv_values.specs.declared.value.Value.{Value}
use Rattle.lv_values.specs.OrderLaws.{both_tie, row_total, row_exact}
use Rattle.lv_schema.specs.Commits.{Place, place_cmp}

abbrev table_of : Place → ℕ
table_of p = p.0

abbrev key_of : Place → List Value
key_of p = p.1

pub place_total : IsTotalOrder place_cmp
place_total = then_total (on_total table_of nat_cmp_total) (on_total key_of row_total)

same_pair : (a b : Place) → a.0 ≡ b.0 → a.1 ≡ b.1 → a ≡ b
same_pair a b e f = ap (λ t. (t, a.1)) e ∙ ap (λ k. (b.0, k)) f

pub place_exact : IsAntisymmetric place_cmp
place_exact a b h =
    let parts = both_tie _ _ h in
    same_pair a b (nat_cmp-IsAntisymmetric _ _ parts.0) (row_exact _ _ parts.1)
