use Rattle.std.proofs.Common.{◌≡◌, ◌≢◌, false, List, length, refl, ap}
use Rattle.std.proofs.lemmas.List.{length-map}
use Rattle.std.specs.Ordering.{is_eq}
use Rattle.std.specs.declared.cmp.Ordering.{Ordering}
use Rattle.std.specs.declared.cmp.Ordering.TheVariants.{Less, Equal, Greater}
use Rattle.lv_values.specs.declared.value.Value.{Value}
use Rattle.lv_values.specs.Order.{row_cmp, row_eq}
use Rattle.lv_values.specs.OrderLaws.{row_exact}
use Rattle.lv_values.specs.Rows.{values_at}
use Rattle.lv_condense.proofs.touch.is_same_key.Goals as goal

-- rows that are not of one length differ
apart : (xs ys : List Value) → length xs ≢ length ys → false ≡ row_eq xs ys
apart xs ys differ = by (row_cmp xs ys) refl
  where
    by : (r : Ordering) → row_cmp xs ys ≡ r → false ≡ is_eq r
    by Less e = refl
    by Equal e = absurd (differ (ap length (row_exact xs ys e)))
    by Greater e = refl

pub returns-then-key-others : goal.returns-then-key-others
returns-then-key-others c =
    apart (values_at c.args.key.now c.args.a.now) (values_at c.args.others.now c.args.b.now)
    (λ same. let lengths = simp length-map at same in c.if-key-others.true lengths)
