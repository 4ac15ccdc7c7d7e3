use Rattle.std.proofs.Common.{◌≡◌, ◌<◌, List, [], ◌∷◌, length, drop, refl, sym, ◌∙◌, arith, length-drop}
use Rattle.std.proofs.lemmas.List.{length-map}
use Rattle.std.specs.declared.cmp.Ordering.TheVariants.{Less, Greater}
use Rattle.lv_values.specs.declared.value.Value.{Value}
use Rattle.lv_values.specs.Order.{row_cmp}
use Rattle.lv_values.specs.Rows.{values_at}
use Rattle.lv_values.proofs.rows.compare_to_key.Goals as goal

-- a row with values left is greater than one without, and less the other way
longer : (xs ys : List Value) → length ys ≡ 0 → 0 < length xs → row_cmp xs ys ≡ Greater
longer [] ys e l = absurd (omega arith)
longer (x ∷ xs) [] e l = refl
longer (x ∷ xs) (y ∷ ys) e l = absurd (omega arith)

shorter : (xs ys : List Value) → length xs ≡ 0 → 0 < length ys → row_cmp xs ys ≡ Less
shorter xs [] e l = absurd (omega arith)
shorter [] (y ∷ ys) e l = refl
shorter (x ∷ xs) (y ∷ ys) e l = absurd (omega arith)

pub returns-then-i-len : goal.returns-then-i-len
returns-then-i-len c =
    sym (c.loop-i.invariant.1
    ∙ longer (values_at (drop c.loop-i.i c.args.positions.now) c.args.row.now) (drop c.loop-i.i c.args.key.now)
    (simp length-drop (omega arith)) (simp (length-map, length-drop) (omega arith)))

pub returns-then-positions-len : goal.returns-then-positions-len
returns-then-positions-len c =
    sym (c.loop-i.invariant.1
    ∙ shorter (values_at (drop c.loop-i.i c.args.positions.now) c.args.row.now) (drop c.loop-i.i c.args.key.now)
    (simp (length-map, length-drop) (omega arith)) (simp length-drop (omega arith)))
