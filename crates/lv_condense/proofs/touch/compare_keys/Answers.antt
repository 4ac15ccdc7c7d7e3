use Rattle.std.proofs.Common.{◌≡◌, ◌<◌, List, [], ◌∷◌, length, drop, refl, sym, ◌∙◌, arith, length-drop}
use Rattle.std.proofs.lemmas.List.{length-map}
use Rattle.std.specs.declared.cmp.Ordering.TheVariants.{Less, Greater}
use Rattle.lv_values.specs.declared.value.Value.{Value}
use Rattle.lv_values.specs.Order.{row_cmp}
use Rattle.lv_values.specs.Rows.{values_at}
use Rattle.lv_condense.proofs.touch.compare_keys.Goals as goal

-- a key with values left is greater than one without, and less the other way
longer : (xs ys : List Value) → length ys ≡ 0 → 0 < length xs → row_cmp xs ys ≡ Greater
longer [] ys e l = absurd (omega arith)
longer (x ∷ xs) [] e l = refl
longer (x ∷ xs) (y ∷ ys) e l = absurd (omega arith)

shorter : (xs ys : List Value) → length xs ≡ 0 → 0 < length ys → row_cmp xs ys ≡ Less
shorter xs [] e l = absurd (omega arith)
shorter [] (y ∷ ys) e l = refl
shorter (x ∷ xs) (y ∷ ys) e l = absurd (omega arith)

pub returns-then-i-others : goal.returns-then-i-others
returns-then-i-others c =
    sym (c.loop-i.invariant.so_far
    ∙ longer (values_at (drop c.loop-i.i c.args.key.now) c.args.a.now) (values_at (drop c.loop-i.i c.args.others.now) c.args.b.now)
    (simp (length-map, length-drop) (omega arith)) (simp (length-map, length-drop) (omega arith)))

pub returns-then-key-others : goal.returns-then-key-others
returns-then-key-others c =
    sym (c.loop-i.invariant.so_far
    ∙ shorter (values_at (drop c.loop-i.i c.args.key.now) c.args.a.now) (values_at (drop c.loop-i.i c.args.others.now) c.args.b.now)
    (simp (length-map, length-drop) (omega arith)) (simp (length-map, length-drop) (omega arith)))
