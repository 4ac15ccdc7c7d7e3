use Rattle.std.proofs.Common.{◌≡◌, ℕ, ◌+◌, ◌<◌, pos, false, cond, get_or, List, [], ◌∷◌, length, drop, refl, sym, ◌∙◌, arith, length-drop}
use Rattle.std.proofs.lemmas.List.{drop_more}
use Rattle.lv_values.specs.declared.value.Value.{Value}
use Rattle.lv_values.specs.declared.value.Value.TheVariants.{Num}
use Rattle.lv_schema.specs.declared.cond.Col.{Col}
use Rattle.lv_schema.specs.Bound.{same_col}
use Rattle.lv_group.specs.Gathered.{group_value}
use Rattle.lv_group.proofs.listing.group_value.Goals as goal

-- a row that has ended
ended : (by : List Col) (group : List Value) (col : Col) → length group ≡ 0 → group_value by group col ≡ Num (pos 0)
ended [] group col e = refl
ended (c ∷ by) [] col e = refl
ended (c ∷ by) (v ∷ vs) col e = absurd (omega arith)

pub returns-then-i-group : goal.returns-then-i-group
returns-then-i-group c =
    sym (c.loop-i.invariant.so_far ∙ ended (drop c.loop-i.i c.args.by.now) (drop c.loop-i.i c.args.group.now) c.args.col (simp length-drop (omega arith)))

-- a column that is another one
passed_by : (by : List Col) (group : List Value) (col d : Col) (i : ℕ) → i < length by → i < length group → false ≡ same_col col (get_or by i d) → group_value (drop i by) (drop i group) col ≡ group_value (drop (i + 1) by) (drop (i + 1) group) col
passed_by by group col d i h g other =
    let zero : Value = Num (pos 0) in
    let rest = group_value (drop (i + 1) by) (drop (i + 1) group) col in
    (λ k. group_value (drop_more by i d h k) (drop_more group i zero g k) col) ∙ λ k. cond (sym other k) (get_or group i zero) rest

pub loop-i-preserved : goal.loop-i-preserved
loop-i-preserved c = record {
  within = omega arith;
  so_far = c.loop-i.invariant.so_far ∙ passed_by c.args.by.now c.args.group.now c.args.col (record { alias = 0; column = 0 }) c.loop-i.i c.loop-i-test.true c.if-i-group.false c.if-eq.ensures;
}
