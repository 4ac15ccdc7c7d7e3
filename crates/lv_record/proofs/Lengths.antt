-- A record's bytes are as many as its size says.
use Rattle.std.proofs.Common.{◌≡◌, ℕ, ℤ, zero, suc, ◌+◌, ◌^◌, ◌<◌, ◌≤◌, Bool, true, false, cond, List, [], ◌∷◌, ◌++◌, map, length, Some, None, refl, sym, ap, ap₂, ◌∙◌, length-append, arith}
use Rattle.std.specs.Prelude.{sum}
use Rattle.std.specs.Int.{w64}
use Rattle.std.specs.List.{flat_map, sum_by, AllByRecursion}
use Rattle.std.proofs.lemmas.List.Sums.{sum_by-cons}
use Rattle.lv_values.specs.declared.value.Value.{Value}
use Rattle.lv_values.specs.declared.value.Value.TheVariants.{Num, Text as Word}
use Rattle.lv_schema.specs.Databases.{is_int}
use Rattle.lv_schema.specs.Records as size
use Rattle.lv_schema.specs.declared.action.Action.{Action}
use Rattle.lv_schema.specs.declared.action.ActionKind.{ActionKind}
use Rattle.lv_schema.specs.declared.action.ActionKind.TheVariants.{Insert, Delete}
use Rattle.lv_schema.specs.declared.cond.Col.{Col}
use Rattle.lv_schema.specs.declared.cond.Cond.{Cond}
use Rattle.lv_schema.specs.declared.cond.Cond.TheFolds.{fold-roll-Cond, map-Cond}
use Rattle.lv_schema.specs.declared.cond.Cond.TheOpen.{Cond-F, True, Cmp, And, Or, Not}
use Rattle.lv_schema.specs.declared.cond.Cond.TheViews.{roll-Cond, out-Cond, roll-out-Cond}
use Rattle.lv_schema.specs.declared.cond.Op.{Op}
use Rattle.lv_schema.specs.declared.cond.Op.TheVariants.{Eq}
use Rattle.lv_schema.specs.declared.cond.Operand.{Operand}
use Rattle.lv_schema.specs.declared.cond.Operand.TheVariants as operand
use Rattle.lv_schema.specs.declared.rec.Rec.{Rec}
use Rattle.lv_schema.specs.declared.rec.Rec.TheVariants as rec
use Rattle.lv_schema.specs.declared.table.Column.{Column}
use Rattle.lv_schema.specs.declared.table.Kind.{Kind}
use Rattle.lv_schema.specs.declared.table.Kind.TheVariants.{Int, Text, Big}
use Rattle.lv_schema.specs.declared.table.TableDef.{TableDef}
use Rattle.lv_schema.specs.declared.view.Item.{Item}
use Rattle.lv_schema.specs.declared.view.Item.TheVariants as item
use Rattle.lv_schema.specs.declared.view.ViewDef.{ViewDef}
use Rattle.lv_forms.specs.Forms.{FitsIf, text_if, signed, binary}
use Rattle.lv_forms.specs.Tables.{FitsOf, text_of}
use Rattle.lv_record.specs.Kept.{HasFewActions}
use Rattle.lv_record.specs.Spelling as form
use Rattle.lv_record.proofs.Lists.{all_long}

-- ---- rows

number_long : (z : ℤ) → form.number.Fits z → length (form.number.text z) ≡ 8
number_long z = at (is_int z) where
  at : (t : Bool) → FitsIf (signed w64) (cond t (Some z) None) → length (text_if (signed w64) (cond t (Some z) None)) ≡ 8
  at true f = refl
  at false f = absurd f

value_long : (v : Value) → form.value.Fits v → length (form.value.text v) ≡ size.value_size v
value_long (Num z) f = omega (arith, number_long z f)
value_long (Word t) f = omega arith

row_long : (row : List Value) → form.row.Fits row → length (form.row.text row) ≡ size.row_size row
row_long row f = omega (arith, all_long form.value.Fits form.value.text size.value_size value_long row f.1)

-- ---- conditions

op_long : (o : Op) → length (form.op.text o) ≡ 1
op_long Eq = refl
op_long _ = refl

side_long : (o : Operand) → length (form.side.text o) ≡ size.operand_size o
side_long (operand.Column c) = refl
side_long (operand.Number z) = refl
side_long (operand.Text t) = omega arith

size_of : (e : Cond-F Cond) → size.cond_size (roll-Cond e) ≡ size.cond_step (map-Cond Cond ℕ size.cond_size e)
size_of e = fold-roll-Cond ℕ size.cond_step e

module _ (n : ℕ) (one : (c : Cond) → (form.layers n).Fits c → length ((form.layers n).text c) ≡ size.cond_size c) where
  parts_long : (parts : List Cond) → AllByRecursion (form.layers n).Fits parts → length (flat_map (form.layers n).text parts) ≡ sum (map size.cond_size parts)
  parts_long [] all = refl
  parts_long (c ∷ cs) all =
      length-append ((form.layers n).text c) (flat_map (form.layers n).text cs)
      ∙ ap₂ (λ (a b : ℕ). a + b) (one c all.0) (parts_long cs all.1)
      ∙ sym (sum_by-cons (λ (k : ℕ). k) (size.cond_size c) (map size.cond_size cs))

  layer_long : (e : Cond-F Cond) → FitsOf (form.cond_kinds (form.layers n)) (form.cond_fields (form.layers n) e)
      → length (text_of (form.cond_kinds (form.layers n)) (form.cond_fields (form.layers n) e)) ≡ size.cond_size (roll-Cond e)
  layer_long True f = sym (size_of True)
  layer_long (Cmp op l r) f =
      omega (arith, size_of (Cmp op l r), length-append (form.op.text op) (form.side.text l ++ form.side.text r), length-append (form.side.text l) (form.side.text r), op_long op, side_long l, side_long r)
  layer_long (And parts) f = omega (arith, size_of (And parts), parts_long parts f.1)
  layer_long (Or parts) f = omega (arith, size_of (Or parts), parts_long parts f.1)
  layer_long (Not c) f = omega (arith, size_of (Not c), one c f)

layers_long : (n : ℕ) (c : Cond) → (form.layers n).Fits c → length ((form.layers n).text c) ≡ size.cond_size c
unfolding form.layers
layers_long zero c f = absurd f
layers_long (suc n) c f = layer_long n (layers_long n) (out-Cond c) f ∙ ap size.cond_size (roll-out-Cond c)

-- ---- tables and views

column_kind_long : (k : Kind) → form.column_kind.Fits k → length (form.column_kind.text k) ≡ 1
column_kind_long Int f = refl
column_kind_long Text f = refl
column_kind_long Big f = absurd f

column_long : (c : Column) → form.column.Fits c → length (form.column.text c) ≡ size.name_size c.name + 1
column_long c f = omega (arith, length-append (form.name.text c.name) (form.column_kind.text c.kind), column_kind_long c.kind f.1)

bytes_long : (ks : List ℕ) → length (flat_map (binary 1).text ks) ≡ length ks
bytes_long [] = refl
bytes_long (k ∷ ks) = omega (arith, bytes_long ks)

cols_long : (cs : List Col) → length (flat_map form.col.text cs) ≡ length cs + length cs
cols_long [] = refl
cols_long (c ∷ cs) = omega (arith, cols_long cs)

table_long : (def : TableDef) → form.table_def.Fits def → length (form.any_record.text (rec.Table def)) ≡ size.table_size def
table_long def f =
    let columns = flat_map form.column.text def.columns in
    let key = flat_map (binary 1).text def.key in
    omega (
      arith,
      length-append (form.name.text def.name) (((binary 1).text (length def.columns) ++ columns) ++ ((binary 1).text (length def.key) ++ key)),
      length-append ((binary 1).text (length def.columns) ++ columns) ((binary 1).text (length def.key) ++ key),
      all_long form.column.Fits form.column.text (λ c. size.name_size c.name + 1) column_long def.columns f.0.1.0.1,
      bytes_long def.key,
    )

item_long : (i : Item) → form.any_item.Fits i → length (form.any_item.text i) ≡ size.item_size i
item_long (item.Plain c called) f = omega arith
item_long (item.Sum c called) f = omega arith
item_long (item.Count called) f = omega arith

flag_long : (t : Bool) → length (form.flag.text t) ≡ 1
flag_long true = refl
flag_long false = refl

head_long : (def : ViewDef) → form.view_head.Fits (form.view_parts def).0
    → length (form.view_head.text (form.view_parts def).0) ≡ size.name_size def.name + 8 + 1 + length def.tables + size.cond_size def.cond
head_long def f =
    let tables = (binary 1).text (length def.tables) ++ flat_map (binary 1).text def.tables in
    let condition = (form.layers 131).text def.cond in
    omega (
      arith,
      length-append (form.name.text def.name) ((binary 8).text def.created ++ (tables ++ condition)),
      length-append ((binary 8).text def.created) (tables ++ condition),
      length-append tables condition,
      bytes_long def.tables,
      layers_long 131 def.cond f.1.1.1.0,
    )

tail_long : (def : ViewDef) → form.view_tail.Fits (form.view_parts def).1
    → length (form.view_tail.text (form.view_parts def).1) ≡ 1 + sum_by size.item_size def.items + 1 + 1 + (length def.groups + length def.groups)
tail_long def f =
    let items = (binary 1).text (length def.items) ++ flat_map form.any_item.text def.items in
    let groups = (binary 1).text (length def.groups) ++ flat_map form.col.text def.groups in
    omega (
      arith,
      length-append items (form.flag.text def.grouped ++ groups),
      length-append (form.flag.text def.grouped) groups,
      flag_long def.grouped,
      all_long form.any_item.Fits form.any_item.text size.item_size item_long def.items f.0.1,
      cols_long def.groups,
    )

view_long : (def : ViewDef) → form.view_def.Fits def → length (form.any_record.text (rec.View def)) ≡ size.view_size def
view_long def f = omega (arith, length-append (form.view_head.text (form.view_parts def).0) (form.view_tail.text (form.view_parts def).1), head_long def f.0.0, tail_long def f.0.1)

-- ---- commits and records

action_kind_long : (k : ActionKind) → length (form.action_kind.text k) ≡ 1
action_kind_long Insert = refl
action_kind_long Delete = refl

action_long : (a : Action) → form.action.Fits a → length (form.action.text a) ≡ size.action_size a
action_long a f = omega (arith, length-append (form.action_kind.text a.kind) (form.row.text a.row), action_kind_long a.kind, row_long a.row f.1.1)

pub record_long : (r : Rec) → form.any_record.Fits r → length (form.spelling r) ≡ size.record_size r
record_long (rec.Table def) f = table_long def f
record_long (rec.View def) f = view_long def f
record_long (rec.Commit number actions) f = omega (arith, all_long form.action.Fits form.action.text size.action_size action_long actions f.1.1)
record_long (rec.Mark view upto) f = refl

no_more_actions : (actions : List Action) → length actions ≤ sum_by size.action_size actions
no_more_actions [] = omega arith
no_more_actions (a ∷ others) = omega (arith, sum_by-cons size.action_size a others, no_more_actions others)

-- a short record has few actions
pub short_has_few : (r : Rec) → size.record_size r < 2 ^ 32 → HasFewActions r
short_has_few (rec.Table def) h = tt
short_has_few (rec.View def) h = tt
short_has_few (rec.Commit number actions) h = omega (arith, h, no_more_actions actions)
short_has_few (rec.Mark view upto) h = tt
