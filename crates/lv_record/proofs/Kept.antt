-- The records that have a spelling are those that can be kept: of a value, a condition, a table and so on from the tests on it
-- to its form, and back.
use Rattle.std.proofs.Common.{◌≡◌, ℕ, ℤ, zero, suc, ◌+◌, ◌^◌, ◌<◌, ◌≤◌, Bool, true, false, cond, ◌&&◌, nat_le, nat_lt, List, [], ◌∷◌, map, length, Some, None, refl, sym, ap, subst, ◌∙◌, arith}
use Rattle.std.specs.Prelude.{FitsSigned}
use Rattle.std.specs.Int.{w64, w128}
use Rattle.std.specs.List.{list_all, AllByRecursion}
use Rattle.std.specs.Str.{is_utf8}
use Rattle.std.proofs.lemmas.Bool.{and_from, and_parts, lt-ltb, ltb-true, le-leb, leb-true}
use Rattle.std.proofs.lemmas.Int.{ints}
use Rattle.std.proofs.lemmas.List.{length-map}
use Rattle.lv_values.specs.Names.{is_name}
use Rattle.lv_values.specs.declared.value.Value.{Value}
use Rattle.lv_values.specs.declared.value.Value.TheVariants.{Num, Text as Word}
use Rattle.lv_schema.specs.Bound.{branches, branches_step, comparisons, deepest, depth, depth_step, is_some_parts, is_table_kind, item_name}
use Rattle.lv_schema.specs.Databases.{is_big, is_int, is_line}
use Rattle.lv_schema.specs.declared.action.Action.{Action}
use Rattle.lv_schema.specs.declared.action.ActionKind.{ActionKind}
use Rattle.lv_schema.specs.declared.action.ActionKind.TheVariants.{Insert, Delete}
use Rattle.lv_schema.specs.declared.cond.Col.{Col}
use Rattle.lv_schema.specs.declared.cond.Cond.{Cond}
use Rattle.lv_schema.specs.declared.cond.Cond.TheFolds.{fold-roll-Cond, map-Cond}
use Rattle.lv_schema.specs.declared.cond.Cond.TheOpen.{Cond-F, True, Cmp, And, Or, Not}
use Rattle.lv_schema.specs.declared.cond.Cond.TheViews.{roll-Cond, out-Cond, roll-out-Cond}
use Rattle.lv_schema.specs.declared.cond.Op.{Op}
use Rattle.lv_schema.specs.declared.cond.Op.TheVariants.{Eq}
use Rattle.lv_schema.specs.declared.cond.Operand.{Operand}
use Rattle.lv_schema.specs.declared.cond.Operand.TheVariants as operand
use Rattle.lv_schema.specs.declared.rec.Rec.{Rec}
use Rattle.lv_schema.specs.declared.rec.Rec.TheVariants as rec
use Rattle.lv_schema.specs.declared.table.Column.{Column}
use Rattle.lv_schema.specs.declared.table.Kind.{Kind}
use Rattle.lv_schema.specs.declared.table.Kind.TheVariants.{Int, Text, Big}
use Rattle.lv_schema.specs.declared.table.TableDef.{TableDef}
use Rattle.lv_schema.specs.declared.view.Item.{Item}
use Rattle.lv_schema.specs.declared.view.Item.TheVariants as item
use Rattle.lv_schema.specs.declared.view.ViewDef.{ViewDef}
use Rattle.lv_forms.specs.Forms.{FitsIf, signed}
use Rattle.lv_forms.specs.Tables.{FitsOf}
use Rattle.lv_record.specs.Kept as kept
use Rattle.lv_record.specs.Spelling as form
use Rattle.lv_record.proofs.Exact.{fits_from_int}
use Rattle.lv_record.proofs.Lists.{all_given, all_shown}

-- ---- names and texts

short_name : (t : List ℕ) → is_name t ≡ true → length t ≤ 32
short_name [] e = omega arith
short_name (b ∷ bs) e = leb-true (length (b ∷ bs)) 32 (and_parts _ _ (and_parts _ _ e).0).1

name_fits : (t : List ℕ) → is_name t ≡ true → is_utf8 t ≡ true → form.name.Fits t
name_fits t e u = ((omega (arith, short_name t e), u), e)

line_fits : (t : List ℕ) → is_line t ≡ true → is_utf8 t ≡ true → form.line.Fits t
line_fits t e u = ((omega (arith, leb-true (length t) 256 (and_parts _ _ e).0), u), e)

-- ---- rows

number_fits : (z : ℤ) → is_int z ≡ true → form.number.Fits z
number_fits z h = let e : form.if_int z ≡ Some z = rw h refl in subst (FitsIf (signed w64)) (sym e) (fits_from_int z h)

number_kept : (z : ℤ) → form.number.Fits z → is_int z ≡ true
number_kept z = at (is_int z) where
  at : (t : Bool) → FitsIf (signed w64) (cond t (Some z) None) → t ≡ true
  at true f = refl
  at false f = absurd f

value_fits : (v : Value) → kept.is_kept_value v ≡ true → kept.is_typed_value v ≡ true → form.value.Fits v
value_fits (Num z) k h = number_fits z k
value_fits (Word t) k h = line_fits t k h

value_kept : (v : Value) → form.value.Fits v → (kept.is_kept_value v ≡ true) × (kept.is_typed_value v ≡ true)
value_kept (Num z) f = (number_kept z f, refl)
value_kept (Word t) f = (f.1, f.0.1)

-- ---- conditions

col_fits : (c : Col) → kept.is_typed_col c ≡ true → form.col.Fits c
col_fits c h = let s = and_parts (nat_lt c.alias 256) (nat_lt c.column 256) h in (ltb-true c.alias 256 s.0, ltb-true c.column 256 s.1)

col_typed : (c : Col) → form.col.Fits c → kept.is_typed_col c ≡ true
col_typed c f = and_from _ _ (lt-ltb c.alias 256 f.0) (lt-ltb c.column 256 f.1)

big_from_fits : (z : ℤ) → FitsSigned w128 z → is_big z ≡ true
big_from_fits z f = grind (arith, ints, f.sfits)

fits_from_big : (z : ℤ) → is_big z ≡ true → FitsSigned w128 z
fits_from_big z e = record { sfits = grind (arith, ints, e) }

side_fits : (o : Operand) → kept.is_kept_side o ≡ true → kept.is_typed_side o ≡ true → form.side.Fits o
side_fits (operand.Column c) k h = col_fits c h
side_fits (operand.Number z) k h = fits_from_big z h
side_fits (operand.Text t) k h = line_fits t k h

side_kept : (o : Operand) → form.side.Fits o → (kept.is_kept_side o ≡ true) × (kept.is_typed_side o ≡ true)
side_kept (operand.Column c) f = (refl, col_typed c f)
side_kept (operand.Number z) f = (refl, big_from_fits z f)
side_kept (operand.Text t) f = (f.1, f.0.1)

op_fits : (o : Op) → form.op.Fits o
op_fits Eq = tt
op_fits _ = tt

-- what a condition of fewer than n layers of And, Or and Not has to meet
pub record IsGood (n : ℕ) (c : Cond) : Type 0 where
  pub shallow : depth c < n
  pub branched : branches c ≡ true
  pub lines : kept.has_lines c ≡ true
  pub typed : kept.is_typed_cond c ≡ true

-- the tests of a condition, by its first layer
depth_of : (e : Cond-F Cond) → depth (roll-Cond e) ≡ depth_step (map-Cond Cond ℕ depth e)
depth_of e = fold-roll-Cond ℕ depth_step e

branches_of : (e : Cond-F Cond) → branches (roll-Cond e) ≡ branches_step (map-Cond Cond Bool branches e)
branches_of e = fold-roll-Cond Bool branches_step e

lines_of : (e : Cond-F Cond) → kept.has_lines (roll-Cond e) ≡ kept.lines_step (map-Cond Cond Bool kept.has_lines e)
lines_of e = fold-roll-Cond Bool kept.lines_step e

typed_of : (e : Cond-F Cond) → kept.is_typed_cond (roll-Cond e) ≡ kept.typed_step (map-Cond Cond Bool kept.is_typed_cond e)
typed_of e = fold-roll-Cond Bool kept.typed_step e

-- parts of a condition, each good, from the tests on all of them, and back
parts_good : (n : ℕ) (parts : List Cond) → 1 + deepest (map depth parts) < suc n → list_all (λ part. part) (map branches parts) ≡ true
    → list_all (λ part. part) (map kept.has_lines parts) ≡ true → list_all (λ part. part) (map kept.is_typed_cond parts) ≡ true → AllByRecursion (IsGood n) parts
parts_good n [] d b l h = tt
parts_good n (c ∷ cs) d b l h =
    let branched = and_parts (branches c) _ b in
    let lines = and_parts (kept.has_lines c) _ l in
    let typed = and_parts (kept.is_typed_cond c) _ h in
    (record { shallow = omega arith; branched = branched.0; lines = lines.0; typed = typed.0 }, parts_good n cs (omega arith) branched.1 lines.1 typed.1)

parts_depth : (n : ℕ) (parts : List Cond) → AllByRecursion (IsGood n) parts → 0 < length parts → deepest (map depth parts) < n
parts_depth n [] all some = absurd (omega arith)
parts_depth n (c ∷ []) all some = omega (arith, all.0.shallow)
parts_depth n (c ∷ d ∷ cs) all some = omega (arith, all.0.shallow, parts_depth n (d ∷ cs) all.1 (omega arith))

parts_tested : (n : ℕ) (p : Cond → Bool) → ((c : Cond) → IsGood n c → p c ≡ true) → (parts : List Cond) → AllByRecursion (IsGood n) parts → list_all (λ part. part) (map p parts) ≡ true
parts_tested n p one [] all = refl
parts_tested n p one (c ∷ cs) all = and_from (p c) _ (one c all.0) (parts_tested n p one cs all.1)

some_parts : (parts : List Cond) → is_some_parts (map branches parts) ≡ true → (nat_le 2 (length parts) ≡ true) × (length parts < 256) × (list_all (λ part. part) (map branches parts) ≡ true)
some_parts parts e =
    let long : length (map branches parts) ≡ length parts = length-map parts branches in
    let whole = and_parts (nat_le 2 (length (map branches parts)) && nat_le (length (map branches parts)) 255) _ e in
    let some = and_parts (nat_le 2 (length (map branches parts))) _ whole.0 in
    (le-leb 2 (length parts) (omega (arith, long, leb-true 2 (length (map branches parts)) some.0)), omega (arith, long, leb-true (length (map branches parts)) 255 some.1), whole.1)

are_parts : (parts : List Cond) → nat_le 2 (length parts) ≡ true → length parts < 256 → list_all (λ part. part) (map branches parts) ≡ true → is_some_parts (map branches parts) ≡ true
are_parts parts two few all =
    let long : length (map branches parts) ≡ length parts = length-map parts branches in
    and_from _ _ (and_from _ _ (le-leb 2 (length (map branches parts)) (omega (arith, long, leb-true 2 (length parts) two))) (le-leb (length (map branches parts)) 255 (omega (arith, long, few)))) all

all_of : {A : Type 0} (F G : A → Type 0) → ((a : A) → F a → G a) → (xs : List A) → AllByRecursion F xs → AllByRecursion G xs
all_of F G one [] all = tt
all_of F G one (x ∷ xs) all = (one x all.0, all_of F G one xs all.1)

module _ (n : ℕ) (one : (c : Cond) → IsGood n c → (form.layers n).Fits c) where
  list_fits : (parts : List Cond) → 1 + deepest (map depth parts) < suc n → is_some_parts (map branches parts) ≡ true
      → list_all (λ part. part) (map kept.has_lines parts) ≡ true → list_all (λ part. part) (map kept.is_typed_cond parts) ≡ true → (form.parts_of (form.layers n)).Fits parts
  list_fits parts d b l h =
      let s = some_parts parts b in
      ((omega (arith, s.1), s.0), all_of (IsGood n) (form.layers n).Fits one parts (parts_good n parts d s.2 l h))

  layer_fits : (e : Cond-F Cond) → IsGood (suc n) (roll-Cond e) → FitsOf (form.cond_kinds (form.layers n)) (form.cond_fields (form.layers n) e)
  layer_fits True g = tt
  layer_fits (Cmp op l r) g =
      let lines = and_parts (kept.is_kept_side l) (kept.is_kept_side r) (sym (lines_of (Cmp op l r)) ∙ g.lines) in
      let typed = and_parts (kept.is_typed_side l) (kept.is_typed_side r) (sym (typed_of (Cmp op l r)) ∙ g.typed) in
      (op_fits op, (side_fits l lines.0 typed.0, side_fits r lines.1 typed.1))
  layer_fits (And parts) g =
      list_fits parts (omega (arith, depth_of (And parts), g.shallow)) (sym (branches_of (And parts)) ∙ g.branched) (sym (lines_of (And parts)) ∙ g.lines) (sym (typed_of (And parts)) ∙ g.typed)
  layer_fits (Or parts) g =
      list_fits parts (omega (arith, depth_of (Or parts), g.shallow)) (sym (branches_of (Or parts)) ∙ g.branched) (sym (lines_of (Or parts)) ∙ g.lines) (sym (typed_of (Or parts)) ∙ g.typed)
  layer_fits (Not c) g =
      one c (record {
        shallow = omega (arith, depth_of (Not c), g.shallow);
        branched = sym (branches_of (Not c)) ∙ g.branched;
        lines = sym (lines_of (Not c)) ∙ g.lines;
        typed = sym (typed_of (Not c)) ∙ g.typed;
      })

pub layers_fit : (n : ℕ) (c : Cond) → IsGood n c → (form.layers n).Fits c
unfolding form.layers
layers_fit zero c g = absurd (let none = g.shallow in omega (arith, none))
layers_fit (suc n) c g = layer_fits n (layers_fit n) (out-Cond c) (subst (IsGood (suc n)) (sym (roll-out-Cond c)) g)

module _ (n : ℕ) (one : (c : Cond) → (form.layers n).Fits c → IsGood n c) where
  layer_good : (e : Cond-F Cond) → FitsOf (form.cond_kinds (form.layers n)) (form.cond_fields (form.layers n) e) → IsGood (suc n) (roll-Cond e)
  layer_good True f = record { shallow = omega (arith, depth_of True); branched = branches_of True; lines = lines_of True; typed = typed_of True }
  layer_good (Cmp op l r) f =
      let left = side_kept l f.1.0 in
      let right = side_kept r f.1.1 in
      record {
        shallow = omega (arith, depth_of (Cmp op l r));
        branched = branches_of (Cmp op l r);
        lines = lines_of (Cmp op l r) ∙ and_from _ _ left.0 right.0;
        typed = typed_of (Cmp op l r) ∙ and_from _ _ left.1 right.1;
      }
  layer_good (And parts) f =
      let all = all_of (form.layers n).Fits (IsGood n) one parts f.1 in
      let two = leb-true 2 (length parts) f.0.1 in
      record {
        shallow = omega (arith, depth_of (And parts), parts_depth n parts all (omega (arith, two)));
        branched = branches_of (And parts) ∙ are_parts parts f.0.1 (omega (arith, f.0.0)) (parts_tested n branches (λ c g. g.branched) parts all);
        lines = lines_of (And parts) ∙ parts_tested n kept.has_lines (λ c g. g.lines) parts all;
        typed = typed_of (And parts) ∙ parts_tested n kept.is_typed_cond (λ c g. g.typed) parts all;
      }
  layer_good (Or parts) f =
      let all = all_of (form.layers n).Fits (IsGood n) one parts f.1 in
      let two = leb-true 2 (length parts) f.0.1 in
      record {
        shallow = omega (arith, depth_of (Or parts), parts_depth n parts all (omega (arith, two)));
        branched = branches_of (Or parts) ∙ are_parts parts f.0.1 (omega (arith, f.0.0)) (parts_tested n branches (λ c g. g.branched) parts all);
        lines = lines_of (Or parts) ∙ parts_tested n kept.has_lines (λ c g. g.lines) parts all;
        typed = typed_of (Or parts) ∙ parts_tested n kept.is_typed_cond (λ c g. g.typed) parts all;
      }
  layer_good (Not c) f =
      let g = one c f in
      record {
        shallow = omega (arith, depth_of (Not c), g.shallow);
        branched = branches_of (Not c) ∙ g.branched;
        lines = lines_of (Not c) ∙ g.lines;
        typed = typed_of (Not c) ∙ g.typed;
      }

pub layers_good : (n : ℕ) (c : Cond) → (form.layers n).Fits c → IsGood n c
unfolding form.layers
layers_good zero c f = absurd f
layers_good (suc n) c f = subst (IsGood (suc n)) (roll-out-Cond c) (layer_good n (layers_good n) (out-Cond c) f)

-- ---- tables

column_kind_fits : (k : Kind) → is_table_kind k ≡ true → form.column_kind.Fits k
column_kind_fits Int e = tt
column_kind_fits Text e = tt
column_kind_fits Big e = absurd cc

column_kind_kept : (k : Kind) → form.column_kind.Fits k → is_table_kind k ≡ true
column_kind_kept Int f = refl
column_kind_kept Text f = refl
column_kind_kept Big f = absurd f

abbrev is_column : Column → Bool
is_column c = is_name c.name && is_table_kind c.kind

both_all : {A : Type 0} (p q : A → Bool) (xs : List A) → list_all p xs ≡ true → list_all q xs ≡ true → list_all (λ x. p x && q x) xs ≡ true
both_all p q [] e f = refl
both_all p q (x ∷ xs) e f =
    let at = and_parts (p x) _ e in
    let by = and_parts (q x) _ f in
    and_from _ _ (and_from _ _ at.0 by.0) (both_all p q xs at.1 by.1)

key_typed : (k : ℕ) → nat_lt k 256 ≡ true → k < 256 ^ 1
key_typed k e = omega (arith, ltb-true k 256 e)

below_byte : (k : ℕ) → k < 256 ^ 1 → nat_lt k 256 ≡ true
below_byte k f = lt-ltb k 256 (omega (arith, f))

table_fits : (def : TableDef) → kept.IsKeptTable def → kept.is_typed_table def ≡ true → form.table_def.Fits def
table_fits def k h =
    let name = and_parts (is_utf8 def.name) _ h in
    let rest = and_parts (list_all (λ c. is_utf8 c.name) def.columns) _ name.1 in
    let columns : AllByRecursion form.column.Fits def.columns =
    all_given form.column.Fits is_column (λ c. is_utf8 c.name)
    (λ c e u. (let s = and_parts (is_name c.name) (is_table_kind c.kind) e in (name_fits c.name s.0 u, column_kind_fits c.kind s.1)))
    def.columns (both_all (λ c. is_name c.name) (λ c. is_table_kind c.kind) def.columns k.columns_named k.kinds) rest.0 in
    let key : AllByRecursion (λ n. n < 256 ^ 1) def.key = all_given (λ n. n < 256 ^ 1) (λ n. nat_lt n 256) (λ n. nat_lt n 256) (λ n e f. key_typed n e) def.key rest.1 rest.1 in (
      (
        name_fits def.name k.named name.0,
        (
          ((omega (arith, k.few_columns), le-leb (length def.columns) 16 k.few_columns), columns),
          ((omega (arith, k.few_keys), le-leb (length def.key) 16 k.few_keys), key),
        ),
      ),
      k.no_number,
    )

table_kept : (def : TableDef) → form.table_def.Fits def → kept.IsKeptTable def × (kept.is_typed_table def ≡ true)
table_kept def f = (
  record {
    no_number = f.1;
    named = f.0.0.1;
    few_columns = leb-true (length def.columns) 16 f.0.1.0.0.1;
    columns_named = all_shown form.column.Fits (λ c. is_name c.name) (λ c g. g.0.1) def.columns f.0.1.0.1;
    kinds = all_shown form.column.Fits (λ c. is_table_kind c.kind) (λ c g. column_kind_kept c.kind g.1) def.columns f.0.1.0.1;
    few_keys = leb-true (length def.key) 16 f.0.1.1.0.1;
  },
  and_from _ _ f.0.0.0.1 (and_from _ _ (all_shown form.column.Fits (λ c. is_utf8 c.name) (λ c g. g.0.0.1) def.columns f.0.1.0.1) (all_shown (λ n. n < 256 ^ 1) (λ n. nat_lt n 256) below_byte def.key f.0.1.1.1)),
)

-- ---- views

item_fits : (i : Item) → is_name (item_name i) ≡ true → kept.is_typed_item i ≡ true → form.any_item.Fits i
item_fits (item.Plain c called) e h = let s = and_parts (kept.is_typed_col c) (is_utf8 called) h in (col_fits c s.0, name_fits called e s.1)
item_fits (item.Sum c called) e h = let s = and_parts (kept.is_typed_col c) (is_utf8 called) h in (col_fits c s.0, name_fits called e s.1)
item_fits (item.Count called) e h = name_fits called e h

item_kept : (i : Item) → form.any_item.Fits i → (is_name (item_name i) ≡ true) × (kept.is_typed_item i ≡ true)
item_kept (item.Plain c called) f = (f.1.1, and_from _ _ (col_typed c f.0) f.1.0.1)
item_kept (item.Sum c called) f = (f.1.1, and_from _ _ (col_typed c f.0) f.1.0.1)
item_kept (item.Count called) f = (f.1, f.0.1)

flag_fits : (t : Bool) → form.flag.Fits t
flag_fits true = tt
flag_fits false = tt

named_items : (items : List Item) → list_all is_name (map item_name items) ≡ list_all (λ i. is_name (item_name i)) items
named_items [] = refl
named_items (i ∷ is) = ap (λ t. is_name (item_name i) && t) (named_items is)

view_fits : (def : ViewDef) → kept.IsKeptView def → kept.is_typed_view def ≡ true → form.view_def.Fits def
view_fits def k h =
    let name = and_parts (is_utf8 def.name) _ h in
    let created = and_parts (nat_lt def.created (2 ^ 64)) _ name.1 in
    let cond = and_parts (kept.is_typed_cond def.cond) _ created.1 in
    let rest = and_parts (list_all kept.is_typed_item def.items) _ cond.1 in
    let good : IsGood 131 def.cond = record { shallow = omega (arith, k.kept_cond.shallow); branched = k.kept_cond.branches_well; lines = k.lines; typed = cond.0 } in
    let tables : AllByRecursion (λ n. n < 256 ^ 1) def.tables = all_given (λ n. n < 256 ^ 1) (λ n. nat_lt n 256) (λ n. nat_lt n 256) (λ n e f. key_typed n e) def.tables k.tables k.tables in
    let items : AllByRecursion form.any_item.Fits def.items = all_given form.any_item.Fits (λ i. is_name (item_name i)) kept.is_typed_item item_fits def.items (sym (named_items def.items) ∙ k.items_named) rest.0 in
    let groups : AllByRecursion form.col.Fits def.groups = all_given form.col.Fits kept.is_typed_col kept.is_typed_col (λ c e f. col_fits c e) def.groups rest.1 rest.1 in (
      (
        (
          name_fits def.name k.named name.0,
          (
            omega (arith, ltb-true def.created (2 ^ 64) created.0),
            (
              ((omega (arith, k.few_aliases), le-leb (length def.tables) 4 k.few_aliases), tables),
              (layers_fit 131 def.cond good, le-leb (comparisons def.cond) 16 k.few_comparisons),
            ),
          ),
        ),
        (((omega (arith, k.few_items), le-leb (length def.items) 16 k.few_items), items), (flag_fits def.grouped, ((omega (arith, k.few_groups), le-leb (length def.groups) 16 k.few_groups), groups))),
      ),
      k.no_number,
    )

view_kept : (def : ViewDef) → form.view_def.Fits def → kept.IsKeptView def × (kept.is_typed_view def ≡ true)
view_kept def f =
    let head = f.0.0 in
    let tail = f.0.1 in
    let good : IsGood 131 def.cond = layers_good 131 def.cond head.1.1.1.0 in (
      record {
        no_number = f.1;
        named = head.0.1;
        few_aliases = leb-true (length def.tables) 4 head.1.1.0.0.1;
        tables = all_shown (λ n. n < 256 ^ 1) (λ n. nat_lt n 256) below_byte def.tables head.1.1.0.1;
        kept_cond = record { branches_well = good.branched; shallow = omega (arith, good.shallow) };
        few_comparisons = leb-true (comparisons def.cond) 16 head.1.1.1.1;
        lines = good.lines;
        few_items = leb-true (length def.items) 16 tail.0.0.1;
        items_named = named_items def.items ∙ all_shown form.any_item.Fits (λ i. is_name (item_name i)) (λ i g. (item_kept i g).0) def.items tail.0.1;
        few_groups = leb-true (length def.groups) 16 tail.1.1.0.1;
      },
      and_from _ _ head.0.0.1
          (and_from _ _ (lt-ltb def.created (2 ^ 64) (omega (arith, head.1.0)))
          (and_from _ _ good.typed
          (and_from _ _ (all_shown form.any_item.Fits kept.is_typed_item (λ i g. (item_kept i g).1) def.items tail.0.1) (all_shown form.col.Fits kept.is_typed_col col_typed def.groups tail.1.1.1)))),
    )

-- ---- commits

action_kind_fits : (k : ActionKind) → form.action_kind.Fits k
action_kind_fits Insert = tt
action_kind_fits Delete = tt

action_fits : (a : Action) → kept.is_kept_action a ≡ true → kept.is_typed_action a ≡ true → form.action.Fits a
action_fits a k h =
    let table = and_parts (nat_lt a.table 256) _ k in
    let row = and_parts (nat_le (length a.row) 16) _ table.1 in
    let typed = and_parts (nat_lt a.statement (2 ^ 32)) _ h in
    let few = leb-true (length a.row) 16 row.0 in (
      (key_typed a.table table.0, omega (arith, ltb-true a.statement (2 ^ 32) typed.0)),
      (action_kind_fits a.kind, ((omega (arith, few), row.0), all_given form.value.Fits kept.is_kept_value kept.is_typed_value value_fits a.row row.1 typed.1)),
    )

action_kept : (a : Action) → form.action.Fits a → (kept.is_kept_action a ≡ true) × (kept.is_typed_action a ≡ true)
action_kept a f = (
  and_from _ _ (below_byte a.table f.0.0) (and_from _ _ f.1.1.0.1 (all_shown form.value.Fits kept.is_kept_value (λ v g. (value_kept v g).0) a.row f.1.1.1)),
  and_from _ _ (lt-ltb a.statement (2 ^ 32) (omega (arith, f.0.1))) (all_shown form.value.Fits kept.is_typed_value (λ v g. (value_kept v g).1) a.row f.1.1.1),
)

-- ---- records

pub record_fits : (r : Rec) → kept.IsKept r → kept.is_typed r ≡ true → kept.HasFewActions r → form.any_record.Fits r
record_fits (rec.Table def) k h few = table_fits def k h
record_fits (rec.View def) k h few = view_fits def k h
record_fits (rec.Commit number actions) k h few =
    let typed = and_parts (nat_lt number (2 ^ 64)) _ h in
    (omega (arith, ltb-true number (2 ^ 64) typed.0), (omega (arith, few), all_given form.action.Fits kept.is_kept_action kept.is_typed_action action_fits actions k typed.1))
record_fits (rec.Mark view upto) k h few = (omega (arith, k), omega (arith, ltb-true upto (2 ^ 64) h))

pub record_kept : (r : Rec) → form.any_record.Fits r → kept.IsKept r × (kept.is_typed r ≡ true) × kept.HasFewActions r
record_kept (rec.Table def) f = let t = table_kept def f in (t.0, t.1, tt)
record_kept (rec.View def) f = let v = view_kept def f in (v.0, v.1, tt)
record_kept (rec.Commit number actions) f = (
  all_shown form.action.Fits kept.is_kept_action (λ a g. (action_kept a g).0) actions f.1.1,
  and_from _ _ (lt-ltb number (2 ^ 64) (omega (arith, f.0))) (all_shown form.action.Fits kept.is_typed_action (λ a g. (action_kept a g).1) actions f.1.1),
  omega (arith, f.1.0),
)
record_kept (rec.Mark view upto) f = (omega (arith, f.0), lt-ltb upto (2 ^ 64) (omega (arith, f.1)), tt)
