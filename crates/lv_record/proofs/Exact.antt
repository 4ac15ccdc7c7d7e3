-- The forms of records are exact: what is read was written, and what was written is read again.
use Rattle.std.proofs.Common.{rules, true, false, ◌≡◌, ◌++◌, ℕ, ℤ, pos, negsuc, ◌^◌, Bool, cond, zero, suc, nat_le, List, [], Some, None, refl, sym, ap, arith}
use Rattle.std.specs.Prelude.{FitsSigned}
use Rattle.std.specs.Int.{w64, w128}
use Rattle.std.proofs.lemmas.Bool.{lt-ltb}
use Rattle.std.proofs.lemmas.Int.{ints}
use Rattle.lv_values.specs.Names.{is_name}
use Rattle.lv_values.specs.declared.value.Value.{Value}
use Rattle.lv_values.specs.declared.value.Value.TheVariants.{Num}
use Rattle.lv_schema.specs.Bound.{comparisons}
use Rattle.lv_schema.specs.Databases.{is_int, is_line}
use Rattle.lv_schema.specs.declared.action.ActionKind.{ActionKind}
use Rattle.lv_schema.specs.declared.action.ActionKind.TheVariants.{Insert, Delete}
use Rattle.lv_schema.specs.declared.cond.Cond.{Cond}
use Rattle.lv_schema.specs.declared.cond.Cond.TheOpen.{Cond-F, True}
use Rattle.lv_schema.specs.declared.cond.Cond.TheViews.{roll-Cond, out-Cond, roll-out-Cond, out-roll-Cond}
use Rattle.lv_schema.specs.declared.cond.Op.{Op}
use Rattle.lv_schema.specs.declared.cond.Op.TheVariants.{Eq}
use Rattle.lv_schema.specs.declared.cond.Operand.{Operand}
use Rattle.lv_schema.specs.declared.cond.Operand.TheVariants as operand
use Rattle.lv_schema.specs.declared.rec.Rec.{Rec}
use Rattle.lv_schema.specs.declared.rec.Rec.TheVariants as rec
use Rattle.lv_schema.specs.declared.table.Kind.{Kind as ColumnKind}
use Rattle.lv_schema.specs.declared.table.Kind.TheVariants.{Int, Text, Big}
use Rattle.lv_schema.specs.declared.table.TableDef.{TableDef}
use Rattle.lv_schema.specs.declared.view.Item.{Item}
use Rattle.lv_schema.specs.declared.view.Item.TheVariants as item
use Rattle.lv_schema.specs.declared.view.ViewDef.{ViewDef}
use Rattle.lv_forms.specs.Forms.{Form, IsExact, IfIs, binary, both, listed}
use Rattle.lv_forms.specs.Tables.{make_of}
use Rattle.lv_forms.proofs.Exact.{tells, nothing_exact, never_exact, binary_exact, signed_exact, letters_exact, both_exact, listed_exact, mapped_exact, partly_exact, among_exact, only_exact}
use Rattle.lv_forms.proofs.ExactTables.{table_exact}
use Rattle.lv_record.specs.Spelling as form

few_exact : (most : ℕ) → IsExact (form.few most)
few_exact most = only_exact (λ k. nat_le k most) (binary_exact 1)

-- a list with its count in a byte
few_listed : {A : Type 0} {f : Form A} (most : ℕ) → IsExact f → ((rest : List ℕ) → f.ends rest ≡ true) → IsExact (listed (form.few most) f)
few_listed {A} {f} most x free = listed_exact (few_exact most) (λ rest. refl) x free

name_exact : IsExact form.name
name_exact = only_exact is_name (letters_exact (binary_exact 1) (λ rest. refl))

line_exact : IsExact form.line
line_exact = only_exact is_line (letters_exact (binary_exact 2) (λ rest. refl))

-- ---- rows

pub int_from_fits : (z : ℤ) → FitsSigned w64 z → is_int z ≡ true
int_from_fits (pos n) f = lt-ltb n (2 ^ 63) f.sfits
int_from_fits (negsuc n) f = grind (arith, ints, f.sfits)

pub fits_from_int : (z : ℤ) → is_int z ≡ true → FitsSigned w64 z
fits_from_int (pos n) e = record { sfits = grind (arith, ints, e) }
fits_from_int (negsuc n) e = record { sfits = grind (arith, ints, e) }

number_made : (z : ℤ) → IfIs (form.if_int z) (λ a. a ≡ z)
number_made z = at (is_int z) where
  at : (t : Bool) → IfIs (cond t (Some z) None) (λ a. a ≡ z)
  at true = refl
  at false = tt

number_parted : (z : ℤ) → FitsSigned w64 z → form.if_int z ≡ Some z
number_parted z f = rw (int_from_fits z f) refl

number_exact : IsExact form.number
number_exact = partly_exact (λ (z : ℤ). z) form.if_int (signed_exact w64 refl) number_made number_parted

value_made : (v : Value) → make_of form.value_kinds (form.value_fields v) ≡ v
value_made (Num z) = refl
value_made _ = refl

value_exact : IsExact form.value
value_exact = table_exact form.value_kinds form.value_fields refl (number_exact, (line_exact, tt)) value_made (search rules)

row_exact : IsExact form.row
row_exact = few_listed 16 value_exact (λ rest. refl)

-- ---- conditions

op_made : (o : Op) → make_of form.op_kinds (form.op_fields o) ≡ o
op_made Eq = refl
op_made _ = refl

op_exact : IsExact form.op
op_exact = table_exact form.op_kinds form.op_fields refl (search nothing_exact) op_made (search rules)

col_exact : IsExact form.col
col_exact = mapped_exact _ _ (both_exact (binary_exact 1) (λ b rest fits. refl) (binary_exact 1)) (λ c. refl) (λ p. refl)

side_made : (o : Operand) → make_of form.operand_kinds (form.operand_fields o) ≡ o
side_made (operand.Column c) = refl
side_made _ = refl

side_exact : IsExact form.side
side_exact = table_exact form.operand_kinds form.operand_fields refl (col_exact, (signed_exact w128 refl, (line_exact, tt))) side_made (search rules)

comparison_exact : IsExact form.comparison
comparison_exact = both_exact op_exact (λ b rest fits. refl) (both_exact side_exact (λ b rest fits. refl) side_exact)

cond_made : (part : Form Cond) (c : Cond-F Cond) → make_of (form.cond_kinds part) (form.cond_fields part c) ≡ c
cond_made part True = refl
cond_made part _ = refl

module _ (part : Form Cond) (x : IsExact part) (free : (rest : List ℕ) → part.ends rest ≡ true) where
  parts_exact : IsExact (form.parts_of part)
  parts_exact = listed_exact (only_exact (nat_le 2) (binary_exact 1)) (λ rest. refl) x free

  layer_exact : IsExact (form.layer part)
  layer_exact =
      mapped_exact roll-Cond out-Cond
      (table_exact (form.cond_kinds part) (form.cond_fields part) refl (nothing_exact, (comparison_exact, (parts_exact, (parts_exact, (x, tt))))) (cond_made part) (search rules))
      roll-out-Cond out-roll-Cond

  layer_free : (rest : List ℕ) → (form.layer part).ends rest ≡ true
  layer_free rest = rw (free rest) refl

layers_exact : (n : ℕ) → IsExact (form.layers n) × ((rest : List ℕ) → (form.layers n).ends rest ≡ true)
unfolding form.layers
layers_exact zero = (never_exact, λ rest. refl)
layers_exact (suc n) = let x = layers_exact n in (layer_exact (form.layers n) x.0 x.1, layer_free (form.layers n) x.0 x.1)

cond_exact : IsExact form.cond
cond_exact = only_exact (λ c. nat_le (comparisons c) 16) (layers_exact 131).0

cond_free : (rest : List ℕ) → form.cond.ends rest ≡ true
cond_free rest = (layers_exact 131).1 rest

-- ---- tables and views

column_bits : (t : Bool) → make_of form.column_kinds (form.column_fields t) ≡ t
column_bits true = refl
column_bits false = refl

column_kind_made : (k : ColumnKind) → IfIs (form.are_texts k) (λ a. form.texts_or_ints a ≡ k)
column_kind_made Int = refl
column_kind_made Text = refl
column_kind_made Big = tt

column_kind_parted : (t : Bool) → form.are_texts (form.texts_or_ints t) ≡ Some t
column_kind_parted true = refl
column_kind_parted false = refl

column_kind_exact : IsExact form.column_kind
column_kind_exact =
    partly_exact form.texts_or_ints form.are_texts (table_exact form.column_kinds form.column_fields refl (search nothing_exact) column_bits (search rules)) column_kind_made
    (λ t fits. column_kind_parted t)

column_exact : IsExact form.column
column_exact = mapped_exact _ _ (both_exact name_exact (λ b rest fits. refl) column_kind_exact) (λ c. refl) (λ p. refl)

table_back : (def : TableDef) → def.no ≡ 0 → form.table_of (form.table_parts def) ≡ def
table_back def e = ap (λ (n : ℕ). record def { no = n }) (sym e)

table_def_exact : IsExact form.table_def
table_def_exact =
    among_exact form.table_of form.table_parts (λ def. def.no ≡ 0)
    (both_exact name_exact (λ b rest fits. refl) (both_exact (few_listed 16 column_exact (λ rest. refl)) (λ b rest fits. refl) (few_listed 16 (binary_exact 1) (λ rest. refl))))
    table_back
    (λ p fits. (refl, refl))

item_made : (i : Item) → make_of form.item_kinds (form.item_fields i) ≡ i
item_made (item.Plain c called) = refl
item_made _ = refl

named_exact : IsExact (both form.col form.name)
named_exact = both_exact col_exact (λ b rest fits. refl) name_exact

item_exact : IsExact form.any_item
item_exact = table_exact form.item_kinds form.item_fields refl (named_exact, (named_exact, (name_exact, tt))) item_made (search rules)

flag_made : (t : Bool) → make_of form.flag_kinds (form.flag_fields t) ≡ t
flag_made true = refl
flag_made false = refl

flag_exact : IsExact form.flag
flag_exact = table_exact form.flag_kinds form.flag_fields refl (search nothing_exact) flag_made (search rules)

head_exact : IsExact form.view_head
head_exact = both_exact name_exact (λ b rest fits. refl) (both_exact (binary_exact 8) (λ b rest fits. refl) (both_exact (few_listed 4 (binary_exact 1) (λ rest. refl)) (λ b rest fits. refl) cond_exact))

tail_exact : IsExact form.view_tail
tail_exact = both_exact (few_listed 16 item_exact (λ rest. refl)) (λ b rest fits. refl) (both_exact flag_exact (λ b rest fits. refl) (few_listed 16 col_exact (λ rest. refl)))

view_back : (def : ViewDef) → def.no ≡ 0 → form.view_of (form.view_parts def) ≡ def
view_back def e = ap (λ (n : ℕ). record def { no = n }) (sym e)

view_def_exact : IsExact form.view_def
view_def_exact = among_exact form.view_of form.view_parts (λ def. def.no ≡ 0) (both_exact head_exact (λ b rest fits. cond_free (form.view_tail.text b ++ rest)) tail_exact) view_back (λ p fits. (refl, refl))

-- ---- commits and records

action_kind_made : (k : ActionKind) → make_of form.action_kinds (form.action_fields k) ≡ k
action_kind_made Insert = refl
action_kind_made Delete = refl

action_kind_exact : IsExact form.action_kind
action_kind_exact = table_exact form.action_kinds form.action_fields refl (search nothing_exact) action_kind_made (search rules)

action_exact : IsExact form.action
action_exact =
    mapped_exact form.action_of form.action_parts
    (both_exact (both_exact (binary_exact 1) (λ b rest fits. refl) (binary_exact 4)) (λ b rest fits. refl) (both_exact action_kind_exact (λ b rest fits. refl) row_exact))
    (λ a. refl)
    (λ p. refl)

commit_exact : IsExact form.commit
commit_exact = both_exact (binary_exact 8) (λ b rest fits. refl) (listed_exact (binary_exact 4) (λ rest. refl) action_exact (λ rest. refl))

mark_exact : IsExact (both (binary 1) (binary 8))
mark_exact = both_exact (binary_exact 1) (λ b rest fits. refl) (binary_exact 8)

record_made : (r : Rec) → make_of form.record_kinds (form.record_fields r) ≡ r
record_made (rec.Table def) = refl
record_made _ = refl

pub record_exact : IsExact form.any_record
record_exact = table_exact form.record_kinds form.record_fields refl (table_def_exact, (view_def_exact, (commit_exact, (mark_exact, tt)))) record_made (search rules)

-- anything may follow a record
record_free : (rest : List ℕ) → form.any_record.ends rest ≡ true
record_free rest = refl

-- one text is that of one record
pub told_apart : (r s : Rec) → form.any_record.Fits r → form.any_record.Fits s → form.spelling r ≡ form.spelling s → r ≡ s
told_apart r s fr fs e = (tells record_exact r s [] [] fr fs (record_free []) (record_free []) (ap (λ (t : List ℕ). t ++ []) e)).0
