-- How the journal's records are spelled in bytes. Numbers have their lowest byte first. Each kind of a thing has a number
-- of its own, which comes first.
use Rattle.std.specs.Prelude.{◌≡◌, ℕ, zero, suc, ℤ, Bool, true, false, if◌then◌else◌, nat_le, List, [], ◌∷◌, Option, Some, None}
use Rattle.std.specs.Int.{w64, w128}
use Rattle.lv_values.specs.Names.{is_name}
use Rattle.lv_values.specs.declared.value.Value.{Value}
use Rattle.lv_values.specs.declared.value.Value.TheVariants.{Num, Text as Word}
use Rattle.lv_schema.specs.Bound.{comparisons}
use Rattle.lv_schema.specs.Databases.{is_int, is_line}
use Rattle.lv_schema.specs.declared.action.Action.{Action}
use Rattle.lv_schema.specs.declared.action.ActionKind.{ActionKind}
use Rattle.lv_schema.specs.declared.action.ActionKind.TheVariants.{Insert, Delete}
use Rattle.lv_schema.specs.declared.cond.Col.{Col}
use Rattle.lv_schema.specs.declared.cond.Cond.{Cond}
use Rattle.lv_schema.specs.declared.cond.Cond.TheOpen.{Cond-F, True, Cmp, And, Or, Not}
use Rattle.lv_schema.specs.declared.cond.Cond.TheViews.{roll-Cond, out-Cond}
use Rattle.lv_schema.specs.declared.cond.Op.{Op}
use Rattle.lv_schema.specs.declared.cond.Op.TheVariants.{Eq, Ne, Lt, Le, Gt, Ge}
use Rattle.lv_schema.specs.declared.cond.Operand.{Operand}
use Rattle.lv_schema.specs.declared.cond.Operand.TheVariants as operand
use Rattle.lv_schema.specs.declared.rec.Rec.{Rec}
use Rattle.lv_schema.specs.declared.rec.Rec.TheVariants as rec
use Rattle.lv_schema.specs.declared.table.Column.{Column}
use Rattle.lv_schema.specs.declared.table.Kind.{Kind as ColumnKind}
use Rattle.lv_schema.specs.declared.table.Kind.TheVariants.{Int, Text, Big}
use Rattle.lv_schema.specs.declared.table.TableDef.{TableDef}
use Rattle.lv_schema.specs.declared.view.Item.{Item}
use Rattle.lv_schema.specs.declared.view.Item.TheVariants as item
use Rattle.lv_schema.specs.declared.view.ViewDef.{ViewDef}
use Rattle.lv_forms.specs.Forms.{Form, nothing, never, binary, signed, letters, both, listed, mapped, partly, among, only, up_to}
use Rattle.lv_forms.specs.Tables.{Kind, kind, Fields, at, table}

-- a count in a byte, up to a limit
abbrev pub few : ℕ → Form ℕ
few most = up_to most (binary 1)

-- the length in a byte, and the bytes of a name
abbrev pub name : Form (List ℕ)
name = only is_name (letters (binary 1))

-- the length in two bytes, and the bytes of a text in UTF-8
abbrev pub line : Form (List ℕ)
line = only is_line (letters (binary 2))

-- ---- rows

-- a number of 64 bits
abbrev pub if_int : ℤ → Option ℤ
if_int z = if is_int z then Some z else None

abbrev pub number : Form ℤ
number = partly (λ z. z) if_int (signed w64)

abbrev pub value_kinds : List (Kind Value)
value_kinds =
    kind (1 ∷ []) number Num
    ∷ kind (2 ∷ []) line Word
    ∷ []

abbrev pub value_fields : Value → Fields value_kinds
value_fields (Num z) = at value_kinds 0 z
value_fields (Word t) = at value_kinds 1 t

abbrev pub value : Form Value
value = table value_kinds value_fields

abbrev pub row : Form (List Value)
row = listed (few 16) value

-- ---- conditions

abbrev pub op_kinds : List (Kind Op)
op_kinds =
    kind (1 ∷ []) nothing (λ _. Eq)
    ∷ kind (2 ∷ []) nothing (λ _. Ne)
    ∷ kind (3 ∷ []) nothing (λ _. Lt)
    ∷ kind (4 ∷ []) nothing (λ _. Le)
    ∷ kind (5 ∷ []) nothing (λ _. Gt)
    ∷ kind (6 ∷ []) nothing (λ _. Ge)
    ∷ []

abbrev pub op_fields : Op → Fields op_kinds
op_fields Eq = at op_kinds 0 tt
op_fields Ne = at op_kinds 1 tt
op_fields Lt = at op_kinds 2 tt
op_fields Le = at op_kinds 3 tt
op_fields Gt = at op_kinds 4 tt
op_fields Ge = at op_kinds 5 tt

abbrev pub op : Form Op
op = table op_kinds op_fields

-- an alias and a column of its table
abbrev pub col : Form Col
col = mapped (λ p. record { alias = p.0; column = p.1 }) (λ c. (c.alias, c.column)) (both (binary 1) (binary 1))

abbrev pub operand_kinds : List (Kind Operand)
operand_kinds =
    kind (1 ∷ []) col operand.Column
    ∷ kind (2 ∷ []) (signed w128) operand.Number
    ∷ kind (3 ∷ []) line operand.Text
    ∷ []

abbrev pub operand_fields : Operand → Fields operand_kinds
operand_fields (operand.Column c) = at operand_kinds 0 c
operand_fields (operand.Number z) = at operand_kinds 1 z
operand_fields (operand.Text t) = at operand_kinds 2 t

abbrev pub side : Form Operand
side = table operand_kinds operand_fields

-- a sign and its sides
abbrev pub comparison : Form (Op × (Operand × Operand))
comparison = both op (both side side)

-- two parts or more
abbrev pub parts_of : Form Cond → Form (List Cond)
parts_of part = listed (only (nat_le 2) (binary 1)) part

-- a condition whose parts have this form
abbrev pub cond_kinds : Form Cond → List (Kind (Cond-F Cond))
cond_kinds part =
    kind (0 ∷ []) nothing (λ _. True)
    ∷ kind (1 ∷ []) comparison (λ p. Cmp p.0 p.1.0 p.1.1)
    ∷ kind (2 ∷ []) (parts_of part) And
    ∷ kind (3 ∷ []) (parts_of part) Or
    ∷ kind (4 ∷ []) part Not
    ∷ []

abbrev pub cond_fields : (part : Form Cond) → Cond-F Cond → Fields (cond_kinds part)
cond_fields part True = at (cond_kinds part) 0 tt
cond_fields part (Cmp sign left right) = at (cond_kinds part) 1 (sign, (left, right))
cond_fields part (And parts) = at (cond_kinds part) 2 parts
cond_fields part (Or parts) = at (cond_kinds part) 3 parts
cond_fields part (Not c) = at (cond_kinds part) 4 c

abbrev pub layer : Form Cond → Form Cond
layer part = mapped roll-Cond out-Cond (table (cond_kinds part) (cond_fields part))

-- a condition of at most so many layers, the comparisons among them
unfoldable pub layers : ℕ → Form Cond
layers zero = never
layers (suc more) = layer (layers more)

-- at most 16 comparisons, below at most 130 layers of And, Or and Not
abbrev pub cond : Form Cond
cond = only (λ c. nat_le (comparisons c) 16) (layers 131)

-- ---- tables and views

abbrev pub column_kinds : List (Kind Bool)
column_kinds = kind (1 ∷ []) nothing (λ _. false) ∷ kind (2 ∷ []) nothing (λ _. true) ∷ []

abbrev pub column_fields : Bool → Fields column_kinds
column_fields false = at column_kinds 0 tt
column_fields true = at column_kinds 1 tt

-- numbers or texts; columns of a table are never Big
abbrev pub texts_or_ints : Bool → ColumnKind
texts_or_ints true = Text
texts_or_ints false = Int

abbrev pub are_texts : ColumnKind → Option Bool
are_texts Int = Some false
are_texts Text = Some true
are_texts Big = None

abbrev pub column_kind : Form ColumnKind
column_kind = partly texts_or_ints are_texts (table column_kinds column_fields)

abbrev pub column : Form Column
column = mapped (λ p. record { name = p.0; kind = p.1 }) (λ c. (c.name, c.kind)) (both name column_kind)

-- its own number is not kept
abbrev pub table_of : List ℕ × (List Column × List ℕ) → TableDef
table_of p = record { no = 0; name = p.0; columns = p.1.0; key = p.1.1 }

abbrev pub table_parts : TableDef → List ℕ × (List Column × List ℕ)
table_parts def = (def.name, (def.columns, def.key))

abbrev pub table_def : Form TableDef
table_def = among table_of table_parts (λ def. def.no ≡ 0) (both name (both (listed (few 16) column) (listed (few 16) (binary 1))))

abbrev pub item_kinds : List (Kind Item)
item_kinds =
    kind (1 ∷ []) (both col name) (λ p. item.Plain p.0 p.1)
    ∷ kind (2 ∷ []) (both col name) (λ p. item.Sum p.0 p.1)
    ∷ kind (3 ∷ []) name item.Count
    ∷ []

abbrev pub item_fields : Item → Fields item_kinds
item_fields (item.Plain c called) = at item_kinds 0 (c, called)
item_fields (item.Sum c called) = at item_kinds 1 (c, called)
item_fields (item.Count called) = at item_kinds 2 called

abbrev pub any_item : Form Item
any_item = table item_kinds item_fields

abbrev pub flag_kinds : List (Kind Bool)
flag_kinds = kind (0 ∷ []) nothing (λ _. false) ∷ kind (1 ∷ []) nothing (λ _. true) ∷ []

abbrev pub flag_fields : Bool → Fields flag_kinds
flag_fields false = at flag_kinds 0 tt
flag_fields true = at flag_kinds 1 tt

abbrev pub flag : Form Bool
flag = table flag_kinds flag_fields

abbrev pub Head : Type 0
Head = List ℕ × (ℕ × (List ℕ × Cond))

abbrev pub Tail : Type 0
Tail = List Item × (Bool × List Col)

-- the name, the commit of the creation, the table of each alias, and the condition
abbrev pub view_head : Form Head
view_head = both name (both (binary 8) (both (listed (few 4) (binary 1)) cond))

-- the list, whether it is grouped, and the columns of GROUP BY
abbrev pub view_tail : Form Tail
view_tail = both (listed (few 16) any_item) (both flag (listed (few 16) col))

abbrev pub view_of : Head × Tail → ViewDef
view_of p = record { no = 0; name = p.0.0; created = p.0.1.0; tables = p.0.1.1.0; cond = p.0.1.1.1; items = p.1.0; grouped = p.1.1.0; groups = p.1.1.1 }

abbrev pub view_parts : ViewDef → Head × Tail
view_parts def = ((def.name, (def.created, (def.tables, def.cond))), (def.items, (def.grouped, def.groups)))

abbrev pub view_def : Form ViewDef
view_def = among view_of view_parts (λ def. def.no ≡ 0) (both view_head view_tail)

-- ---- commits

abbrev pub action_kinds : List (Kind ActionKind)
action_kinds = kind (1 ∷ []) nothing (λ _. Insert) ∷ kind (2 ∷ []) nothing (λ _. Delete) ∷ []

abbrev pub action_fields : ActionKind → Fields action_kinds
action_fields Insert = at action_kinds 0 tt
action_fields Delete = at action_kinds 1 tt

abbrev pub action_kind : Form ActionKind
action_kind = table action_kinds action_fields

abbrev pub action_of : (ℕ × ℕ) × (ActionKind × List Value) → Action
action_of p = record { table = p.0.0; statement = p.0.1; kind = p.1.0; row = p.1.1 }

abbrev pub action_parts : Action → (ℕ × ℕ) × (ActionKind × List Value)
action_parts a = ((a.table, a.statement), (a.kind, a.row))

-- the table, the number of the statement, the kind, and the row
abbrev pub action : Form Action
action = mapped action_of action_parts (both (both (binary 1) (binary 4)) (both action_kind row))

-- the number of the commit, and its actions
abbrev pub commit : Form (ℕ × List Action)
commit = both (binary 8) (listed (binary 4) action)

-- ---- records

abbrev pub record_kinds : List (Kind Rec)
record_kinds =
    kind (1 ∷ []) table_def rec.Table
    ∷ kind (2 ∷ []) view_def rec.View
    ∷ kind (3 ∷ []) commit (λ p. rec.Commit p.0 p.1)
    ∷ kind (4 ∷ []) (both (binary 1) (binary 8)) (λ p. rec.Mark p.0 p.1)
    ∷ []

abbrev pub record_fields : Rec → Fields record_kinds
record_fields (rec.Table def) = at record_kinds 0 def
record_fields (rec.View def) = at record_kinds 1 def
record_fields (rec.Commit number actions) = at record_kinds 2 (number, actions)
record_fields (rec.Mark view upto) = at record_kinds 3 (view, upto)

abbrev pub any_record : Form Rec
any_record = table record_kinds record_fields

-- the bytes of a record
abbrev pub spelling : Rec → List ℕ
spelling = any_record.text

-- these bytes spell the record
abbrev pub Spells : List ℕ → Rec → Type 0
Spells bytes rec = any_record.Fits rec × (bytes ≡ any_record.text rec)
