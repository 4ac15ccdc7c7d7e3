-- Each rule's reader is exact.
use Rattle.std.proofs.Common.{◌≡◌, ℕ, zero, suc, pos, ◌-ℤ◌, true, false, List, [], ◌∷◌, Some, None, unwrap_or, refl}
use Rattle.lv_lexer.specs.declared.terminals.Class.{Class}
use Rattle.lv_lexer.specs.declared.terminals.Class.TheVariants as k
use Rattle.lv_lexer.specs.declared.terminals.Terminal.{Terminal}
use Rattle.lv_parser.specs.declared.conditions.Within.{Within}
use Rattle.lv_parser.specs.declared.conditions.Within.TheVariants as w
use Rattle.lv_parser.specs.declared.sources.Joined.{Joined}
use Rattle.lv_parser.specs.declared.tree.Tuple.{Tuple}
use Rattle.lv_parser.specs.declared.tree.ColumnKind.TheVariants as kind
use Rattle.lv_parser.specs.declared.tree.ColumnTree.{ColumnTree}
use Rattle.lv_parser.specs.declared.tree.ItemTree.TheVariants as i
use Rattle.lv_parser.specs.declared.tree.RefTree.{RefTree}
use Rattle.lv_parser.specs.declared.tree.Assign.{Assign}
use Rattle.lv_parser.specs.declared.tree.AssignValue.TheVariants as a
use Rattle.lv_parser.specs.declared.tree.Sign.{Sign}
use Rattle.lv_parser.specs.declared.tree.Sign.TheVariants as s
use Rattle.lv_parser.specs.declared.tree.OperandTree.TheVariants as o
use Rattle.lv_parser.specs.declared.tree.CondTree.{CondTree}
use Rattle.lv_parser.specs.declared.tree.CondTree.TheVariants as c
use Rattle.lv_parser.specs.declared.tree.Stmt.{Stmt}
use Rattle.lv_parser.specs.declared.tree.Stmt.TheVariants as st
use Rattle.lv_parser.specs.Class.{code, same}
use Rattle.lv_parser.specs.Rule.{Rule}
use Rattle.lv_parser.specs.Rule as r
use Rattle.lv_parser.specs.Trees as tree
use Rattle.lv_parser.specs.Grammar as rule
use Rattle.lv_parser.specs.Read as read
use Rattle.lv_parser.specs.Reading.{Reader, ◌>>◌, pure, expect, sees, choice}
use Rattle.lv_parser.proofs.Readers.{Reads, then_reads, pure_reads, token_reads, or_reads, optional_reads, as_reads, wider_reads, sees_tests, either_tests, Tests}
use Rattle.lv_parser.proofs.Same.{same_reads}
use Rattle.lv_parser.proofs.Regroup.{same_swapped, same_self, same_after, same_bind}
use Rattle.lv_parser.proofs.Views.{same_item, same_update, same_delete, same_statement}
use Rattle.lv_parser.proofs.Onward.{separated_reads, more_reads}
use Rattle.lv_parser.proofs.Parts as part

abbrev Set : Type 0
Set = List ℕ

abbrev only : Class → Set
only class = code class ∷ []

-- ---- names and values

pub name_reads : Reads rule.name read.name (only k.Name) [] false
unfolding rule.name read.name
name_reads = then_reads (token_reads k.Name) (λ t. pure_reads (tree.named_of t)) refl

pub number_reads : Reads (r.◌>>=◌ (r.optional (r.token k.Minus)) (λ minus. r.◌>>=◌ (r.token k.Number) (λ n. r.pure (tree.number_at minus n)))) read.number (code k.Minus ∷ code k.Number ∷ []) [] false
unfolding read.number
number_reads =
    wider_reads (code k.Minus ∷ code k.Number ∷ []) []
    (then_reads (optional_reads (sees_tests k.Minus) (token_reads k.Minus)) (λ minus. then_reads (token_reads k.Number) (λ n. pure_reads (tree.number_at minus n)) refl) refl)
    refl refl

abbrev literal_first : Set
literal_first = code k.Quoted ∷ code k.Minus ∷ code k.Number ∷ []

pub literal_reads : Reads rule.literal read.literal literal_first [] false
unfolding rule.literal read.literal
literal_reads =
    same_reads _ _ (same_swapped _ _)
    (or_reads (sees_tests k.Quoted) (then_reads (token_reads k.Quoted) (λ t. pure_reads (tree.text_at t)) refl) number_reads refl)

pub col_reads : Reads rule.col read.col (only k.Name) (only k.Dot) false
unfolding rule.col read.col
col_reads =
    then_reads name_reads
    (λ first. then_reads (optional_reads (sees_tests k.Dot) (then_reads (token_reads k.Dot) (λ _. name_reads) refl)) (λ second. pure_reads (tree.column_of first second)) refl) refl

-- ---- a comparison's sign, which is read by a match

abbrev last_sign : Reader Sign
last_sign = expect k.GreaterEqual >> pure s.Ge

abbrev signs : Reader Sign
signs =
    choice (sees k.Equal) (expect k.Equal >> pure s.Eq)
    (choice (sees k.NotEqual) (expect k.NotEqual >> pure s.Ne)
    (choice (sees k.Less) (expect k.Less >> pure s.Lt)
    (choice (sees k.LessEqual) (expect k.LessEqual >> pure s.Le) (choice (sees k.Greater) (expect k.Greater >> pure s.Gt) last_sign))))

sign_at : (class : Class) (t : Terminal) (rest : List Terminal) → t.class ≡ class → signs (t ∷ rest) ≡ read.op_at (read.sign_of class) t rest
unfolding sees expect same
sign_at k.Equal t rest e = rw e refl
sign_at k.NotEqual t rest e = rw e refl
sign_at k.Less t rest e = rw e refl
sign_at k.LessEqual t rest e = rw e refl
sign_at k.Greater t rest e = rw e refl
sign_at k.GreaterEqual t rest e = rw e refl
sign_at _ t rest e = rw e refl

signs_same : (all : List Terminal) → signs all ≡ read.op all
unfolding read.op sees expect
signs_same [] = refl
signs_same (t ∷ rest) = sign_at t.class t rest refl

sign_reads : (class : Class) (sign : Sign) → Reads (r.◌>>◌ (r.token class) (r.pure sign)) (expect class >> pure sign) (only class) [] false
sign_reads class sign = then_reads (token_reads class) (λ _. pure_reads sign) refl

abbrev op_first : Set
op_first = code k.Equal ∷ code k.NotEqual ∷ code k.Less ∷ code k.LessEqual ∷ code k.Greater ∷ code k.GreaterEqual ∷ []

pub op_reads : Reads rule.op read.op op_first [] false
unfolding rule.op
op_reads =
    as_reads
    (or_reads (sees_tests k.Equal) (sign_reads k.Equal s.Eq)
    (or_reads (sees_tests k.NotEqual) (sign_reads k.NotEqual s.Ne)
    (or_reads (sees_tests k.Less) (sign_reads k.Less s.Lt)
    (or_reads (sees_tests k.LessEqual) (sign_reads k.LessEqual s.Le)
    (or_reads (sees_tests k.Greater) (sign_reads k.Greater s.Gt) (sign_reads k.GreaterEqual s.Ge) refl) refl) refl) refl) refl)
    signs_same

-- ---- conditions

abbrev operand_first : Set
operand_first = code k.Name ∷ literal_first

pub operand_reads : (within : Within) → Reads (rule.operand within) (read.operand within) operand_first (only k.Dot) false
unfolding rule.operand read.operand
operand_reads within =
    or_reads (sees_tests k.Name) (then_reads col_reads (λ c. pure_reads (o.Column c)) refl) (then_reads literal_reads (λ l. pure_reads (o.Literal l)) refl) refl

pub comparison_reads : (within : Within) → Reads (rule.comparison within) (read.comparison within) operand_first (only k.Dot) false
unfolding rule.comparison read.comparison
comparison_reads within =
    then_reads (operand_reads within)
    (λ left. then_reads op_reads (λ sign. then_reads (operand_reads within) (λ right. pure_reads (c.Cmp sign left right)) refl) refl) refl

abbrev unit_first : Set
unit_first = code k.Not ∷ code k.LeftParen ∷ operand_first

abbrev conj_more : Set
conj_more = code k.Dot ∷ code k.And ∷ []

abbrev cond_more : Set
cond_more = code k.Dot ∷ code k.And ∷ code k.Or ∷ []

module _ (g : Rule CondTree) (p : Reader CondTree) (x : Reads g p unit_first (only k.Dot) false) where
  pub conj_reads : Reads (rule.conj_of g) (read.conj_of p) unit_first conj_more false
  unfolding read.conj_of
  conj_reads = wider_reads unit_first conj_more (then_reads (separated_reads k.And x refl) (λ parts. pure_reads (tree.gathered c.And parts)) refl) refl refl

  pub cond_of_reads : Reads (rule.cond_of g) (read.cond_of p) unit_first cond_more false
  unfolding read.cond_of
  cond_of_reads = wider_reads unit_first cond_more (then_reads (separated_reads k.Or conj_reads refl) (λ parts. pure_reads (tree.gathered c.Or parts)) refl) refl refl

pub unit_reads : (within : Within) (depth : ℕ) → Reads (rule.unit within depth) (read.unit within depth) unit_first (only k.Dot) false
unfolding rule.unit read.unit
unit_reads within zero = wider_reads unit_first (only k.Dot) (comparison_reads within) refl refl
unit_reads within (suc depth) =
    wider_reads unit_first (only k.Dot)
    (or_reads (sees_tests k.Not) (then_reads (token_reads k.Not) (λ _. then_reads (unit_reads within depth) (λ inner. pure_reads (c.Not inner)) refl) refl)
    (or_reads (sees_tests k.LeftParen)
    (then_reads (token_reads k.LeftParen)
    (λ _. then_reads (cond_of_reads (rule.unit within depth) (read.unit within depth) (unit_reads within depth))
    (λ inner. then_reads (token_reads k.RightParen) (λ _. pure_reads inner) refl) refl) refl)
    (comparison_reads within) refl) refl)
    refl refl

pub cond_reads : (within : Within) → Reads (rule.cond within) (read.cond within) unit_first cond_more false
unfolding rule.cond read.cond
cond_reads within = cond_of_reads (rule.unit within rule.max_nesting) (read.unit within rule.max_nesting) (unit_reads within rule.max_nesting)

abbrev filter_more : Set
filter_more = code k.Where ∷ cond_more

pub filter_reads : (within : Within) → Reads (rule.filter within) (read.filter within) (only k.Where) filter_more true
unfolding rule.filter read.filter
filter_reads within =
    wider_reads (only k.Where) filter_more (optional_reads (sees_tests k.Where) (then_reads (token_reads k.Where) (λ _. cond_reads within) refl)) refl refl

-- ---- what stands after FROM

abbrev ref_more : Set
ref_more = code k.As ∷ code k.Name ∷ []

pub alias_reads : Reads (r.◌>>◌ (r.optional (r.token k.As)) rule.name) read.alias ref_more [] false
unfolding read.alias
alias_reads = wider_reads ref_more [] (then_reads (optional_reads (sees_tests k.As) (token_reads k.As)) (λ _. name_reads) refl) refl refl

pub ref_reads : Reads rule.ref read.table (only k.Name) ref_more false
unfolding rule.ref read.table read.is_alias
ref_reads =
    then_reads name_reads
    (λ table. then_reads (optional_reads (either_tests (sees_tests k.As) (sees_tests k.Name)) alias_reads)
    (λ alias. pure_reads (let t : RefTree = record { name = table; alias = alias } in t)) refl) refl

abbrev joined_first : Set
joined_first = code k.Comma ∷ code k.Inner ∷ code k.Join ∷ []

abbrev joined_more : Set
joined_more = code k.As ∷ code k.Name ∷ cond_more

plain_reads : Reads part.plain read.plain (only k.Comma) ref_more false
unfolding read.plain
plain_reads = then_reads (token_reads k.Comma) (λ _. then_reads ref_reads (λ table. pure_reads (let j : Joined = record { table = table; on = None } in j)) refl) refl

join_reads : (within : Within) → Reads (part.join within) (read.join within) (code k.Inner ∷ code k.Join ∷ []) cond_more false
unfolding read.join
join_reads within =
    wider_reads (code k.Inner ∷ code k.Join ∷ []) cond_more
    (then_reads (optional_reads (sees_tests k.Inner) (token_reads k.Inner))
    (λ _. then_reads (token_reads k.Join)
    (λ _. then_reads ref_reads
    (λ table. then_reads (token_reads k.On)
    (λ _. then_reads (cond_reads within) (λ on. pure_reads (let j : Joined = record { table = table; on = Some on } in j)) refl) refl) refl) refl) refl)
    refl refl

joined_reads : (within : Within) → Reads (r.◌or◌ part.plain (part.join within)) (read.joined within) joined_first joined_more false
unfolding read.joined
joined_reads within = wider_reads joined_first joined_more (or_reads (sees_tests k.Comma) plain_reads (join_reads within) refl) refl refl

is_more_tests : Tests read.is_more joined_first
unfolding read.is_more
is_more_tests = either_tests (sees_tests k.Comma) (either_tests (sees_tests k.Inner) (sees_tests k.Join))

abbrev from_more : Set
from_more = code k.Comma ∷ code k.Inner ∷ code k.Join ∷ joined_more

pub from_reads : (within : Within) → Reads (rule.from within) (read.from within) (only k.From) from_more false
unfolding rule.from read.from
from_reads within =
    wider_reads (only k.From) from_more
    (then_reads (token_reads k.From)
    (λ _. then_reads ref_reads (λ first. more_reads is_more_tests (joined_reads within) refl (let j : Joined = record { table = first; on = None } in j)) refl) refl)
    refl refl

-- ---- CREATE TABLE

kind_reads : Reads part.column_kind read.column_kind (code k.Int ∷ code k.Text ∷ []) [] false
unfolding read.column_kind
kind_reads =
    or_reads (sees_tests k.Int) (then_reads (token_reads k.Int) (λ _. pure_reads kind.Int) refl) (then_reads (token_reads k.Text) (λ _. pure_reads kind.Text) refl) refl

mark_reads : Reads part.mark read.mark (only k.Not) (only k.Not) true
unfolding read.mark
mark_reads = optional_reads (sees_tests k.Not) (then_reads (token_reads k.Not) (λ _. token_reads k.Null) refl)

pub column_reads : Reads rule.column read.column (only k.Name) (only k.Not) false
unfolding rule.column read.column
column_reads =
    then_reads name_reads
    (λ name. then_reads kind_reads
    (λ held. then_reads mark_reads (λ _. pure_reads (let t : ColumnTree = record { name = name; kind = held } in t)) refl) refl) refl

column_comma_reads : Reads part.column_comma read.column_comma (only k.Name) [] false
unfolding read.column_comma
column_comma_reads = then_reads column_reads (λ found. then_reads (token_reads k.Comma) (λ _. pure_reads found) refl) refl

columns_reads : Reads part.columns read.columns (only k.Name) (only k.Name) false
unfolding read.columns
columns_reads = then_reads column_comma_reads (λ first. more_reads (sees_tests k.Name) column_comma_reads refl first) refl

key_reads : Reads part.key read.key (only k.Primary) [] false
unfolding read.key
key_reads =
    then_reads (token_reads k.Primary)
    (λ _. then_reads (token_reads k.Key)
    (λ _. then_reads (token_reads k.LeftParen)
    (λ _. then_reads (separated_reads k.Comma name_reads refl) (λ names. then_reads (token_reads k.RightParen) (λ _. pure_reads names) refl) refl) refl) refl) refl

made_table_reads : Reads part.made_table read.made_table (only k.Table) [] false
unfolding read.made_table
made_table_reads =
    then_reads (token_reads k.Table)
    (λ _. then_reads name_reads
    (λ table. then_reads (token_reads k.LeftParen)
    (λ _. then_reads columns_reads
    (λ found. then_reads key_reads (λ names. then_reads (token_reads k.RightParen) (λ _. pure_reads (st.CreateTable table found names)) refl) refl) refl) refl) refl) refl

-- ---- CREATE VIEW

plain_item_reads : Reads part.plain_item read.plain_item (only k.Name) (code k.Dot ∷ code k.As ∷ []) false
unfolding read.plain_item
plain_item_reads =
    wider_reads (only k.Name) (code k.Dot ∷ code k.As ∷ [])
    (then_reads col_reads
    (λ listed. then_reads (optional_reads (sees_tests k.As) (then_reads (token_reads k.As) (λ _. name_reads) refl)) (λ output. pure_reads (i.Plain listed output)) refl) refl)
    refl refl

output_reads : Reads part.output read.output (only k.RightParen) [] false
unfolding read.output
output_reads = then_reads (token_reads k.RightParen) (λ _. then_reads (token_reads k.As) (λ _. name_reads) refl) refl

sum_item_reads : Reads part.sum_item read.sum_item (only k.Sum) [] false
unfolding read.sum_item
sum_item_reads =
    then_reads (token_reads k.Sum)
    (λ _. then_reads (token_reads k.LeftParen)
    (λ _. then_reads col_reads (λ summed. then_reads output_reads (λ named. pure_reads (i.Sum summed named)) refl) refl) refl) refl

count_item_reads : Reads part.count_item read.count_item (only k.Count) [] false
unfolding read.count_item
count_item_reads =
    then_reads (token_reads k.Count)
    (λ _. then_reads (token_reads k.LeftParen)
    (λ _. then_reads (token_reads k.Star) (λ _. then_reads output_reads (λ named. pure_reads (i.Count named)) refl) refl) refl) refl

pub item_reads : Reads rule.item read.item (code k.Name ∷ code k.Sum ∷ code k.Count ∷ []) (code k.Dot ∷ code k.As ∷ []) false
unfolding read.item
item_reads = same_reads _ _ same_item (or_reads (sees_tests k.Name) plain_item_reads (or_reads (sees_tests k.Sum) sum_item_reads count_item_reads refl) refl)

groups_reads : Reads part.groups read.groups (only k.Group) (code k.Comma ∷ code k.Dot ∷ code k.Group ∷ []) true
unfolding read.groups
groups_reads =
    wider_reads (only k.Group) (code k.Comma ∷ code k.Dot ∷ code k.Group ∷ [])
    (then_reads
    (optional_reads (sees_tests k.Group)
    (then_reads (then_reads (token_reads k.Group) (λ _. token_reads k.By) refl) (λ _. separated_reads k.Comma col_reads refl) refl))
    (λ found. pure_reads (tree.list_or_none found)) refl)
    refl refl

-- what goes on behind a condition and its list of tables
abbrev source_more : Set
source_more = code k.Where ∷ from_more

abbrev view_more : Set
view_more = code k.Group ∷ source_more

made_view_reads : Reads part.made_view read.made_view (only k.View) view_more false
unfolding read.made_view
made_view_reads =
    wider_reads (only k.View) view_more
    (then_reads (token_reads k.View)
    (λ _. then_reads name_reads
    (λ view. then_reads (token_reads k.As)
    (λ _. then_reads (token_reads k.Select)
    (λ _. then_reads (separated_reads k.Comma item_reads refl)
    (λ items. then_reads (from_reads w.View)
    (λ sources. then_reads (filter_reads w.View)
    (λ kept. then_reads groups_reads
    (λ by. pure_reads (st.CreateView view items (tree.tables_of sources) (tree.condition_of sources kept) by)) refl) refl) refl) refl) refl) refl) refl) refl)
    refl refl

create_reads : Reads part.create read.create (only k.Create) view_more false
unfolding read.create
create_reads = then_reads (token_reads k.Create) (λ _. or_reads (sees_tests k.Table) made_table_reads made_view_reads refl) refl

-- ---- changes

pub tuple_reads : Reads rule.tuple read.tuple (only k.LeftParen) [] false
unfolding rule.tuple read.tuple
tuple_reads =
    then_reads (token_reads k.LeftParen)
    (λ paren. then_reads (separated_reads k.Comma literal_reads refl)
    (λ values. then_reads (token_reads k.RightParen) (λ _. pure_reads (let t : Tuple = record { byte = paren.byte; values = values } in t)) refl) refl) refl

insert_reads : Reads rule.insert read.insert (only k.Insert) (only k.Comma) false
unfolding rule.insert read.insert
insert_reads =
    then_reads (token_reads k.Insert)
    (λ _. then_reads (token_reads k.Into)
    (λ _. then_reads name_reads
    (λ table. then_reads (token_reads k.Values) (λ _. then_reads (separated_reads k.Comma tuple_reads refl) (λ tuples. pure_reads (st.Insert table tuples)) refl) refl) refl) refl) refl

amount_reads : Reads part.amount read.amount (code k.Plus ∷ code k.Minus ∷ []) [] false
unfolding read.amount
amount_reads =
    or_reads (sees_tests k.Plus) (then_reads (token_reads k.Plus) (λ _. then_reads (token_reads k.Number) (λ n. pure_reads (pos n.number)) refl) refl)
    (then_reads (token_reads k.Minus) (λ _. then_reads (token_reads k.Number) (λ n. pure_reads (pos 0 -ℤ pos n.number)) refl) refl) refl

abbrev amount_more : Set
amount_more = code k.Plus ∷ code k.Minus ∷ []

source_reads : Reads part.source read.source (only k.Name) amount_more false
unfolding read.source read.is_amount
source_reads =
    then_reads name_reads
    (λ other. then_reads (optional_reads (either_tests (sees_tests k.Plus) (sees_tests k.Minus)) amount_reads) (λ found. pure_reads (tree.source_of other found)) refl) refl

assign_value_reads : Reads (r.◌or◌ part.source (r.◌<$>◌ a.Literal rule.literal)) read.assign_value operand_first amount_more false
unfolding read.assign_value
assign_value_reads = or_reads (sees_tests k.Name) source_reads (then_reads literal_reads (λ l. pure_reads (a.Literal l)) refl) refl

pub assign_reads : Reads rule.assign read.assign (only k.Name) amount_more false
unfolding rule.assign read.assign
assign_reads =
    same_reads _ _ (same_after _ (λ set. same_after _ (λ _. same_bind (same_swapped _ _) (λ value. same_self _))))
    (then_reads name_reads
    (λ set. then_reads (token_reads k.Equal)
    (λ _. then_reads assign_value_reads (λ value. pure_reads (let t : Assign = record { column = set; value = value } in t)) refl) refl) refl)

condition_reads : Reads part.condition read.condition (only k.Where) filter_more true
unfolding read.condition
condition_reads = wider_reads (only k.Where) filter_more (then_reads (filter_reads w.Query) (λ kept. pure_reads (tree.cond_or_true kept)) refl) refl refl

abbrev update_more : Set
update_more = code k.Comma ∷ code k.Plus ∷ code k.Minus ∷ filter_more

update_reads : Reads rule.update read.update (only k.Update) update_more false
unfolding read.update
update_reads =
    wider_reads (only k.Update) update_more
    (same_reads _ _ same_update
    (then_reads (token_reads k.Update)
    (λ _. then_reads name_reads
    (λ table. then_reads (token_reads k.Set)
    (λ _. then_reads (separated_reads k.Comma assign_reads refl)
    (λ sets. then_reads condition_reads (λ kept. pure_reads (st.Update table sets kept)) refl) refl) refl) refl) refl))
    refl refl

delete_reads : Reads rule.delete read.delete (only k.Delete) filter_more false
unfolding read.delete
delete_reads =
    same_reads _ _ same_delete
    (then_reads (token_reads k.Delete)
    (λ _. then_reads (token_reads k.From)
    (λ _. then_reads name_reads (λ table. then_reads condition_reads (λ kept. pure_reads (st.Delete table kept)) refl) refl) refl) refl)

-- ---- queries

listed_reads : Reads part.listed read.listed (code k.Star ∷ code k.Name ∷ []) (code k.Comma ∷ code k.Dot ∷ []) false
unfolding read.listed
listed_reads =
    wider_reads (code k.Star ∷ code k.Name ∷ []) (code k.Comma ∷ code k.Dot ∷ [])
    (or_reads (sees_tests k.Star) (then_reads (token_reads k.Star) (λ _. pure_reads None) refl)
    (then_reads (separated_reads k.Comma col_reads refl) (λ found. pure_reads (Some found)) refl) refl)
    refl refl

direction_reads : Reads part.direction read.direction (code k.Asc ∷ code k.Desc ∷ []) [] false
unfolding read.direction
direction_reads =
    or_reads (sees_tests k.Asc) (then_reads (token_reads k.Asc) (λ _. pure_reads false) refl) (then_reads (token_reads k.Desc) (λ _. pure_reads true) refl) refl

abbrev ord_more : Set
ord_more = code k.Dot ∷ code k.Asc ∷ code k.Desc ∷ []

pub ord_reads : Reads rule.ord read.ord (only k.Name) ord_more false
unfolding rule.ord read.ord read.is_direction
ord_reads =
    wider_reads (only k.Name) ord_more
    (then_reads col_reads
    (λ by. then_reads (optional_reads (either_tests (sees_tests k.Asc) (sees_tests k.Desc)) direction_reads) (λ falls. pure_reads (by, unwrap_or falls false)) refl) refl)
    refl refl

abbrev order_more : Set
order_more = code k.Order ∷ code k.Comma ∷ ord_more

order_reads : Reads part.order read.order (only k.Order) order_more true
unfolding read.order
order_reads =
    wider_reads (only k.Order) order_more
    (then_reads
    (optional_reads (sees_tests k.Order)
    (then_reads (then_reads (token_reads k.Order) (λ _. token_reads k.By) refl) (λ _. separated_reads k.Comma ord_reads refl) refl))
    (λ found. pure_reads (tree.list_or_none found)) refl)
    refl refl

abbrev select_more : Set
select_more = code k.Order ∷ code k.Asc ∷ code k.Desc ∷ source_more

select_reads : Reads part.select read.select (only k.Select) select_more false
unfolding read.select
select_reads =
    wider_reads (only k.Select) select_more
    (then_reads (token_reads k.Select)
    (λ _. then_reads listed_reads
    (λ list. then_reads (from_reads w.Query)
    (λ sources. then_reads (filter_reads w.Query)
    (λ kept. then_reads order_reads
    (λ by. pure_reads (st.Select list (tree.tables_of sources) (tree.condition_of sources kept) by)) refl) refl) refl) refl) refl)
    refl refl

-- ---- a line

tasks_reads : Reads (r.◌>>◌ (r.◌>>◌ (r.token k.Show) (r.token k.Tasks)) (r.pure st.ShowTasks)) read.tasks (only k.Show) [] false
unfolding read.tasks
tasks_reads = then_reads (then_reads (token_reads k.Show) (λ _. token_reads k.Tasks) refl) (λ _. pure_reads st.ShowTasks) refl

word_reads : (class : Class) (stmt : Stmt) → Reads (r.◌>>◌ (r.token class) (r.pure stmt)) (expect class >> pure stmt) (only class) [] false
word_reads class stmt = then_reads (token_reads class) (λ _. pure_reads stmt) refl

short_reads : Reads part.short read.short (code k.Begin ∷ code k.Commit ∷ code k.Rollback ∷ code k.Show ∷ []) [] false
unfolding read.short read.ending
short_reads =
    or_reads (sees_tests k.Begin) (word_reads k.Begin st.Begin)
    (or_reads (sees_tests k.Commit) (word_reads k.Commit st.Commit) (or_reads (sees_tests k.Rollback) (word_reads k.Rollback st.Rollback) tasks_reads refl) refl) refl

abbrev line_first : Set
line_first =
    code k.Create ∷ code k.Insert ∷ code k.Update ∷ code k.Delete ∷ code k.Select ∷ code k.Begin ∷ code k.Commit ∷ code k.Rollback ∷ code k.Show ∷ []

abbrev statement_more : Set
statement_more = code k.Plus ∷ code k.Minus ∷ code k.Group ∷ select_more

pub statement_reads : Reads rule.statement read.statement line_first statement_more false
unfolding read.statement read.other
statement_reads =
    wider_reads line_first statement_more
    (same_reads _ _ same_statement
    (or_reads (sees_tests k.Create) create_reads
    (or_reads (sees_tests k.Insert) insert_reads
    (or_reads (sees_tests k.Update) update_reads
    (or_reads (sees_tests k.Delete) delete_reads (or_reads (sees_tests k.Select) select_reads short_reads refl) refl) refl) refl) refl))
    refl refl

pub line_reads : Reads rule.line read.line line_first (code k.Semicolon ∷ statement_more) false
unfolding rule.line read.line
line_reads =
    then_reads statement_reads (λ found. then_reads (optional_reads (sees_tests k.Semicolon) (token_reads k.Semicolon)) (λ _. pure_reads found) refl) refl
