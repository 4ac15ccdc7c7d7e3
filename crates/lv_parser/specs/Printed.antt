-- The printed form of a statement, as the tokens that are written: keywords in lower case, `join` without `inner`, an alias
-- without `as`, no `asc`, no `;`. Parentheses stand only round an Or in an And or an Or, round an And in an And, and round
-- an And or an Or under NOT.
use Rattle.std.specs.Prelude.{ℕ, suc, ℤ, pos, negsuc, Bool, true, false, if◌then◌else◌, nat_le, List, [], ◌∷◌, ◌++◌, map, length, Option, Some, None, codes}
use Prim.Native.String.{String}
use Rattle.lv_values.specs.declared.value.Value.{Value}
use Rattle.lv_values.specs.declared.value.Value.TheVariants as v
use Rattle.lv_lexer.specs.Written.{Lexeme, word, number, text, sign}
use Rattle.lv_parser.specs.declared.tree.Named.{Named}
use Rattle.lv_parser.specs.declared.tree.ColName.{ColName}
use Rattle.lv_parser.specs.declared.tree.Literal.{Literal}
use Rattle.lv_parser.specs.declared.tree.Tuple.{Tuple}
use Rattle.lv_parser.specs.declared.tree.ColumnKind.{ColumnKind}
use Rattle.lv_parser.specs.declared.tree.ColumnKind.TheVariants as kind
use Rattle.lv_parser.specs.declared.tree.ColumnTree.{ColumnTree}
use Rattle.lv_parser.specs.declared.tree.ItemTree.{ItemTree}
use Rattle.lv_parser.specs.declared.tree.ItemTree.TheVariants as i
use Rattle.lv_parser.specs.declared.tree.RefTree.{RefTree}
use Rattle.lv_parser.specs.declared.tree.Assign.{Assign}
use Rattle.lv_parser.specs.declared.tree.AssignValue.{AssignValue}
use Rattle.lv_parser.specs.declared.tree.AssignValue.TheVariants as a
use Rattle.lv_parser.specs.declared.tree.Sign.{Sign}
use Rattle.lv_parser.specs.declared.tree.Sign.TheVariants as s
use Rattle.lv_parser.specs.declared.tree.OperandTree.{OperandTree}
use Rattle.lv_parser.specs.declared.tree.OperandTree.TheVariants as o
use Rattle.lv_parser.specs.declared.tree.CondTree.{CondTree}
use Rattle.lv_parser.specs.declared.tree.CondTree.TheOpen.{CondTree-F}
use Rattle.lv_parser.specs.declared.tree.CondTree.TheFolds.{fold-CondTree}
use Rattle.lv_parser.specs.declared.tree.Stmt.{Stmt}
use Rattle.lv_parser.specs.declared.tree.Stmt.TheVariants as st

-- ---- lists

-- each behind this token
abbrev pub behind : Lexeme → List (List Lexeme) → List Lexeme
behind token [] = []
behind token (x ∷ xs) = token ∷ x ++ behind token xs

-- with this token between
abbrev pub between : Lexeme → List (List Lexeme) → List Lexeme
between token [] = []
between token (x ∷ xs) = x ++ behind token xs

abbrev pub the : String → Lexeme
the spelling = word (codes spelling)

abbrev pub comma : Lexeme
comma = sign (codes ",")

abbrev pub in_parens : List Lexeme → List Lexeme
in_parens tokens = sign (codes "(") ∷ tokens ++ sign (codes ")") ∷ []

-- ---- names and values

abbrev pub name_tokens : Named → List Lexeme
name_tokens n = word n.name ∷ []

abbrev pub qualifier_tokens : Option Named → List Lexeme
qualifier_tokens None = []
qualifier_tokens (Some q) = word q.name ∷ sign (codes ".") ∷ []

abbrev pub col_tokens : ColName → List Lexeme
col_tokens c = qualifier_tokens c.qualifier ++ name_tokens c.name

abbrev pub number_tokens : ℤ → List Lexeme
number_tokens (pos n) = number n ∷ []
number_tokens (negsuc n) = sign (codes "-") ∷ number (suc n) ∷ []

abbrev pub value_tokens : Value → List Lexeme
value_tokens (v.Num n) = number_tokens n
value_tokens (v.Text t) = text t ∷ []

abbrev pub literal_tokens : Literal → List Lexeme
literal_tokens l = value_tokens l.value

abbrev pub tuple_tokens : Tuple → List Lexeme
tuple_tokens t = in_parens (between comma (map literal_tokens t.values))

-- ---- conditions

abbrev pub op_token : Sign → Lexeme
op_token s.Eq = sign (codes "=")
op_token s.Ne = sign (codes "<>")
op_token s.Lt = sign (codes "<")
op_token s.Le = sign (codes "<=")
op_token s.Gt = sign (codes ">")
op_token s.Ge = sign (codes ">=")

abbrev pub operand_tokens : OperandTree → List Lexeme
operand_tokens (o.Column c) = col_tokens c
operand_tokens (o.Literal l) = literal_tokens l

-- no condition, one that is no chain, or which chain it is
pub data Chain : Type 0 where
  Nothing : Chain
  Single : Chain
  Ands : Chain
  Ors : Chain

-- a printed condition: what chain it is, its tokens without parentheses round it, and those of the parts of an And
pub record Shown : Type 0 where
  pub chain : Chain
  pub tokens : List Lexeme
  pub parts : List (List Lexeme)

abbrev pub single : List Lexeme → Shown
single tokens = record { chain = Single; tokens = tokens; parts = [] }

abbrev pub no_condition : Shown
no_condition = record { chain = Nothing; tokens = []; parts = [] }

-- whether a condition as a part stands in parentheses: an Or does, and in an And and under NOT an And too
abbrev pub is_wrapped : Bool → Chain → Bool
is_wrapped in_and Nothing = false
is_wrapped in_and Single = false
is_wrapped in_and Ands = in_and
is_wrapped in_and Ors = true

-- a part of an And, or under NOT; or a part of an Or
abbrev pub part_tokens : Bool → Shown → List Lexeme
part_tokens in_and c = if is_wrapped in_and c.chain then in_parens c.tokens else c.tokens

abbrev pub comparison_tokens : Sign → OperandTree → OperandTree → List Lexeme
comparison_tokens op left right = operand_tokens left ++ op_token op ∷ operand_tokens right

-- one level, whose parts are printed
abbrev pub shown_step : CondTree-F Shown → Shown
shown_step CondTree-F.True = no_condition
shown_step (CondTree-F.Cmp op left right) = single (comparison_tokens op left right)
shown_step (CondTree-F.And parts) = record { chain = Ands; tokens = between (the "and") (map (part_tokens true) parts); parts = map (λ p. p.tokens) parts }
shown_step (CondTree-F.Or parts) = record { chain = Ors; tokens = between (the "or") (map (part_tokens false) parts); parts = [] }
shown_step (CondTree-F.Not part) = single (the "not" ∷ part_tokens true part)

abbrev pub shown : CondTree → Shown
shown = fold-CondTree Shown shown_step

abbrev pub where_tokens : List (List Lexeme) → List Lexeme
where_tokens [] = []
where_tokens (part ∷ more) = the "where" ∷ part

-- the condition as one part, and no part where there is none
abbrev pub whole : Shown → List (List Lexeme)
whole c = one_if c.chain
  where
    one_if : Chain → List (List Lexeme)
    one_if Nothing = []
    one_if _ = c.tokens ∷ []

-- ---- sources

abbrev pub alias_tokens : Option Named → List Lexeme
alias_tokens None = []
alias_tokens (Some alias) = name_tokens alias

abbrev pub ref_tokens : RefTree → List Lexeme
ref_tokens r = name_tokens r.name ++ alias_tokens r.alias

abbrev pub join_tokens : RefTree → List Lexeme → List Lexeme
join_tokens r on = the "join" ∷ ref_tokens r ++ the "on" ∷ on

-- The references behind the first, and the condition. While two or more parts of the condition are left, a reference
-- takes the first of them after ON; the last part stands after WHERE.
abbrev pub joined_tokens : List RefTree → List (List Lexeme) → List Lexeme
joined_tokens [] parts = where_tokens parts
joined_tokens (r ∷ more) (part ∷ next ∷ parts) = join_tokens r part ++ joined_tokens more (next ∷ parts)
joined_tokens (r ∷ more) parts = comma ∷ ref_tokens r ++ joined_tokens more parts

-- Where the condition is an And of no more parts than there are references, all its parts but the last stand after ON.
abbrev pub placed_parts : ℕ → Shown → List (List Lexeme)
placed_parts refs c = placed c.chain
  where
    placed : Chain → List (List Lexeme)
    placed Ands = if nat_le (length c.parts) refs then c.parts else whole c
    placed _ = whole c

abbrev pub from_tokens : List RefTree → CondTree → List Lexeme
from_tokens [] cond = []
from_tokens (first ∷ more) cond = the "from" ∷ ref_tokens first ++ joined_tokens more (placed_parts (length (first ∷ more)) (shown cond))

-- ---- statements

abbrev pub kind_token : ColumnKind → Lexeme
kind_token kind.Int = the "int"
kind_token kind.Text = the "text"

abbrev pub column_tokens : ColumnTree → List Lexeme
column_tokens c = name_tokens c.name ++ kind_token c.kind ∷ []

abbrev pub output_tokens : Named → List Lexeme
output_tokens output = the "as" ∷ name_tokens output

abbrev pub output_if : Option Named → List Lexeme
output_if None = []
output_if (Some output) = output_tokens output

abbrev pub plain_tokens : ColName → Option Named → List Lexeme
plain_tokens col output = col_tokens col ++ output_if output

abbrev pub sum_tokens : ColName → Named → List Lexeme
sum_tokens col output = the "sum" ∷ in_parens (col_tokens col) ++ output_tokens output

abbrev pub count_tokens : Named → List Lexeme
count_tokens output = the "count" ∷ in_parens (sign (codes "*") ∷ []) ++ output_tokens output

abbrev pub item_tokens : ItemTree → List Lexeme
item_tokens (i.Plain col output) = plain_tokens col output
item_tokens (i.Sum col output) = sum_tokens col output
item_tokens (i.Count output) = count_tokens output

-- what is added to a column
abbrev pub amount_tokens : ℤ → List Lexeme
amount_tokens (pos n) = sign (codes "+") ∷ number n ∷ []
amount_tokens (negsuc n) = sign (codes "-") ∷ number (suc n) ∷ []

abbrev pub assigned_tokens : AssignValue → List Lexeme
assigned_tokens (a.Literal l) = literal_tokens l
assigned_tokens (a.Column column) = name_tokens column
assigned_tokens (a.Plus column amount) = name_tokens column ++ amount_tokens amount

abbrev pub assign_tokens : Assign → List Lexeme
assign_tokens x = name_tokens x.column ++ sign (codes "=") ∷ assigned_tokens x.value

abbrev pub falls_tokens : Bool → List Lexeme
falls_tokens true = the "desc" ∷ []
falls_tokens false = []

abbrev pub ord_tokens : ColName × Bool → List Lexeme
ord_tokens x = col_tokens x.0 ++ falls_tokens x.1

-- WHERE and the condition, where there is one
abbrev pub filter_tokens : CondTree → List Lexeme
filter_tokens cond = where_tokens (whole (shown cond))

abbrev pub groups_tokens : List ColName → List Lexeme
groups_tokens [] = []
groups_tokens (c ∷ cs) = the "group" ∷ the "by" ∷ between comma (map col_tokens (c ∷ cs))

abbrev pub order_tokens : List (ColName × Bool) → List Lexeme
order_tokens [] = []
order_tokens (x ∷ xs) = the "order" ∷ the "by" ∷ between comma (map ord_tokens (x ∷ xs))

abbrev pub listed_tokens : Option (List ColName) → List Lexeme
listed_tokens None = sign (codes "*") ∷ []
listed_tokens (Some cols) = between comma (map col_tokens cols)

abbrev pub key_tokens : List Named → List Lexeme
key_tokens key = comma ∷ the "primary" ∷ the "key" ∷ in_parens (between comma (map name_tokens key))

abbrev pub create_table_tokens : Named → List ColumnTree → List Named → List Lexeme
create_table_tokens table columns key =
    the "create" ∷ the "table" ∷ name_tokens table ++ in_parens (between comma (map column_tokens columns) ++ key_tokens key)

abbrev pub view_name_tokens : Named → List Lexeme
view_name_tokens view = the "create" ∷ the "view" ∷ name_tokens view ++ the "as" ∷ the "select" ∷ []

abbrev pub create_view_tokens : Named → List ItemTree → List RefTree → CondTree → List ColName → List Lexeme
create_view_tokens view items refs cond groups =
    view_name_tokens view ++ between comma (map item_tokens items) ++ from_tokens refs cond ++ groups_tokens groups

abbrev pub insert_tokens : Named → List Tuple → List Lexeme
insert_tokens table tuples = the "insert" ∷ the "into" ∷ name_tokens table ++ the "values" ∷ between comma (map tuple_tokens tuples)

abbrev pub update_tokens : Named → List Assign → CondTree → List Lexeme
update_tokens table sets cond = the "update" ∷ name_tokens table ++ the "set" ∷ between comma (map assign_tokens sets) ++ filter_tokens cond

abbrev pub delete_tokens : Named → CondTree → List Lexeme
delete_tokens table cond = the "delete" ∷ the "from" ∷ name_tokens table ++ filter_tokens cond

abbrev pub select_tokens : Option (List ColName) → List RefTree → CondTree → List (ColName × Bool) → List Lexeme
select_tokens listed refs cond order = the "select" ∷ listed_tokens listed ++ from_tokens refs cond ++ order_tokens order

abbrev pub show_tasks_tokens : List Lexeme
show_tasks_tokens = the "show" ∷ the "tasks" ∷ []

abbrev pub stmt_tokens : Stmt → List Lexeme
stmt_tokens (st.CreateTable table columns key) = create_table_tokens table columns key
stmt_tokens (st.CreateView view items refs cond groups) = create_view_tokens view items refs cond groups
stmt_tokens (st.Insert table tuples) = insert_tokens table tuples
stmt_tokens (st.Update table sets cond) = update_tokens table sets cond
stmt_tokens (st.Delete table cond) = delete_tokens table cond
stmt_tokens (st.Select listed refs cond order) = select_tokens listed refs cond order
stmt_tokens st.Begin = the "begin" ∷ []
stmt_tokens st.Commit = the "commit" ∷ []
stmt_tokens st.Rollback = the "rollback" ∷ []
stmt_tokens st.ShowTasks = show_tasks_tokens
