-- How each rule is read, by the next token alone. These readers are how the code reads; each is proved to read
-- exactly what its rule says.
use Rattle.std.specs.Prelude.{ℕ, zero, suc, ℤ, pos, ◌-ℤ◌, Bool, true, false, ◌||◌, List, [], ◌∷◌, Option, Some, None, unwrap_or, Ok, Err}
use Rattle.lv_lexer.specs.declared.terminals.Class.{Class}
use Rattle.lv_lexer.specs.declared.terminals.Class.TheVariants as k
use Rattle.lv_lexer.specs.declared.terminals.Terminal.{Terminal}
use Rattle.lv_parser.specs.declared.conditions.Within.{Within}
use Rattle.lv_parser.specs.declared.conditions.Within.TheVariants as w
use Rattle.lv_parser.specs.declared.sources.Joined.{Joined}
use Rattle.lv_parser.specs.declared.tree.Named.{Named}
use Rattle.lv_parser.specs.declared.tree.ColName.{ColName}
use Rattle.lv_parser.specs.declared.tree.Literal.{Literal}
use Rattle.lv_parser.specs.declared.tree.Tuple.{Tuple}
use Rattle.lv_parser.specs.declared.tree.ColumnKind.{ColumnKind}
use Rattle.lv_parser.specs.declared.tree.ColumnKind.TheVariants as kind
use Rattle.lv_parser.specs.declared.tree.ColumnTree.{ColumnTree}
use Rattle.lv_parser.specs.declared.tree.ItemTree.{ItemTree}
use Rattle.lv_parser.specs.declared.tree.ItemTree.TheVariants as i
use Rattle.lv_parser.specs.declared.tree.RefTree.{RefTree}
use Rattle.lv_parser.specs.declared.tree.Assign.{Assign}
use Rattle.lv_parser.specs.declared.tree.AssignValue.{AssignValue}
use Rattle.lv_parser.specs.declared.tree.AssignValue.TheVariants as a
use Rattle.lv_parser.specs.declared.tree.Sign.{Sign}
use Rattle.lv_parser.specs.declared.tree.Sign.TheVariants as s
use Rattle.lv_parser.specs.declared.tree.OperandTree.{OperandTree}
use Rattle.lv_parser.specs.declared.tree.OperandTree.TheVariants as o
use Rattle.lv_parser.specs.declared.tree.CondTree.{CondTree}
use Rattle.lv_parser.specs.declared.tree.CondTree.TheVariants as c
use Rattle.lv_parser.specs.declared.tree.Stmt.{Stmt}
use Rattle.lv_parser.specs.declared.tree.Stmt.TheVariants as st
use Rattle.lv_parser.specs.Trees.{named_of, column_of, number_at, text_at, source_of, gathered, cond_or_true, list_or_none, tables_of, condition_of}
use Rattle.lv_parser.specs.Grammar.{max_nesting}
use Rattle.lv_parser.specs.Reading.{Reader, Outcome, ◌>>=◌, ◌>>◌, ◌<$>◌, pure, expect, sees, choice, optional, many_more, separated}

-- ---- names and values

unfoldable pub name : Reader Named
name = named_of <$> expect k.Name

unfoldable pub number : Reader Literal
number = do
  minus ← optional (sees k.Minus) (expect k.Minus)
  n ← expect k.Number
  pure (number_at minus n)

unfoldable pub literal : Reader Literal
literal = choice (sees k.Quoted) (text_at <$> expect k.Quoted) number

unfoldable pub col : Reader ColName
col = do
  first ← name
  second ← optional (sees k.Dot) (expect k.Dot >> name)
  pure (column_of first second)

-- ---- conditions

unfoldable pub operand : Within → Reader OperandTree
operand within = choice (sees k.Name) (o.Column <$> col) (o.Literal <$> literal)

abbrev pub sign_of : Class → Option Sign
sign_of k.Equal = Some s.Eq
sign_of k.NotEqual = Some s.Ne
sign_of k.Less = Some s.Lt
sign_of k.LessEqual = Some s.Le
sign_of k.Greater = Some s.Gt
sign_of k.GreaterEqual = Some s.Ge
sign_of _ = None

abbrev pub op_at : Option Sign → Terminal → List Terminal → Outcome Sign
op_at (Some sign) t rest = Ok (sign, rest)
op_at None t rest = Err (t ∷ rest)

unfoldable pub op : Reader Sign
op [] = Err []
op (t ∷ rest) = op_at (sign_of t.class) t rest

unfoldable pub comparison : Within → Reader CondTree
comparison within = do
  left ← operand within
  sign ← op
  right ← operand within
  pure (c.Cmp sign left right)

unfoldable pub conj_of : Reader CondTree → Reader CondTree
conj_of unit = gathered c.And <$> separated k.And unit

unfoldable pub cond_of : Reader CondTree → Reader CondTree
cond_of unit = gathered c.Or <$> separated k.Or (conj_of unit)

-- NOT and the unit behind it
unfoldable pub negation : Reader CondTree → Reader CondTree
negation unit = expect k.Not >> c.Not <$> unit

-- a condition in parentheses
unfoldable pub bracketed : Reader CondTree → Reader CondTree
bracketed unit = do
  expect k.LeftParen
  inner ← cond_of unit
  expect k.RightParen
  pure inner

unfoldable pub unit : Within → ℕ → Reader CondTree
unit within zero = comparison within
unit within (suc depth) =
    choice (sees k.Not) (expect k.Not >> c.Not <$> unit within depth)
    (choice (sees k.LeftParen) (do expect k.LeftParen; inner ← cond_of (unit within depth); expect k.RightParen; pure inner) (comparison within))

unfoldable pub cond : Within → Reader CondTree
cond within = cond_of (unit within max_nesting)

unfoldable pub filter : Within → Reader (Option CondTree)
filter within = optional (sees k.Where) (expect k.Where >> cond within)

-- ---- what stands after FROM

-- an alias begins with AS, or is a name at once
unfoldable pub is_alias : List Terminal → Bool
is_alias all = sees k.As all || sees k.Name all

unfoldable pub alias : Reader Named
alias = optional (sees k.As) (expect k.As) >> name

unfoldable pub table : Reader RefTree
table = do
  called ← name
  other ← optional is_alias alias
  pure (record { name = called; alias = other })

unfoldable pub is_more : List Terminal → Bool
is_more all = sees k.Comma all || (sees k.Inner all || sees k.Join all)

unfoldable pub plain : Reader Joined
plain = do
  expect k.Comma
  found ← table
  pure (record { table = found; on = None })

unfoldable pub join : Within → Reader Joined
join within = do
  optional (sees k.Inner) (expect k.Inner)
  expect k.Join
  found ← table
  expect k.On
  on ← cond within
  pure (record { table = found; on = Some on })

unfoldable pub joined : Within → Reader Joined
joined within = choice (sees k.Comma) plain (join within)

unfoldable pub from : Within → Reader (List Joined)
from within = do
  expect k.From
  first ← table
  many_more is_more (joined within) (record { table = first; on = None } ∷ [])

-- ---- CREATE

unfoldable pub column_kind : Reader ColumnKind
column_kind = choice (sees k.Int) (expect k.Int >> pure kind.Int) (expect k.Text >> pure kind.Text)

unfoldable pub mark : Reader (Option Terminal)
mark = optional (sees k.Not) (expect k.Not >> expect k.Null)

unfoldable pub column : Reader ColumnTree
column = do
  column_name ← name
  held ← column_kind
  mark
  pure (record { name = column_name; kind = held })

-- A comma stands behind each column: behind the last one PRIMARY follows it.
unfoldable pub column_comma : Reader ColumnTree
column_comma = do
  found ← column
  expect k.Comma
  pure found

unfoldable pub columns : Reader (List ColumnTree)
columns = column_comma >>= λ first. many_more (sees k.Name) column_comma (first ∷ [])

unfoldable pub key : Reader (List Named)
key = do
  expect k.Primary
  expect k.Key
  expect k.LeftParen
  names ← separated k.Comma name
  expect k.RightParen
  pure names

unfoldable pub made_table : Reader Stmt
made_table = do
  expect k.Table
  table ← name
  expect k.LeftParen
  found ← columns
  key_names ← key
  expect k.RightParen
  pure (st.CreateTable table found key_names)

unfoldable pub plain_item : Reader ItemTree
plain_item = do
  listed ← col
  output ← optional (sees k.As) (expect k.As >> name)
  pure (i.Plain listed output)

unfoldable pub output : Reader Named
output = do
  expect k.RightParen
  expect k.As
  name

unfoldable pub sum_item : Reader ItemTree
sum_item = do
  expect k.Sum
  expect k.LeftParen
  summed ← col
  named ← output
  pure (i.Sum summed named)

unfoldable pub count_item : Reader ItemTree
count_item = do
  expect k.Count
  expect k.LeftParen
  expect k.Star
  named ← output
  pure (i.Count named)

unfoldable pub item : Reader ItemTree
item = choice (sees k.Name) plain_item (choice (sees k.Sum) sum_item count_item)

unfoldable pub groups : Reader (List ColName)
groups = list_or_none <$> optional (sees k.Group) (expect k.Group >> expect k.By >> separated k.Comma col)

unfoldable pub made_view : Reader Stmt
made_view = do
  expect k.View
  view ← name
  expect k.As
  expect k.Select
  items ← separated k.Comma item
  sources ← from w.View
  kept ← filter w.View
  by ← groups
  pure (st.CreateView view items (tables_of sources) (condition_of sources kept) by)

unfoldable pub create : Reader Stmt
create = expect k.Create >> choice (sees k.Table) made_table made_view

-- ---- changes

unfoldable pub tuple : Reader Tuple
tuple = do
  paren ← expect k.LeftParen
  values ← separated k.Comma literal
  expect k.RightParen
  pure (record { byte = paren.byte; values = values })

unfoldable pub insert : Reader Stmt
insert = do
  expect k.Insert
  expect k.Into
  table ← name
  expect k.Values
  tuples ← separated k.Comma tuple
  pure (st.Insert table tuples)

unfoldable pub is_amount : List Terminal → Bool
is_amount all = sees k.Plus all || sees k.Minus all

unfoldable pub amount : Reader ℤ
amount =
    choice (sees k.Plus) (do expect k.Plus; n ← expect k.Number; pure (pos n.number)) (do expect k.Minus; n ← expect k.Number; pure (pos 0 -ℤ pos n.number))

unfoldable pub source : Reader AssignValue
source = do
  other ← name
  found ← optional is_amount amount
  pure (source_of other found)

unfoldable pub assign_value : Reader AssignValue
assign_value = choice (sees k.Name) source (a.Literal <$> literal)

unfoldable pub assign : Reader Assign
assign = do
  set ← name
  expect k.Equal
  value ← assign_value
  pure (record { column = set; value = value })

unfoldable pub condition : Reader CondTree
condition = cond_or_true <$> filter w.Query

unfoldable pub update : Reader Stmt
update = do
  expect k.Update
  table ← name
  expect k.Set
  sets ← separated k.Comma assign
  kept ← condition
  pure (st.Update table sets kept)

unfoldable pub delete : Reader Stmt
delete = do
  expect k.Delete
  expect k.From
  table ← name
  kept ← condition
  pure (st.Delete table kept)

-- ---- queries

unfoldable pub listed : Reader (Option (List ColName))
listed = choice (sees k.Star) (expect k.Star >> pure None) (Some <$> separated k.Comma col)

unfoldable pub is_direction : List Terminal → Bool
is_direction all = sees k.Asc all || sees k.Desc all

unfoldable pub direction : Reader Bool
direction = choice (sees k.Asc) (expect k.Asc >> pure false) (expect k.Desc >> pure true)

unfoldable pub ord : Reader (ColName × Bool)
ord = do
  by ← col
  falls ← optional is_direction direction
  pure (by, unwrap_or falls false)

unfoldable pub order : Reader (List (ColName × Bool))
order = list_or_none <$> optional (sees k.Order) (expect k.Order >> expect k.By >> separated k.Comma ord)

unfoldable pub select : Reader Stmt
select = do
  expect k.Select
  list ← listed
  sources ← from w.Query
  kept ← filter w.Query
  by ← order
  pure (st.Select list (tables_of sources) (condition_of sources kept) by)

-- ---- a line

unfoldable pub tasks : Reader Stmt
tasks = expect k.Show >> expect k.Tasks >> pure st.ShowTasks

unfoldable pub ending : Reader Stmt
ending = choice (sees k.Commit) (expect k.Commit >> pure st.Commit) (choice (sees k.Rollback) (expect k.Rollback >> pure st.Rollback) tasks)

unfoldable pub short : Reader Stmt
short = choice (sees k.Begin) (expect k.Begin >> pure st.Begin) ending

unfoldable pub other : Reader Stmt
other = choice (sees k.Delete) delete (choice (sees k.Select) select short)

unfoldable pub statement : Reader Stmt
statement = choice (sees k.Create) create (choice (sees k.Insert) insert (choice (sees k.Update) update other))

unfoldable pub line : Reader Stmt
line = do
  found ← statement
  optional (sees k.Semicolon) (expect k.Semicolon)
  pure found
