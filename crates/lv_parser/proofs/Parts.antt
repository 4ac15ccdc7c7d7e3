-- Parts of rules, grouped as their readers group them.
use Rattle.std.proofs.Common.{ℤ, pos, ◌-ℤ◌, Bool, true, false, List, ◌∷◌, Option, Some, None}
use Rattle.lv_lexer.specs.declared.terminals.Class.TheVariants as k
use Rattle.lv_lexer.specs.declared.terminals.Terminal.{Terminal}
use Rattle.lv_parser.specs.declared.conditions.Within.{Within}
use Rattle.lv_parser.specs.declared.conditions.Within.TheVariants as w
use Rattle.lv_parser.specs.declared.sources.Joined.{Joined}
use Rattle.lv_parser.specs.declared.tree.Named.{Named}
use Rattle.lv_parser.specs.declared.tree.ColName.{ColName}
use Rattle.lv_parser.specs.declared.tree.ColumnKind.{ColumnKind}
use Rattle.lv_parser.specs.declared.tree.ColumnKind.TheVariants as kind
use Rattle.lv_parser.specs.declared.tree.ColumnTree.{ColumnTree}
use Rattle.lv_parser.specs.declared.tree.ItemTree.{ItemTree}
use Rattle.lv_parser.specs.declared.tree.ItemTree.TheVariants as i
use Rattle.lv_parser.specs.declared.tree.AssignValue.{AssignValue}
use Rattle.lv_parser.specs.declared.tree.CondTree.{CondTree}
use Rattle.lv_parser.specs.declared.tree.Stmt.{Stmt}
use Rattle.lv_parser.specs.declared.tree.Stmt.TheVariants as st
use Rattle.lv_parser.specs.Rule.{Rule, token, pure, ◌>>=◌, ◌>>◌, ◌<$>◌, ◌or◌, optional, many, separated}
use Rattle.lv_parser.specs.Grammar.{name, ref, cond, column, col, item, from, filter, assign, ord}
use Rattle.lv_parser.specs.Grammar as g
use Rattle.lv_parser.specs.Trees.{tables_of, condition_of, list_or_none, cond_or_true, source_of}

abbrev pub plain : Rule Joined
plain = do
  token k.Comma
  table ← ref
  pure (record { table = table; on = None })

abbrev pub join : Within → Rule Joined
join within = do
  optional (token k.Inner)
  token k.Join
  table ← ref
  token k.On
  on ← cond within
  pure (record { table = table; on = Some on })

abbrev pub column_kind : Rule ColumnKind
column_kind = (token k.Int >> pure kind.Int) or (token k.Text >> pure kind.Text)

abbrev pub mark : Rule (Option Terminal)
mark = optional (token k.Not >> token k.Null)

-- a column and the comma behind it
abbrev pub column_comma : Rule ColumnTree
column_comma = do
  found ← column
  token k.Comma
  pure found

abbrev pub columns : Rule (List ColumnTree)
columns = do
  first ← column_comma
  more ← many column_comma
  pure (first ∷ more)

abbrev pub key : Rule (List Named)
key = do
  token k.Primary
  token k.Key
  token k.LeftParen
  names ← separated k.Comma name
  token k.RightParen
  pure names

abbrev pub made_table : Rule Stmt
made_table = do
  token k.Table
  table ← name
  token k.LeftParen
  found ← columns
  names ← key
  token k.RightParen
  pure (st.CreateTable table found names)

-- the end of CREATE TABLE, where each column but the last has the comma that divides it from the next
abbrev pub table_end : Named → List ColumnTree → Rule Stmt
table_end table found = do
  token k.Primary
  token k.Key
  token k.LeftParen
  names ← separated k.Comma name
  token k.RightParen
  token k.RightParen
  pure (st.CreateTable table found names)

abbrev pub printed_table : Rule Stmt
printed_table = do
  token k.Table
  table ← name
  token k.LeftParen
  found ← separated k.Comma column
  token k.Comma
  table_end table found

abbrev pub plain_item : Rule ItemTree
plain_item = do
  listed ← col
  output ← optional (token k.As >> name)
  pure (i.Plain listed output)

abbrev pub output : Rule Named
output = do
  token k.RightParen
  token k.As
  name

abbrev pub sum_item : Rule ItemTree
sum_item = do
  token k.Sum
  token k.LeftParen
  summed ← col
  named ← output
  pure (i.Sum summed named)

abbrev pub count_item : Rule ItemTree
count_item = do
  token k.Count
  token k.LeftParen
  token k.Star
  named ← output
  pure (i.Count named)

abbrev pub groups : Rule (List ColName)
groups = list_or_none <$> optional (token k.Group >> token k.By >> separated k.Comma col)

abbrev pub made_view : Rule Stmt
made_view = do
  token k.View
  view ← name
  token k.As
  token k.Select
  items ← separated k.Comma item
  sources ← from w.View
  kept ← filter w.View
  by ← groups
  pure (st.CreateView view items (tables_of sources) (condition_of sources kept) by)

abbrev pub printed_view : Rule Stmt
printed_view = do
  token k.View
  view ← name
  token k.As
  token k.Select
  items ← separated k.Comma item
  sources ← from w.View
  kept ← filter w.View
  by ← optional (token k.Group >> token k.By >> separated k.Comma col)
  pure (st.CreateView view items (tables_of sources) (condition_of sources kept) (list_or_none by))

abbrev pub amount : Rule ℤ
amount =
    (do token k.Plus; n ← token k.Number; pure (pos n.number)) or (do token k.Minus; n ← token k.Number; pure (pos 0 -ℤ pos n.number))

abbrev pub source : Rule AssignValue
source = do
  other ← name
  found ← optional amount
  pure (source_of other found)

abbrev pub condition : Rule CondTree
condition = cond_or_true <$> filter w.Query

abbrev pub update : Rule Stmt
update = do
  token k.Update
  table ← name
  token k.Set
  sets ← separated k.Comma assign
  kept ← condition
  pure (st.Update table sets kept)

abbrev pub delete : Rule Stmt
delete = do
  token k.Delete
  token k.From
  table ← name
  kept ← condition
  pure (st.Delete table kept)

abbrev pub listed : Rule (Option (List ColName))
listed = (token k.Star >> pure None) or (Some <$> separated k.Comma col)

abbrev pub direction : Rule Bool
direction = (token k.Asc >> pure false) or (token k.Desc >> pure true)

abbrev pub order : Rule (List (ColName × Bool))
order = list_or_none <$> optional (token k.Order >> token k.By >> separated k.Comma ord)

abbrev pub select : Rule Stmt
select = do
  token k.Select
  list ← listed
  sources ← from w.Query
  kept ← filter w.Query
  by ← order
  pure (st.Select list (tables_of sources) (condition_of sources kept) by)

abbrev pub printed_sum : Rule ItemTree
printed_sum = do
  token k.Sum
  token k.LeftParen
  summed ← col
  token k.RightParen
  token k.As
  named ← name
  pure (i.Sum summed named)

abbrev pub printed_count : Rule ItemTree
printed_count = do
  token k.Count
  token k.LeftParen
  token k.Star
  token k.RightParen
  token k.As
  named ← name
  pure (i.Count named)

abbrev pub create : Rule Stmt
create = token k.Create >> (made_table or made_view)

abbrev pub short : Rule Stmt
short =
    (token k.Begin >> pure st.Begin) or (token k.Commit >> pure st.Commit) or (token k.Rollback >> pure st.Rollback)
    or (token k.Show >> token k.Tasks >> pure st.ShowTasks)

abbrev pub other : Rule Stmt
other = g.insert or g.update or g.delete or select or short
