-- The grammar of a line, from the bottom: a block for each line of the grammar that docs/LANGUAGE.md prints.
use Rattle.std.specs.Prelude.{ℕ, zero, suc, pos, ◌-ℤ◌, Bool, true, false, List, ◌∷◌, Option, Some, None, unwrap_or}
use Rattle.lv_lexer.specs.declared.terminals.Class.TheVariants as k
use Rattle.lv_parser.specs.declared.conditions.Within.{Within}
use Rattle.lv_parser.specs.declared.conditions.Within.TheVariants as w
use Rattle.lv_parser.specs.declared.sources.Joined.{Joined}
use Rattle.lv_parser.specs.declared.tree.Named.{Named}
use Rattle.lv_parser.specs.declared.tree.ColName.{ColName}
use Rattle.lv_parser.specs.declared.tree.Literal.{Literal}
use Rattle.lv_parser.specs.declared.tree.Tuple.{Tuple}
use Rattle.lv_parser.specs.declared.tree.ColumnKind.TheVariants as kind
use Rattle.lv_parser.specs.declared.tree.ColumnTree.{ColumnTree}
use Rattle.lv_parser.specs.declared.tree.ItemTree.{ItemTree}
use Rattle.lv_parser.specs.declared.tree.ItemTree.TheVariants as i
use Rattle.lv_parser.specs.declared.tree.RefTree.{RefTree}
use Rattle.lv_parser.specs.declared.tree.Assign.{Assign}
use Rattle.lv_parser.specs.declared.tree.AssignValue.TheVariants as a
use Rattle.lv_parser.specs.declared.tree.Sign.{Sign}
use Rattle.lv_parser.specs.declared.tree.Sign.TheVariants as s
use Rattle.lv_parser.specs.declared.tree.OperandTree.{OperandTree}
use Rattle.lv_parser.specs.declared.tree.OperandTree.TheVariants as o
use Rattle.lv_parser.specs.declared.tree.CondTree.{CondTree}
use Rattle.lv_parser.specs.declared.tree.CondTree.TheVariants as c
use Rattle.lv_parser.specs.declared.tree.Stmt.{Stmt}
use Rattle.lv_parser.specs.declared.tree.Stmt.TheVariants as st
use Rattle.lv_parser.specs.Rule.{Rule, token, pure, ◌>>=◌, ◌>>◌, ◌<$>◌, ◌or◌, optional, many, separated}
use Rattle.lv_parser.specs.Trees.{named_of, column_of, number_at, text_at, source_of, gathered, cond_or_true, list_or_none, tables_of, condition_of}

-- name
unfoldable pub name : Rule Named
name = named_of <$> token k.Name

-- literal = [ "-" ] NUMBER | TEXT
unfoldable pub literal : Rule Literal
literal =
    (do minus ← optional (token k.Minus); n ← token k.Number; pure (number_at minus n))
    or (text_at <$> token k.Quoted)

-- col = name [ "." name ]
unfoldable pub col : Rule ColName
col = do
  first ← name
  second ← optional (token k.Dot >> name)
  pure (column_of first second)

-- operand = col | literal
unfoldable pub operand : Within → Rule OperandTree
operand within = (o.Column <$> col) or (o.Literal <$> literal)

-- op = "=" | "<>" | "<" | "<=" | ">" | ">="
unfoldable pub op : Rule Sign
op =
    (token k.Equal >> pure s.Eq) or (token k.NotEqual >> pure s.Ne) or (token k.Less >> pure s.Lt)
    or (token k.LessEqual >> pure s.Le) or (token k.Greater >> pure s.Gt) or (token k.GreaterEqual >> pure s.Ge)

-- operand op operand
unfoldable pub comparison : Within → Rule CondTree
comparison within = do
  left ← operand within
  sign ← op
  right ← operand within
  pure (c.Cmp sign left right)

-- conj = unit { AND unit }
abbrev pub conj_of : Rule CondTree → Rule CondTree
conj_of unit = gathered c.And <$> separated k.And unit

-- cond = conj { OR conj }
abbrev pub cond_of : Rule CondTree → Rule CondTree
cond_of unit = gathered c.Or <$> separated k.Or (conj_of unit)

-- unit = NOT unit | "(" cond ")" | operand op operand
-- Here parentheses and NOT nest at most so deep.
unfoldable pub unit : Within → ℕ → Rule CondTree
unit within zero = comparison within
unit within (suc depth) =
    (token k.Not >> c.Not <$> unit within depth)
    or (do token k.LeftParen; inner ← cond_of (unit within depth); token k.RightParen; pure inner)
    or comparison within

-- how deep parentheses and NOT may nest in a condition
abbrev pub max_nesting : ℕ
max_nesting = 64

unfoldable pub cond : Within → Rule CondTree
cond within = cond_of (unit within max_nesting)

-- [ WHERE cond ]
unfoldable pub filter : Within → Rule (Option CondTree)
filter within = optional (token k.Where >> cond within)

-- ref = name [ [ AS ] name ]
unfoldable pub ref : Rule RefTree
ref = do
  table ← name
  alias ← optional (optional (token k.As) >> name)
  pure (record { name = table; alias = alias })

-- from = FROM ref { "," ref | [ INNER ] JOIN ref ON cond }
unfoldable pub from : Within → Rule (List Joined)
from within = do
  token k.From
  first ← ref
  more ← many
      ((do token k.Comma; table ← ref; pure (record { table = table; on = None }))
      or (do optional (token k.Inner); token k.Join; table ← ref; token k.On; on ← cond within; pure (record { table = table; on = Some on })))
  pure (record { table = first; on = None } ∷ more)

-- column = name ( INT | TEXT ) [ NOT NULL ]
unfoldable pub column : Rule ColumnTree
column = do
  column_name ← name
  held ← (token k.Int >> pure kind.Int) or (token k.Text >> pure kind.Text)
  optional (token k.Not >> token k.Null)
  pure (record { name = column_name; kind = held })

-- item = col [ AS name ] | SUM "(" col ")" AS name | COUNT "(" "*" ")" AS name
unfoldable pub item : Rule ItemTree
item =
    (do listed ← col; output ← optional (token k.As >> name); pure (i.Plain listed output))
    or (do token k.Sum; token k.LeftParen; summed ← col; token k.RightParen; token k.As; output ← name; pure (i.Sum summed output))
    or (do token k.Count; token k.LeftParen; token k.Star; token k.RightParen; token k.As; output ← name; pure (i.Count output))

-- tuple = "(" literal { "," literal } ")"
unfoldable pub tuple : Rule Tuple
tuple = do
  paren ← token k.LeftParen
  values ← separated k.Comma literal
  token k.RightParen
  pure (record { byte = paren.byte; values = values })

-- assign = name "=" ( literal | name [ ( "+" | "-" ) NUMBER ] )
unfoldable pub assign : Rule Assign
assign = do
  set ← name
  token k.Equal
  value ← (a.Literal <$> literal)
      or (do
        source ← name
        amount ← optional ((do token k.Plus; n ← token k.Number; pure (pos n.number)) or (do token k.Minus; n ← token k.Number; pure (pos 0 -ℤ pos n.number)))
        pure (source_of source amount))
  pure (record { column = set; value = value })

-- ord = col [ ASC | DESC ]
-- It gives whether it falls.
unfoldable pub ord : Rule (ColName × Bool)
ord = do
  by ← col
  falls ← optional ((token k.Asc >> pure false) or (token k.Desc >> pure true))
  pure (by, unwrap_or falls false)

-- CREATE TABLE name "(" column { "," column } "," PRIMARY KEY "(" name { "," name } ")" ")"
unfoldable pub create_table : Rule Stmt
create_table = do
  token k.Create
  token k.Table
  table ← name
  token k.LeftParen
  columns ← separated k.Comma column
  token k.Comma
  token k.Primary
  token k.Key
  token k.LeftParen
  key ← separated k.Comma name
  token k.RightParen
  token k.RightParen
  pure (st.CreateTable table columns key)

-- CREATE VIEW name AS SELECT item { "," item } from [ WHERE cond ] [ GROUP BY col { "," col } ]
unfoldable pub create_view : Rule Stmt
create_view = do
  token k.Create
  token k.View
  view ← name
  token k.As
  token k.Select
  items ← separated k.Comma item
  joined ← from w.View
  kept ← filter w.View
  groups ← optional (token k.Group >> token k.By >> separated k.Comma col)
  pure (st.CreateView view items (tables_of joined) (condition_of joined kept) (list_or_none groups))

-- INSERT INTO name VALUES tuple { "," tuple }
unfoldable pub insert : Rule Stmt
insert = do
  token k.Insert
  token k.Into
  table ← name
  token k.Values
  tuples ← separated k.Comma tuple
  pure (st.Insert table tuples)

-- UPDATE name SET assign { "," assign } [ WHERE cond ]
unfoldable pub update : Rule Stmt
update = do
  token k.Update
  table ← name
  token k.Set
  sets ← separated k.Comma assign
  kept ← filter w.Query
  pure (st.Update table sets (cond_or_true kept))

-- DELETE FROM name [ WHERE cond ]
unfoldable pub delete : Rule Stmt
delete = do
  token k.Delete
  token k.From
  table ← name
  kept ← filter w.Query
  pure (st.Delete table (cond_or_true kept))

-- SELECT ( "*" | col { "," col } ) from [ WHERE cond ] [ ORDER BY ord { "," ord } ]
unfoldable pub select : Rule Stmt
select = do
  token k.Select
  listed ← (token k.Star >> pure None) or (Some <$> separated k.Comma col)
  joined ← from w.Query
  kept ← filter w.Query
  order ← optional (token k.Order >> token k.By >> separated k.Comma ord)
  pure (st.Select listed (tables_of joined) (condition_of joined kept) (list_or_none order))

-- statement = CREATE TABLE .. | CREATE VIEW .. | INSERT .. | UPDATE .. | DELETE .. | SELECT ..
--           | BEGIN | COMMIT | ROLLBACK | SHOW TASKS
unfoldable pub statement : Rule Stmt
statement =
    create_table or create_view or insert or update or delete or select
    or (token k.Begin >> pure st.Begin) or (token k.Commit >> pure st.Commit) or (token k.Rollback >> pure st.Rollback)
    or (token k.Show >> token k.Tasks >> pure st.ShowTasks)

-- line = statement [ ";" ]
unfoldable pub line : Rule Stmt
line = do
  found ← statement
  optional (token k.Semicolon)
  pure found
