-- The classes of the tokens that are printed, and that they spell their kinds.
use Rattle.std.proofs.Common.{◌≡◌, ℕ, refl, codes}
use Rattle.lv_lexer.specs.declared.terminals.Class.TheVariants as k
use Rattle.lv_lexer.specs.Keywords.{keyword_of}
use Rattle.lv_lexer.specs.Piece.{piece}
use Rattle.lv_lexer.specs.Scan.{Spells}
use Rattle.lv_lexer.specs.Written.{sign}
use Rattle.lv_lexer.specs.declared.terminals.Class.{Class}
use Rattle.lv_lexer.specs.Meaning.{said}
use Rattle.lv_lexer.specs.Written.{Lexeme}
use Rattle.lv_parser.specs.Printed.{the}

-- a token that spells its kind and is of this class
pub record IsThe (x : Lexeme) (class : Class) : Type 0 where
  pub spelled : Spells x.text x.kind
  pub of_class : (b : ℕ) → (said x.kind x.text b).class ≡ class

pub the_and : IsThe (the "and") k.And
unfolding keyword_of piece
the_and = record { spelled = refl; of_class = λ b. refl }

pub the_as : IsThe (the "as") k.As
unfolding keyword_of piece
the_as = record { spelled = refl; of_class = λ b. refl }

pub the_begin : IsThe (the "begin") k.Begin
unfolding keyword_of piece
the_begin = record { spelled = refl; of_class = λ b. refl }

pub the_by : IsThe (the "by") k.By
unfolding keyword_of piece
the_by = record { spelled = refl; of_class = λ b. refl }

pub the_commit : IsThe (the "commit") k.Commit
unfolding keyword_of piece
the_commit = record { spelled = refl; of_class = λ b. refl }

pub the_count : IsThe (the "count") k.Count
unfolding keyword_of piece
the_count = record { spelled = refl; of_class = λ b. refl }

pub the_create : IsThe (the "create") k.Create
unfolding keyword_of piece
the_create = record { spelled = refl; of_class = λ b. refl }

pub the_delete : IsThe (the "delete") k.Delete
unfolding keyword_of piece
the_delete = record { spelled = refl; of_class = λ b. refl }

pub the_desc : IsThe (the "desc") k.Desc
unfolding keyword_of piece
the_desc = record { spelled = refl; of_class = λ b. refl }

pub the_from : IsThe (the "from") k.From
unfolding keyword_of piece
the_from = record { spelled = refl; of_class = λ b. refl }

pub the_group : IsThe (the "group") k.Group
unfolding keyword_of piece
the_group = record { spelled = refl; of_class = λ b. refl }

pub the_insert : IsThe (the "insert") k.Insert
unfolding keyword_of piece
the_insert = record { spelled = refl; of_class = λ b. refl }

pub the_int : IsThe (the "int") k.Int
unfolding keyword_of piece
the_int = record { spelled = refl; of_class = λ b. refl }

pub the_into : IsThe (the "into") k.Into
unfolding keyword_of piece
the_into = record { spelled = refl; of_class = λ b. refl }

pub the_join : IsThe (the "join") k.Join
unfolding keyword_of piece
the_join = record { spelled = refl; of_class = λ b. refl }

pub the_key : IsThe (the "key") k.Key
unfolding keyword_of piece
the_key = record { spelled = refl; of_class = λ b. refl }

pub the_not : IsThe (the "not") k.Not
unfolding keyword_of piece
the_not = record { spelled = refl; of_class = λ b. refl }

pub the_on : IsThe (the "on") k.On
unfolding keyword_of piece
the_on = record { spelled = refl; of_class = λ b. refl }

pub the_or : IsThe (the "or") k.Or
unfolding keyword_of piece
the_or = record { spelled = refl; of_class = λ b. refl }

pub the_order : IsThe (the "order") k.Order
unfolding keyword_of piece
the_order = record { spelled = refl; of_class = λ b. refl }

pub the_primary : IsThe (the "primary") k.Primary
unfolding keyword_of piece
the_primary = record { spelled = refl; of_class = λ b. refl }

pub the_rollback : IsThe (the "rollback") k.Rollback
unfolding keyword_of piece
the_rollback = record { spelled = refl; of_class = λ b. refl }

pub the_select : IsThe (the "select") k.Select
unfolding keyword_of piece
the_select = record { spelled = refl; of_class = λ b. refl }

pub the_set : IsThe (the "set") k.Set
unfolding keyword_of piece
the_set = record { spelled = refl; of_class = λ b. refl }

pub the_show : IsThe (the "show") k.Show
unfolding keyword_of piece
the_show = record { spelled = refl; of_class = λ b. refl }

pub the_sum : IsThe (the "sum") k.Sum
unfolding keyword_of piece
the_sum = record { spelled = refl; of_class = λ b. refl }

pub the_table : IsThe (the "table") k.Table
unfolding keyword_of piece
the_table = record { spelled = refl; of_class = λ b. refl }

pub the_tasks : IsThe (the "tasks") k.Tasks
unfolding keyword_of piece
the_tasks = record { spelled = refl; of_class = λ b. refl }

pub the_text : IsThe (the "text") k.Text
unfolding keyword_of piece
the_text = record { spelled = refl; of_class = λ b. refl }

pub the_update : IsThe (the "update") k.Update
unfolding keyword_of piece
the_update = record { spelled = refl; of_class = λ b. refl }

pub the_values : IsThe (the "values") k.Values
unfolding keyword_of piece
the_values = record { spelled = refl; of_class = λ b. refl }

pub the_view : IsThe (the "view") k.View
unfolding keyword_of piece
the_view = record { spelled = refl; of_class = λ b. refl }

pub the_where : IsThe (the "where") k.Where
unfolding keyword_of piece
the_where = record { spelled = refl; of_class = λ b. refl }

pub the_left_paren : IsThe (sign (codes "(")) k.LeftParen
unfolding piece
the_left_paren = record { spelled = refl; of_class = λ b. refl }

pub the_right_paren : IsThe (sign (codes ")")) k.RightParen
unfolding piece
the_right_paren = record { spelled = refl; of_class = λ b. refl }

pub the_comma_sign : IsThe (sign (codes ",")) k.Comma
unfolding piece
the_comma_sign = record { spelled = refl; of_class = λ b. refl }

pub the_dot : IsThe (sign (codes ".")) k.Dot
unfolding piece
the_dot = record { spelled = refl; of_class = λ b. refl }

pub the_star : IsThe (sign (codes "*")) k.Star
unfolding piece
the_star = record { spelled = refl; of_class = λ b. refl }

pub the_plus : IsThe (sign (codes "+")) k.Plus
unfolding piece
the_plus = record { spelled = refl; of_class = λ b. refl }

pub the_minus : IsThe (sign (codes "-")) k.Minus
unfolding piece
the_minus = record { spelled = refl; of_class = λ b. refl }

pub the_equal : IsThe (sign (codes "=")) k.Equal
unfolding piece
the_equal = record { spelled = refl; of_class = λ b. refl }

pub the_not_equal : IsThe (sign (codes "<>")) k.NotEqual
unfolding piece
the_not_equal = record { spelled = refl; of_class = λ b. refl }

pub the_less : IsThe (sign (codes "<")) k.Less
unfolding piece
the_less = record { spelled = refl; of_class = λ b. refl }

pub the_less_equal : IsThe (sign (codes "<=")) k.LessEqual
unfolding piece
the_less_equal = record { spelled = refl; of_class = λ b. refl }

pub the_greater : IsThe (sign (codes ">")) k.Greater
unfolding piece
the_greater = record { spelled = refl; of_class = λ b. refl }

pub the_greater_equal : IsThe (sign (codes ">=")) k.GreaterEqual
unfolding piece
the_greater_equal = record { spelled = refl; of_class = λ b. refl }
