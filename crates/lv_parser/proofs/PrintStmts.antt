-- What is read of a statement is read again where it is printed.
use Rattle.std.proofs.Common.{◌≡◌, Bool, List, [], ◌∷◌, ◌++◌, map, Option, Some, None, option_map, refl, sym, ap, ◌∙◌, append_assoc, arith, codes}
use Rattle.lv_lexer.specs.declared.terminals.Class.{Class}
use Rattle.lv_lexer.specs.declared.terminals.Class.TheVariants as k
use Rattle.lv_lexer.specs.Written.{Lexeme, sign}
use Rattle.lv_parser.specs.declared.tree.ColName.{ColName}
use Rattle.lv_parser.specs.declared.tree.Stmt.{Stmt}
use Rattle.lv_parser.specs.declared.tree.Stmt.TheVariants as st
use Rattle.lv_parser.specs.declared.conditions.Within.TheVariants as stands
use Rattle.lv_parser.specs.Rule.{Rule, token, pure, ◌>>◌, ◌<$>◌, ◌or◌, optional, separated}
use Rattle.lv_parser.specs.Trees.{list_or_none, tables_of, condition_of}
use Rattle.lv_parser.specs.Grammar as rule
use Rattle.lv_parser.specs.Bare.{bare, bare_name, bare_col, bare_tuple, bare_column, bare_item, bare_assign, bare_ord}
use Rattle.lv_parser.specs.Printed.{the, name_tokens, col_tokens, tuple_tokens, column_tokens, item_tokens, assign_tokens, ord_tokens, from_tokens, groups_tokens, order_tokens, listed_tokens, key_tokens, view_name_tokens, stmt_tokens}
use Rattle.lv_parser.proofs.Keeps.{Keeps, token_keeps, pure_keeps, then_keeps, word_keeps, made_keeps, weaker_keeps, OnFound, optional_keeps, SomeOf, separated_keeps}
use Rattle.lv_parser.proofs.PrintHonest.{IsHonest}
use Rattle.lv_parser.proofs.PrintShows.{Shows, pure_shows, token_shows, then_shows, word_shows, made_shows, some_shows, none_shows, as_tokens_of}
use Rattle.lv_parser.proofs.PrintWords.{IsThe, the_as, the_begin, the_by, the_commit, the_create, the_delete, the_from, the_group, the_insert, the_into, the_key, the_order, the_primary, the_rollback, the_select, the_set, the_show, the_table, the_tasks, the_update, the_values, the_view, the_left_paren, the_right_paren, the_comma_sign, the_star}
use Rattle.lv_parser.proofs.PrintRules.{Again, Prints, commas, or_prints, word_prints, name_prints, col_prints, tuple_prints, list_again, commas_print}
use Rattle.lv_parser.proofs.PrintSources.{PrintsFrom, from_keeps, filter_keeps, sources_again, filter_again}
use Rattle.lv_parser.proofs.PrintParts.{column_prints, item_prints, assign_prints, ord_prints, parens_then}

-- ---- INSERT, DELETE and UPDATE

insert_prints : Prints rule.insert bare stmt_tokens
unfolding rule.insert
insert_prints =
    word_keeps k.Insert (word_keeps k.Into (then_keeps name_prints (λ table name. word_keeps k.Values (made_keeps (commas_print bare_tuple tuple_tokens tuple_prints) (λ tuples list.
    word_shows the_insert (word_shows the_into (then_shows name (λ n e. word_shows the_values (made_shows list (λ found f. cc))))))))))

delete_prints : Prints rule.delete bare stmt_tokens
unfolding rule.delete
delete_prints =
    word_keeps k.Delete (word_keeps k.From (then_keeps name_prints (λ table name. made_keeps (filter_keeps stands.Query) (λ kept filter.
    word_shows the_delete (word_shows the_from (then_shows name (λ n e. made_shows (filter_again stands.Query kept filter) (λ o f. cc))))))))

update_prints : Prints rule.update bare stmt_tokens
unfolding rule.update
update_prints =
    word_keeps k.Update (then_keeps name_prints (λ table name. word_keeps k.Set (then_keeps (commas_print bare_assign assign_tokens assign_prints) (λ sets list. made_keeps (filter_keeps stands.Query) (λ kept filter.
    word_shows the_update (then_shows name (λ n e. word_shows the_set (then_shows list (λ found f. made_shows (filter_again stands.Query kept filter) (λ o g. cc))))))))))

-- ---- lists that may be left out

-- a list behind two words, where there is one
abbrev Tail : {A : Type 0} → Class → Class → Rule A → Rule (Option (List A))
Tail first second rule = optional (token first >> token second >> separated k.Comma rule)

abbrev tail_tokens : {A : Type 0} → (A → List Lexeme) → Lexeme → Lexeme → List A → List Lexeme
tail_tokens tokens x y [] = []
tail_tokens tokens x y (a ∷ more) = x ∷ y ∷ commas tokens (a ∷ more)

module _ {A : Type 0} (rule : Rule A) (bare_one : A → A) (tokens : A → List Lexeme) {first second : Class} {x y : Lexeme} (the_x : IsThe x first) (the_y : IsThe y second) where
  abbrev TailAgain : Option (List A) → Type 0
  TailAgain o = Shows (Tail first second rule) (λ b. map bare_one (list_or_none b) ≡ map bare_one (list_or_none o)) (tail_tokens tokens x y (list_or_none o))

  tail_again : (o : Option (List A)) → OnFound (SomeOf (Again rule bare_one tokens)) o → TailAgain o
  tail_again None h = none_shows (λ b. map bare_one (list_or_none b) ≡ []) refl
  tail_again (Some []) h = absurd (omega (arith, h.0))
  tail_again (Some (a ∷ more)) h =
      some_shows (λ b. map bare_one (list_or_none b) ≡ map bare_one (a ∷ more)) (then_shows (word_shows the_x (token_shows the_y)) (λ t is. list_again bare_one tokens the_comma_sign (a ∷ more) h)) (λ found e. e)

  tail_keeps : Prints rule bare_one tokens → Keeps IsHonest (Tail first second rule) TailAgain
  tail_keeps prints = weaker_keeps TailAgain (optional_keeps (then_keeps (word_keeps first (token_keeps second)) (λ t is. separated_keeps k.Comma prints))) tail_again

-- ---- SELECT

listed_prints : Prints ((token k.Star >> pure None) or (Some <$> separated k.Comma rule.col)) (option_map (map bare_col)) listed_tokens
listed_prints =
    or_prints (word_prints the_star None refl) (made_keeps (commas_print bare_col col_tokens col_prints) (λ cols list. made_shows list (λ found e. ap (λ (xs : List ColName). Some xs) e)))

order_tokens_are : (xs : List (ColName × Bool)) → tail_tokens ord_tokens (the "order") (the "by") xs ≡ order_tokens xs
order_tokens_are [] = refl
order_tokens_are (x ∷ xs) = refl

groups_tokens_are : (xs : List ColName) → tail_tokens col_tokens (the "group") (the "by") xs ≡ groups_tokens xs
groups_tokens_are [] = refl
groups_tokens_are (x ∷ xs) = refl

-- FROM and WHERE between other tokens
from_between : (front from parts where_part tail : List Lexeme) → from ≡ parts ++ where_part → front ++ (parts ++ (where_part ++ tail)) ≡ front ++ from ++ tail
from_between front from parts where_part tail e =
    ap (λ (xs : List Lexeme). front ++ xs) (sym (append_assoc parts where_part tail) ∙ ap (λ (xs : List Lexeme). xs ++ tail) (sym e)) ∙ sym (append_assoc front from tail)

select_prints : Prints rule.select bare stmt_tokens
unfolding rule.select
select_prints =
    word_keeps k.Select (then_keeps listed_prints (λ listed list. then_keeps (from_keeps stands.Query) (λ joined from. then_keeps (filter_keeps stands.Query) (λ kept filter.
    made_keeps (tail_keeps rule.ord bare_ord ord_tokens the_order the_by ord_prints) (λ order tail.
    let refs = tables_of joined in
    let cond = condition_of joined kept in
    let sources : PrintsFrom stands.Query refs cond = sources_again stands.Query joined kept from filter in
    let last = list_or_none order in
    as_tokens_of (from_between (the "select" ∷ listed_tokens listed) (from_tokens refs cond) sources.from_part sources.where_part (order_tokens last) sources.tokens)
    (word_shows the_select (then_shows list (λ found e. then_shows sources.from (λ js ej. then_shows (sources.filter js ej) (λ ko (same_refs, same_cond). made_shows (as_tokens_of (order_tokens_are last) tail) (λ xs ex. cc)))))))))))

-- ---- CREATE VIEW

view_prints : Prints rule.create_view bare stmt_tokens
unfolding rule.create_view
view_prints =
    word_keeps k.Create (word_keeps k.View (then_keeps name_prints (λ view name. word_keeps k.As (word_keeps k.Select (then_keeps (commas_print bare_item item_tokens item_prints) (λ items list.
    then_keeps (from_keeps stands.View) (λ joined from. then_keeps (filter_keeps stands.View) (λ kept filter. made_keeps (tail_keeps rule.col bare_col col_tokens the_group the_by col_prints) (λ groups tail.
    let refs = tables_of joined in
    let cond = condition_of joined kept in
    let sources : PrintsFrom stands.View refs cond = sources_again stands.View joined kept from filter in
    let last = list_or_none groups in
    as_tokens_of (from_between (view_name_tokens view ++ commas item_tokens items) (from_tokens refs cond) sources.from_part sources.where_part (groups_tokens last) sources.tokens)
    (word_shows the_create (word_shows the_view (then_shows name (λ n d. word_shows the_as (word_shows the_select (then_shows list (λ found e.
    then_shows sources.from (λ js ej. then_shows (sources.filter js ej) (λ ko (same_refs, same_cond). made_shows (as_tokens_of (groups_tokens_are last) tail) (λ xs ex. cc)))))))))))))))))))

-- ---- CREATE TABLE

table_prints : Prints rule.create_table bare stmt_tokens
unfolding rule.create_table
table_prints =
    word_keeps k.Create (word_keeps k.Table (then_keeps name_prints (λ table name. word_keeps k.LeftParen (then_keeps (commas_print bare_column column_tokens column_prints) (λ columns list.
    word_keeps k.Comma (word_keeps k.Primary (word_keeps k.Key (word_keeps k.LeftParen (then_keeps (commas_print bare_name name_tokens name_prints) (λ key names. word_keeps k.RightParen (word_keeps k.RightParen (pure_keeps _
    (let cs = commas column_tokens columns in
    let close = sign (codes ")") ∷ [] in
    as_tokens_of (ap (λ (xs : List Lexeme). the "create" ∷ the "table" ∷ (name_tokens table ++ sign (codes "(") ∷ xs)) (sym (append_assoc cs (key_tokens key) close)))
    (word_shows the_create (word_shows the_table (then_shows name (λ n d. word_shows the_left_paren (then_shows list (λ found e. word_shows the_comma_sign (word_shows the_primary (word_shows the_key
    (parens_then names (λ xs f. word_shows the_right_paren (pure_shows cc))))))))))))))))))))))))

-- ---- any statement

tasks_prints : Prints (token k.Show >> token k.Tasks >> pure st.ShowTasks) bare stmt_tokens
tasks_prints = then_keeps (word_keeps k.Show (token_keeps k.Tasks)) (λ t is. pure_keeps st.ShowTasks (then_shows (word_shows the_show (token_shows the_tasks)) (λ u its. pure_shows refl)))

statement_prints : Prints rule.statement bare stmt_tokens
unfolding rule.statement
statement_prints =
    or_prints table_prints (or_prints view_prints (or_prints insert_prints (or_prints update_prints (or_prints delete_prints (or_prints select_prints
    (or_prints (word_prints the_begin st.Begin refl) (or_prints (word_prints the_commit st.Commit refl) (or_prints (word_prints the_rollback st.Rollback refl) tasks_prints))))))))

line_again : (s : Stmt) → Again rule.statement bare stmt_tokens s → Again rule.line bare stmt_tokens s
unfolding rule.line
line_again s h = record {
  spelled = h.spelled;
  again = λ ts rest says. let a = h.again ts rest says in (a.0, (a.0, rest, a.1, (None, rest, refl, (refl, refl))), a.2);
}

pub line_prints : Prints rule.line bare stmt_tokens
unfolding rule.line
line_prints = then_keeps statement_prints (λ s h. made_keeps (optional_keeps (token_keeps k.Semicolon)) (λ o u. line_again s h))
