-- CREATE TABLE, as it is printed and as it is read: `{ "," column } "," PRIMARY` is `"," { column "," } PRIMARY`.
use Rattle.std.proofs.Common.{List, ◌∷◌, inl, inr, refl}
use Rattle.lv_lexer.specs.declared.terminals.Class.TheVariants as k
use Rattle.lv_lexer.specs.declared.terminals.Terminal.{Terminal}
use Rattle.lv_parser.specs.declared.tree.Named.{Named}
use Rattle.lv_parser.specs.declared.tree.ColumnTree.{ColumnTree}
use Rattle.lv_parser.specs.declared.tree.Stmt.{Stmt}
use Rattle.lv_parser.specs.declared.tree.Stmt.TheVariants as st
use Rattle.lv_parser.specs.Rule.{Rule}
use Rattle.lv_parser.specs.Rule as rule
use Rattle.lv_parser.specs.Grammar.{column}
use Rattle.lv_parser.proofs.Parts as part
use Rattle.lv_parser.proofs.Same.{Same}
use Rattle.lv_parser.proofs.Regroup.{same_then, same_after, same_back, then_flat, same_given}
use Rattle.lv_parser.proofs.Shift.{shifted}

module _ (table : Named) where
  abbrev after_columns : List ColumnTree → Rule Stmt
  after_columns found = rule.◌>>=◌ part.key (λ names. rule.◌>>=◌ (rule.token k.RightParen) (λ _. rule.pure (st.CreateTable table found names)))

  -- the key, with its parentheses, taken apart
  key_flat : (found : List ColumnTree) → Same (after_columns found) (part.table_end table found)
  key_flat found =
      then_flat _ _ _ (λ _. then_flat _ _ _ (λ _. then_flat _ _ _ (λ _. then_flat _ _ _ (λ names. then_flat _ _ _ (λ _. same_given names _ (λ all. inl (inl refl)))))))

  abbrev comma : Rule Terminal
  comma = rule.token k.Comma

  abbrev rest_of : ColumnTree → Rule Stmt
  rest_of first = rule.◌>>=◌ (rule.many part.column_comma) (λ more. part.table_end table (first ∷ more))

  abbrev between : Rule Stmt
  between = rule.◌>>=◌ column (λ first. rule.◌>>=◌ comma (λ _. rest_of first))

  printed_between : Same (rule.◌>>=◌ (rule.separated k.Comma column) (λ found. rule.◌>>=◌ comma (λ _. part.table_end table found))) between
  printed_between =
      then_flat _ _ _
      (λ first. same_then (then_flat _ _ _ (λ more. same_given (first ∷ more) _ (λ all. inl (inl refl))))
      (shifted comma column (λ more. part.table_end table (first ∷ more)) (λ all. inl refl) (λ all t r (e, q). inr (t, e, q))))

  read_between : Same (rule.◌>>=◌ part.columns after_columns) between
  read_between =
      same_then
      (then_flat _ _ _ (λ first. then_flat _ _ _ (λ more. same_then (same_given (first ∷ more) _ (λ all. inl (inl (inl refl)))) (key_flat (first ∷ more)))))
      (then_flat _ _ _ (λ first. then_flat _ _ _ (λ _. same_given first rest_of (λ all. inl (inl refl)))))

pub same_table : Same part.printed_table part.made_table
same_table =
    same_after _ (λ _. same_after _ (λ table. same_after _ (λ _. same_then (printed_between table) (same_back (read_between table)))))
