-- The statement of every line is spoken.
use Rattle.std.proofs.Common.{◌≡◌, ℕ, true, false, ◌==◌, List, [], map, None, refl, ◌∙◌}
use Rattle.std.specs.List.{list_all, list_any}
use Rattle.std.proofs.lemmas.List.Folds.{list_all-map}
use Rattle.lv_lexer.specs.declared.terminals.Class.{Class}
use Rattle.lv_lexer.specs.declared.terminals.Class.TheVariants as k
use Rattle.lv_lexer.proofs.Spans.{each_token}
use Rattle.lv_parser.specs.declared.tree.Assign.{Assign}
use Rattle.lv_parser.specs.declared.tree.ColumnTree.{ColumnTree}
use Rattle.lv_parser.specs.declared.tree.ItemTree.{ItemTree}
use Rattle.lv_parser.specs.declared.tree.Stmt.{Stmt}
use Rattle.lv_parser.specs.declared.tree.Stmt.TheVariants as st
use Rattle.lv_parser.specs.Grammar as rule
use Rattle.lv_parser.specs.Lines as lines
use Rattle.lv_parser.specs.Lines.{ReadsAs}
use Rattle.lv_parser.specs.Rule.{Rule, token, ◌>>◌}
use Rattle.lv_bind.specs.Spoken.{is_spoken_name, tuple_in_line, assigned_in_line, output_name, IsSomeList, IsSpoken}
use Rattle.lv_bind.proofs.SpokenTerms.{all_spoken}
use Rattle.lv_bind.proofs.SpokenRules.{Keeps, token_keeps, pure_keeps, then_keeps, word_then, made_keeps, or_keeps, optional_keeps, EachOf, separated_keeps, all_pass}
use Rattle.lv_bind.proofs.SpokenConds.{name_keeps, col_keeps, filter_keeps, from_keeps, kept_spoken, joined_spoken, some_tables}
use Rattle.lv_bind.proofs.SpokenParts.{column_keeps, IsItem, item_keeps, tuple_keeps, assign_keeps, ord_keeps}

-- two keywords, and then this
two_then : {B : Type 0} {q : Rule B} {Q : B → Type 0} (first second : Class) → Keeps q Q → Keeps (token first >> token second >> q) Q
two_then first second more = then_keeps (word_then first (token_keeps second)) (λ t is. more)

create_table_keeps : Keeps rule.create_table IsSpoken
unfolding rule.create_table
create_table_keeps =
    word_then k.Create (word_then k.Table (then_keeps name_keeps (λ table e. word_then k.LeftParen (then_keeps (separated_keeps k.Comma column_keeps) (λ columns cs.
    word_then k.Comma (word_then k.Primary (word_then k.Key (word_then k.LeftParen (then_keeps (separated_keeps k.Comma name_keeps) (λ key ks.
    word_then k.RightParen (word_then k.RightParen (pure_keeps IsSpoken (st.CreateTable table columns key)
    (e, cs.0, all_pass (λ (c : ColumnTree). is_spoken_name c.name.name) columns cs.1, ks.0)))))))))))))

create_view_keeps : Keeps rule.create_view IsSpoken
unfolding rule.create_view
create_view_keeps =
    word_then k.Create (word_then k.View (then_keeps name_keeps (λ view e. word_then k.As (word_then k.Select (then_keeps (separated_keeps k.Comma item_keeps) (λ items is.
    then_keeps (from_keeps _) (λ joined js. then_keeps (filter_keeps _) (λ kept h.
    made_keeps IsSpoken (optional_keeps (two_then k.Group k.By (separated_keeps k.Comma col_keeps))) (λ groups g.
    (e, is.0, named items is.1, some_tables joined js.0, joined_spoken joined kept js.1 h))))))))))
  where
    named : (items : List ItemTree) → EachOf IsItem items → list_all is_spoken_name (map output_name items) ≡ true
    named items each = list_all-map is_spoken_name output_name items ∙ all_pass (λ x. is_spoken_name (output_name x)) items each

insert_keeps : Keeps rule.insert IsSpoken
unfolding rule.insert
insert_keeps =
    word_then k.Insert (word_then k.Into (then_keeps name_keeps (λ table e. word_then k.Values (made_keeps IsSpoken (separated_keeps k.Comma tuple_keeps) (λ tuples ts.
    (ts.0, all_pass tuple_in_line tuples ts.1))))))

update_keeps : Keeps rule.update IsSpoken
unfolding rule.update
update_keeps =
    word_then k.Update (then_keeps name_keeps (λ table e. word_then k.Set (then_keeps (separated_keeps k.Comma assign_keeps) (λ sets ss.
    made_keeps IsSpoken (filter_keeps _) (λ kept h. (ss.0, all_pass (λ (x : Assign). assigned_in_line x.value) sets ss.1, kept_spoken kept h))))))

delete_keeps : Keeps rule.delete IsSpoken
unfolding rule.delete
delete_keeps = word_then k.Delete (word_then k.From (then_keeps name_keeps (λ table e. made_keeps IsSpoken (filter_keeps _) (λ kept h. kept_spoken kept h))))

select_keeps : Keeps rule.select IsSpoken
unfolding rule.select
select_keeps =
    word_then k.Select (then_keeps (or_keeps (word_then k.Star (pure_keeps IsSomeList None tt)) (made_keeps IsSomeList (separated_keeps k.Comma col_keeps) (λ cols h. h.0))) (λ listed l.
    then_keeps (from_keeps _) (λ joined js. then_keeps (filter_keeps _) (λ kept h.
    made_keeps IsSpoken (optional_keeps (two_then k.Order k.By (separated_keeps k.Comma ord_keeps))) (λ order o.
    (l, some_tables joined js.0, joined_spoken joined kept js.1 h))))))

statement_keeps : Keeps rule.statement IsSpoken
unfolding rule.statement
statement_keeps =
    or_keeps create_table_keeps (or_keeps create_view_keeps (or_keeps insert_keeps (or_keeps update_keeps (or_keeps delete_keeps (or_keeps select_keeps
    (or_keeps (word_then k.Begin (pure_keeps IsSpoken st.Begin tt)) (or_keeps (word_then k.Commit (pure_keeps IsSpoken st.Commit tt))
    (or_keeps (word_then k.Rollback (pure_keeps IsSpoken st.Rollback tt)) (two_then k.Show k.Tasks (pure_keeps IsSpoken st.ShowTasks tt))))))))))

line_keeps : Keeps rule.line IsSpoken
unfolding rule.line
line_keeps = then_keeps statement_keeps (λ found h. made_keeps IsSpoken (optional_keeps (token_keeps k.Semicolon)) (λ o u. h))

-- the statement of every line without a line feed is spoken
pub lines_are_spoken : (line : List ℕ) (stmt : Stmt) → ReadsAs line stmt → list_any (λ b. b == 10) line ≡ false → IsSpoken stmt
lines_are_spoken line stmt r h =
    let tokens = all_spoken line r.tokens (each_token line 0 line r.tokens None refl r.scan) h in
    (line_keeps.each (lines.said line r.tokens) stmt [] tokens r.reading).1
