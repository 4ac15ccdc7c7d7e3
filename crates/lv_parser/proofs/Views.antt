-- Ends of statements, and CREATE by what is made.
use Rattle.std.proofs.Common.{List, refl}
use Rattle.lv_lexer.specs.declared.terminals.Class.TheVariants as k
use Rattle.lv_parser.specs.declared.tree.Stmt.{Stmt}
use Rattle.lv_parser.specs.Rule.{Rule}
use Rattle.lv_parser.specs.Rule as rule
use Rattle.lv_parser.specs.Trees.{list_or_none, cond_or_true}
use Rattle.lv_parser.specs.Grammar as grammar
use Rattle.lv_parser.proofs.Parts as part
use Rattle.lv_parser.proofs.Same.{Same, joint}
use Rattle.lv_parser.proofs.Regroup.{same_self, same_then, same_after, same_back, then_flat, same_given, same_or, same_joined}
use Rattle.lv_parser.proofs.Tables.{same_table}

-- an optional end of a statement, whose list is made before the statement is
module _ {A B : Type 0} (p : Rule A) (make : A → B) (f : B → Rule Stmt) (nothing : (b : B) (all : List _) → (f b).front all all) where
  pub same_end : Same (rule.◌>>=◌ p (λ a. f (make a))) (rule.◌>>=◌ (rule.◌<$>◌ make p) f)
  same_end = same_back (then_flat _ _ _ (λ a. same_given (make a) f (nothing (make a))))

pub same_view : Same part.printed_view part.made_view
same_view =
    same_after _ (λ _. same_after _ (λ view. same_after _ (λ _. same_after _ (λ _. same_after _ (λ items. same_after _ (λ sources. same_after _ (λ kept.
    same_end _ list_or_none _ (λ by all. refl))))))))

pub same_update : Same grammar.update part.update
unfolding grammar.update
same_update = same_after _ (λ _. same_after _ (λ table. same_after _ (λ _. same_after _ (λ sets. same_end _ cond_or_true _ (λ kept all. refl)))))

pub same_delete : Same grammar.delete part.delete
unfolding grammar.delete
same_delete = same_after _ (λ _. same_after _ (λ _. same_after _ (λ table. same_end _ cond_or_true _ (λ kept all. refl))))

pub same_select : Same grammar.select part.select
unfolding grammar.select
same_select = same_after _ (λ _. same_after _ (λ list. same_after _ (λ sources. same_after _ (λ kept. same_end _ list_or_none _ (λ by all. refl)))))

same_sum : Same part.printed_sum part.sum_item
same_sum = same_after _ (λ _. same_after _ (λ _. same_after _ (λ summed. same_back (then_flat _ _ _ (λ _. then_flat _ _ _ (λ _. same_self _))))))

same_count : Same part.printed_count part.count_item
same_count = same_after _ (λ _. same_after _ (λ _. same_after _ (λ _. same_back (then_flat _ _ _ (λ _. then_flat _ _ _ (λ _. same_self _))))))

pub same_item : Same grammar.item (rule.◌or◌ part.plain_item (rule.◌or◌ part.sum_item part.count_item))
unfolding grammar.item
same_item = same_or (same_self _) (same_or same_sum same_count)

pub same_statement : Same grammar.statement (rule.◌or◌ part.create part.other)
unfolding grammar.statement grammar.create_table grammar.create_view
same_statement =
    same_then (same_joined _ _ _)
    (same_or (same_then (joint (rule.token k.Create) (λ _. part.printed_table) (λ _. part.printed_view)) (same_after _ (λ _. same_or same_table same_view)))
    (same_or (same_self _) (same_or (same_self _) (same_or (same_self _) (same_or same_select (same_self _))))))
