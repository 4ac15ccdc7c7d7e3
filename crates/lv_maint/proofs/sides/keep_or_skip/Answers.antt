use Rattle.std.proofs.Common.{Bor, List, [], ◌∷◌, ◌++◌, drop, sym, ap, ◌∙◌, append_assoc}
use Rattle.std.proofs.lemmas.List.{map-append}
use Rattle.lv_values.specs.declared.value.Value.{Value}
use Rattle.lv_join.specs.Ties.{seen}
use Rattle.lv_maint.specs.Terms.{without}
use Rattle.lv_maint.proofs.Balance.{without_there, without_other}
use Rattle.lv_maint.proofs.sides.keep_or_skip.Goals as goal

pub returns-then-is_row_at-clause-kept : goal.returns-then-is_row_at-clause-kept
returns-then-is_row_at-clause-kept c = λ rows.
    ap (λ l. seen c.args.kept.now.items ++ l) (sym (without_there c.args.row.now rows c.args.minus.now c.args.next.now (sym c.is_row_at.ensures ∙ c.if-is_row_at.true)))

pub returns-clause-kept : goal.returns-clause-kept
returns-clause-kept c = λ rows.
    let row = c.args.row.now in
    let kept = seen c.args.kept.now.items in
    let rest = without rows (drop c.args.next.now c.args.minus.now) in
    ap (λ rows. seen rows ++ rest) c.in_ok-push.ensures.items
    ∙ ap (λ l. l ++ rest) (map-append (λ (row : Bor (List Value)). row.now) c.args.kept.now.items (c.args.row ∷ []))
    ∙ append_assoc kept (row ∷ []) rest
    ∙ ap (λ l. kept ++ l) (sym (without_other row rows c.args.minus.now c.args.next.now (sym c.is_row_at.ensures ∙ c.if-is_row_at.false)))
