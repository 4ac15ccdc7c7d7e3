use Rattle.std.proofs.Common.{◌≡◌, List, [], ◌∷◌, ◌++◌, ◌∙◌, ap, drop, length, refl, sym, subst, arith}
use Rattle.lv_values.specs.declared.value.Value.{Value}
use Rattle.lv_values.specs.Rows.{key_cmp}
use Rattle.lv_schema.specs.Once.{Ascends}
use Rattle.lv_overlay.specs.Puts.{rows_over}
use Rattle.lv_overlay.proofs.merging.merge.Goals as goal

pub loop-row-preserved : goal.loop-row-preserved
loop-row-preserved c =
    let key = c.args.table.now.key in
    let others = c.next.new.self.rest.items in
    let here : c.loop-row.row-iterator.rest.items ≡ c.in-Some.row ∷ others = c.in-Some.ensures.steps.0 in
    let rise : Ascends (key_cmp key) (c.in-Some.row ∷ others) = subst (Ascends (key_cmp key)) here c.loop-row.invariant.rise in
    record {
      from = c.in_ok-at.ensures.within;
      rise = rise.1;
      rows = c.in_ok-at.ensures.rows others rise
          ∙ c.in_ok-next.ensures.rows others rise
          ∙ ap (λ (l : List (List Value)). c.loop-row.rows ++ rows_over key (drop c.loop-row.at c.args.overlay.now.list) c.args.table.now.no l) (sym here)
          ∙ c.loop-row.invariant.rows;
    }

nothing : (rows : List (List Value)) → length rows ≡ 0 → rows ≡ []
nothing [] e = refl
nothing (row ∷ rows) e = absurd (omega arith)

pub returns : goal.returns
returns c =
    let left = c.loop-row.row-iterator.rest.items in
    let none : left ≡ [] = nothing left (sym c.loop-row.row-iterator.rest.ok.0 ∙ c.in-None.ensures.steps.0) in
    c.in_ok-push_rest.ensures
    ∙ ap (λ (l : List (List Value)). c.loop-row.rows ++ rows_over c.args.table.now.key (drop c.loop-row.at c.args.overlay.now.list) c.args.table.now.no l) (sym none)
    ∙ c.loop-row.invariant.rows
