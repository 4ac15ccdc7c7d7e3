use Rattle.std.proofs.Common.{◌++◌, ◌∷◌, Some, sym, ◌∙◌, subst}
use Rattle.std.specs.Prelude.{Option}
use Rattle.lv_condense.specs.Touches.{Alike, ATouch, collected, touch_by}
use Rattle.lv_condense.proofs.Joined.{alike_latest}
use Rattle.lv_condense.proofs.collecting.Touches.follow.Goals as goal

pub returns-then-is_touched_by-clause-alike : goal.returns-then-is_touched_by-clause-alike
returns-then-is_touched_by-clause-alike c = λ _ rest.
    let items = c.args.self.now.list.items in
    let x = touch_by c.args.key.now c.args.action.now in
    subst (λ (o : Option ATouch). Alike (collected items (Some c.end_at.new.self) ++ rest) (collected items o ++ x ∷ rest)) (sym c.in-Some.is)
    (subst (λ (y : ATouch). Alike (collected items (Some y) ++ rest) (collected items (Some c.in-Some.latest) ++ x ∷ rest)) (sym c.end_at.ensures)
    (alike_latest items c.in-Some.latest x rest (sym c.is_touched_by.ensures ∙ c.if-is_touched_by.true)))
