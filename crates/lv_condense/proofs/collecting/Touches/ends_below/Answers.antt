use Rattle.std.proofs.Common.{◌≡◌, ◌-◌, true, suc, ◌++◌, ◌∷◌, [], List, length, sym, ◌∙◌, subst}
use Rattle.std.specs.Ordering.{is_lt}
use Rattle.lv_schema.specs.Once.{Ascends}
use Rattle.lv_condense.specs.Touches.{ATouch, touch_cmp}
use Rattle.lv_condense.proofs.Joined.{ascends_one_more, is_less, last_at}
use Rattle.lv_condense.proofs.collecting.Touches.ends_below.Goals as goal

pub returns : goal.returns
returns c = λ below up.
    let list = c.deref-list.result.now in
    let at = length list - 1 in
    let t = c.index-list-list.result in
    let x = c.args.touch.now in
    let last : suc at ≡ length list = last_at (length list) (sym c.is_empty.ensures ∙ c.if-is_empty.false) in
    let less : is_lt (touch_cmp t x) ≡ true = sym c.is_below.ensures ∙ below in
    subst (λ (xs : List ATouch). Ascends touch_cmp (xs ++ x ∷ [])) c.deref-list.ensures.value
    (ascends_one_more list at t x last c.index-list-list.is (is_less (touch_cmp t x) less) (subst (Ascends touch_cmp) (sym c.deref-list.ensures.value) up))
