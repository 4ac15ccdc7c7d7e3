use Rattle.std.proofs.Common.{◌≡◌, ◌+◌, ◌-◌, ◌<◌, true, false, drop, length, sym, ◌∙◌, subst, arith}
use Rattle.std.proofs.lemmas.List.{length-drop, take_all}
use Rattle.std.specs.List.{AllByRecursion}
use Rattle.lv_reach.specs.Within.{OnlyChanges}
use Rattle.lv_near.specs.Small.{StaysSame}
use Rattle.lv_near.proofs.OnlyOne.{one_changes, rest_stays, same_one}
use Rattle.lv_near.proofs.changes.only_changing.Goals as goal

pub returns-then-all_stay_same-clause-one : goal.returns-then-all_stay_same-clause-one
returns-then-all_stay_same-clause-one c = λ i same.
    let parts = c.args.parts.now in
    let at = c.loop-at.at in
    let behind = take_all (length parts - (at + 1)) (drop (at + 1) parts) (omega (arith, length-drop (at + 1) parts)) in
    let here : at ≡ i = cc in
    subst (λ n. OnlyChanges n parts × (n < length parts)) here
    (one_changes parts at c.loop-at.invariant (subst (AllByRecursion StaysSame) behind (c.all_stay_same.ensures.is c.if-all_stay_same.true)), c.loop-at-test.true)

pub returns-then-all_stay_same-clause-it : goal.returns-then-all_stay_same-clause-it
returns-then-all_stay_same-clause-it c = λ i j same only.
    let here : c.loop-at.at ≡ i = cc in
    sym here
    ∙ same_one c.args.parts.now c.loop-at.at j c.index-parts-at.result c.loop-at-test.true
    (λ stays.
    let no : true ≡ false = sym (c.stays_same.ensures.all (subst StaysSame (sym c.index-parts-at.is) stays)) ∙ c.if-not-stays_same.true in
    cc)
    only

pub returns-else-all_stay_same-clause-none : goal.returns-else-all_stay_same-clause-none
returns-else-all_stay_same-clause-none c = λ j none only.
    let parts = c.args.parts.now in
    let at = c.loop-at.at in
    let same : at ≡ j =
    same_one parts at j c.index-parts-at.result c.loop-at-test.true
    (λ stays.
    let no : true ≡ false = sym (c.stays_same.ensures.all (subst StaysSame (sym c.index-parts-at.is) stays)) ∙ c.if-not-stays_same.true in
    cc)
    only in
    let behind = take_all (length parts - (at + 1)) (drop (at + 1) parts) (omega (arith, length-drop (at + 1) parts)) in
    let stay = rest_stays parts at (subst (λ n. OnlyChanges n parts) (sym same) only) in
    let no : true ≡ false = sym (c.all_stay_same.ensures.all (subst (AllByRecursion StaysSame) (sym behind) stay)) ∙ c.if-all_stay_same.false in
    cc
