use Rattle.std.proofs.Common.{◌≡◌, ◌-◌, ◌<◌, ◌≤◌, ◌++◌, ◌∷◌, ℕ, suc, true, List, drop, take, get_or, length, sym, ap, ◌∙◌, subst, arith}
use Rattle.std.specs.Prelude.{slice_set}
use Rattle.lv_values.specs.Order.{row_eq}
use Rattle.lv_schema.specs.Once.{Ascends}
use Rattle.lv_condense.specs.Touches.{Alike, ATouch, key_of, touch_cmp}
use Rattle.lv_condense.proofs.Joined.{alike_ended, alike_inserted, ascends_at, ascends_in, Below, one_there, Under, under_place}
use Rattle.lv_condense.proofs.collecting.Touches.put.Goals as goal
use Rattle.lv_condense.proofs.collecting.Touches.put.Goals.{else-at-gt0-via-then-at-gt0+else-is_of_key, else-at-gt0-via-else-at-gt0}

pub returns-then-is_of_key-clause-alike : goal.returns-then-is_of_key-clause-alike
returns-then-is_of_key-clause-alike c = λ rest.
    let items = c.args.self.now.list.items in
    let x = c.args.touch in
    let at = c.place_behind-at.result in
    let t = c.index_mut.result.now in
    let next : at ≡ suc (at - 1) = omega (arith, c.if-at-gt0.true) in
    let within : at ≤ length items = subst (λ (l : List ATouch). at ≤ length l) c.deref.ensures.value c.place_behind-at.ensures.within in
    let lt : at - 1 < length items = omega (arith, within, c.if-at-gt0.true) in
    let above : Below x (drop at items) = subst (λ (l : List ATouch). Below x (drop at l)) c.deref.ensures.value c.place_behind-at.ensures.above in
    let same : row_eq (key_of t) (key_of x) ≡ true =
    ap (λ (u : ATouch). row_eq (key_of u) (key_of x)) (one_there items (at - 1) c.index.result.now t lt c.index.ensures c.index_mut.ensures.value) ∙ sym c.is_of_key.ensures ∙ c.if-is_of_key.true in
    subst (λ (y : ATouch). Alike (slice_set items (at - 1) y ++ rest) (items ++ x ∷ rest)) (sym c.end_with.ensures)
    (alike_ended items (at - 1) t x rest lt c.index_mut.ensures.value same (subst (λ (n : ℕ). Below x (drop n items)) next above))

pub returns-then-is_of_key-clause-ascend : goal.returns-then-is_of_key-clause-ascend
returns-then-is_of_key-clause-ascend c = λ up.
    let items = c.args.self.now.list.items in
    let at = c.place_behind-at.result in
    let within : at ≤ length items = subst (λ (l : List ATouch). at ≤ length l) c.deref.ensures.value c.place_behind-at.ensures.within in
    let lt : at - 1 < length items = omega (arith, within, c.if-at-gt0.true) in
    subst (λ (y : ATouch). Ascends touch_cmp (slice_set items (at - 1) y)) (sym c.end_with.ensures)
    (ascends_at items (at - 1) c.index_mut.result.now c.args.touch.last lt c.index_mut.ensures.value (c.requires up))

pub returns-then-len-lt-SHORT-clause-alike : goal.returns-then-len-lt-SHORT-clause-alike
returns-then-len-lt-SHORT-clause-alike c = λ rest.
    let items = c.args.self.now.list.items in
    let x = c.args.touch in
    let at = c.place_behind-at.result in
    let above : Below x (drop at items) = subst (λ (l : List ATouch). Below x (drop at l)) c.deref.ensures.value c.place_behind-at.ensures.above in
    subst (λ (l : List ATouch). Alike (l ++ rest) (items ++ x ∷ rest)) (sym c.in_ok-insert.ensures.items) (alike_inserted items at x rest above)

pub returns-then-len-lt-SHORT-clause-ascend : goal.returns-then-len-lt-SHORT-clause-ascend
returns-then-len-lt-SHORT-clause-ascend c = λ up.
    let items = c.args.self.now.list.items in
    let x = c.args.touch in
    let at = c.place_behind-at.result in
    let ascends = c.requires up in
    let within : at ≤ length items = subst (λ (l : List ATouch). at ≤ length l) c.deref.ensures.value c.place_behind-at.ensures.within in
    let above : Below x (drop at items) = subst (λ (l : List ATouch). Below x (drop at l)) c.deref.ensures.value c.place_behind-at.ensures.above in
    let under : Under x (take at items) = elim c.else-at-gt0.branch [
      | else-at-gt0-via-then-at-gt0+else-is_of_key w ↦
          let some = w.if-at-gt0.true in
          let next : suc (at - 1) ≡ at = omega (arith, some) in
          let lt : at - 1 < length items = omega (arith, within, some) in
          let t = w.index.result.now in
          let there = subst (λ (l : List ATouch). t ≡ get_or l (at - 1) t) (sym c.deref.ensures.value) w.index.ensures in
          subst (λ (n : ℕ). Under x (take n items)) next
          (under_place items (at - 1) t x lt w.index.ensures (c.place_behind-at.ensures.last t some there) (sym w.is_of_key.ensures ∙ w.if-is_of_key.false) ascends)
      | else-at-gt0-via-else-at-gt0 w ↦
          let none = w.if-at-gt0.false in
          let zero_is : 0 ≡ at = omega (arith, none) in
          subst (λ (n : ℕ). Under x (take n items)) zero_is tt
    ] in
    subst (Ascends touch_cmp) (sym c.in_ok-insert.ensures.items) (ascends_in items at x within under above ascends)
