use Rattle.std.proofs.Common.{◌≡◌, ◌+◌, drop}
use Rattle.std.specs.List.{prefix_len}
use Rattle.std.specs.Ordering.{is_eq}
use Rattle.lv_condense.specs.Touches.{ATouch, touch_cmp}
use Rattle.lv_condense.proofs.condensing.run_len.Given as goal

abbrev pub invariant-loop-i : goal.invariant-loop-i
invariant-loop-i l =
    let ties = λ (touch : ATouch). is_eq (touch_cmp l.first touch) in prefix_len ties l.touches ≡ l.i + prefix_len ties (drop l.i l.touches)
