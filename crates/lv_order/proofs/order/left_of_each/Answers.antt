use Rattle.std.proofs.Common.{◌≡◌, ◌+◌, ◌<◌, length, take, arith}
use Rattle.std.proofs.lemmas.Grind.{common_steps, same_number_lists}
use Rattle.std.proofs.lemmas.List.{take_all}
use Rattle.std.proofs.lemmas.List.FromFn.{get_or-map-range_with_len, length-map-range_with_len}
use Rattle.lv_plain.specs.Events.{left_over}
use Rattle.lv_order.proofs.order.left_of_each.Goals as goal

pub returns : goal.returns
returns c =
    let p = c.args.program.now in
    let n = length p.sessions in
    let as_many : length c.loop-item.left ≡ n = c.loop-item.invariant.as_many in
    let all : take c.loop-item.item-index p.order ≡ p.order = take_all c.loop-item.item-index p.order (grind (arith, common_steps)) in
    same_number_lists _ _ (rw (length-map-range_with_len (left_over p) 1 n) as_many)
    (λ k lt. let low : k < n = omega arith in
    rw (get_or-map-range_with_len (left_over p) 1 n k (k + 1) 0 low (omega arith), ← all) (c.loop-item.invariant.each k low))
