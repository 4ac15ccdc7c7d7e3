use Rattle.std.proofs.Common.{◌≡◌, ◌+◌, ◌<◌, ◌+ℤ◌, suc, length, get_or, set, sym, ap, ◌∙◌, arith}
use Rattle.std.proofs.lemmas.Int.{to_z-of_z}
use Rattle.std.specs.Int.{int_wrap, w128}
use Rattle.lv_viewrows.proofs.Sums.{added_all, added_step, added_upto, length-added}
use Rattle.lv_viewrows.proofs.numbers.add_sums.Goals as goal

pub set-requires : goal.set-requires
set-requires c =
    let long = ap length c.loop-i.invariant ∙ length-added c.loop-i.i c.args.sums.now c.args.more.now in
    omega (arith, long, c.loop-i-test.true, c.min-i-end.ensures, c.len.ensures)

pub loop-i-preserved : goal.loop-i-preserved
loop-i-preserved c =
    let sums = c.args.sums.now in
    let more = c.args.more.now in
    let i = c.loop-i.i in
    let a = c.number_at.result in
    let b = c.number_at-in-loop-i.result in
    let next : i + 1 ≡ suc i = omega arith in
    let within : i < length sums = omega (arith, c.loop-i-test.true, c.min-i-end.ensures, c.len.ensures) in
    let below : i < length more = omega (arith, c.loop-i-test.true, c.min-i-end.ensures, c.len.ensures) in
    let sum =
    to_z-of_z w128 c.wrapped_sum-sum.result (record { sfits = c.wrapped_sum-sum.type_inv })
    ∙ c.wrapped_sum-sum.ensures
    ∙ (λ k. int_wrap w128 (to_z-of_z w128 a (record { sfits = c.number_at.type_inv }) k +ℤ to_z-of_z w128 b (record { sfits = c.number_at-in-loop-i.type_inv }) k)) in
    c.set.ensures
    ∙ (λ k. set (c.loop-i.invariant k) i (sum k))
    ∙ sym (added_step i sums more a b within below c.number_at.ensures (c.number_at-in-loop-i.ensures ∙ ap (λ l. get_or l i b) (c.as_slice.ensures ∙ c.loop-i.invariant)))
    ∙ ap (λ k. added_upto k sums more) (sym next)

pub returns : goal.returns
returns c =
    c.loop-i.invariant ∙ added_all c.loop-i.i c.args.sums.now c.args.more.now (omega (arith, c.loop-i-test.false, c.min-i-end.ensures, c.len.ensures))

pub number_at-requires-in-loop-i : goal.number_at-requires-in-loop-i
number_at-requires-in-loop-i c =
    let long = ap length c.loop-i.invariant ∙ length-added c.loop-i.i c.args.sums.now c.args.more.now in
    let same = ap length c.as_slice.ensures in
    omega (arith, long, same, c.loop-i-test.true, c.min-i-end.ensures, c.len.ensures)
