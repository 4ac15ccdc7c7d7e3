use Rattle.std.proofs.Common.{◌≡◌, FitsSigned, to_z, of_z, ◌+ℤ◌, length, ap, ◌∙◌, arith, rules}
use Rattle.std.proofs.lemmas.Int.{to_z-of_z}
use Rattle.std.specs.Int.{int_wrap, w128}
use Rattle.lv_bags.specs.Tallies.{sums_added}
use Rattle.lv_bags.proofs.SumsAdded.{whole}
use Rattle.lv_bags.proofs.adding.both_of.Goals as goal

pub returns : goal.returns
returns c =
    let one : FitsSigned w128 c.args.s.count = search rules in
    let other : FitsSigned w128 c.args.r.now.count = search rules in
    let count : to_z w128 (of_z w128 c.wrapped_sum.result) ≡ int_wrap w128 (c.args.s.count +ℤ c.args.r.now.count) =
    to_z-of_z w128 c.wrapped_sum.result (record { sfits = c.wrapped_sum.type_inv }) ∙ c.wrapped_sum.ensures
    ∙ (λ i. int_wrap w128 (to_z-of_z w128 c.args.s.count one i +ℤ to_z-of_z w128 c.args.r.now.count other i)) in
    let items = c.into_vec-sums.result.items in
    let long : length c.add_each.new.sums ≡ length items = omega (arith, c.add_each.auto.sums, ap length c.deref_mut.ensures.value) in
    let all : c.into_vec-sums.result.len ≡ length items = omega (arith, c.deref_mut.ensures.len, ap length c.deref_mut.ensures.value) in
    let sums : c.from_vec.result ≡ sums_added c.args.s.sums c.args.r.now.sums =
    c.from_vec.ensures ∙ whole c.into_vec-sums.result.len c.add_each.new.sums items long all ∙ c.add_each.ensures
    ∙ (λ i. sums_added ((c.deref_mut.ensures.value ∙ c.into_vec-sums.ensures) i) (c.as_slice.ensures i)) in
    λ i. record { row = c.args.s.row; count = count i; sums = sums i }
