use mathlib.Core.Logic.{⊎_elim}
use Rattle.std.proofs.Common.{◌*◌, ◌^◌, ◌<◌, ◌≤◌, ◌∙◌, sym, ap, length, arith}
use Rattle.std.proofs.lemmas.Bool.{cases_lt}
use Rattle.std.proofs.Math.Nat.{mul-le-mul_left}
use Rattle.lv_places.proofs.blocks.Blocks.reserve.Goals as goal

pub invariant_of-self : goal.invariant_of-self
invariant_of-self g c =
    let s = g.row.SIZE in
    let old = c.self.inside.blocks.items in
    let new = c.add_blocks.new.blocks.items in
    let count = c.in-Some-checked_div.count in
    let i = c.self.invariant in
    let some : 0 < s = c.in-Some-checked_div.ensures.0 in
    let fit : s * count < 2 ^ 64 = omega (arith, some, ap (λ k. s * k) c.in-Some-checked_div.ensures.1, c.in-Some.ensures) in
    record {
      count = i.count ∙ sym (ap length c.add_blocks.ensures.same);
      packed = c.add_blocks.ensures.packed _ i.packed;
      most = ⊎_elim
          (λ (more : length old < count). omega (arith, mul-le-mul_left s (c.add_blocks.ensures.most count (omega (arith, more)) (omega arith)), fit))
          (λ (enough : count ≤ length old). omega (arith, i.most, mul-le-mul_left s (c.add_blocks.ensures.most (length old) (omega arith) enough)))
          (cases_lt (length old) count);
      sized = λ _. some;
    }
