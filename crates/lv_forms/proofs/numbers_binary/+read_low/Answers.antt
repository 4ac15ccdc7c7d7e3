use Rattle.std.proofs.Common.{arith}
use Rattle.lv_forms.proofs.Powers.{one_byte_more}
use Rattle.lv_forms.proofs.numbers_binary.+read_low.Goals as goal

pub overflow_mul-result : goal.overflow_mul-result
overflow_mul-result t c =
    let p = one_byte_more c.args.count c.in_ok-high.high c.from.result (omega arith) c.requires c.in_ok-high.ensures.within (omega arith) in
    record { fits = omega (arith, p.0, p.1) }

pub overflow_add-result : goal.overflow_add-result
overflow_add-result t c =
    let p = one_byte_more c.args.count c.in_ok-high.high c.from.result (omega arith) c.requires c.in_ok-high.ensures.within (omega arith) in
    record { fits = omega (arith, p.0, p.1) }

pub returns-clause-within : goal.returns-clause-within
returns-clause-within t c = (one_byte_more c.args.count c.in_ok-high.high c.from.result (omega arith) c.requires c.in_ok-high.ensures.within (omega arith)).0
