use Rattle.std.proofs.Common.{get_or, arith}
use Rattle.std.proofs.lemmas.Int.Digits.{digits_value_more}
use Rattle.lv_lexer.proofs.Said.{is_number, step_short, digit_known}
use Rattle.lv_lexer.proofs.reading.short_number.Goals as goal

pub overflow_mul-number : goal.overflow_mul-number
overflow_mul-number c =
    omega (arith, step_short 18 c.args.digits.now c.loop-digit.digit-index (is_number c.args.digits.now c.requires.number) c.requires.short c.loop-digit-test.true)

pub overflow_sub-digit : goal.overflow_sub-digit
overflow_sub-digit c =
    omega (arith, digit_known (get_or c.args.digits.now c.loop-digit.digit-index 0) ((is_number c.args.digits.now c.requires.number).each c.loop-digit.digit-index c.loop-digit-test.true))

pub overflow_add-number : goal.overflow_add-number
overflow_add-number c =
    let known = is_number c.args.digits.now c.requires.number in
    omega (
      arith,
      step_short 18 c.args.digits.now c.loop-digit.digit-index known c.requires.short c.loop-digit-test.true,
      digit_known (get_or c.args.digits.now c.loop-digit.digit-index 0) (known.each c.loop-digit.digit-index c.loop-digit-test.true),
    )

pub loop-digit-preserved : goal.loop-digit-preserved
loop-digit-preserved c =
    let known = is_number c.args.digits.now c.requires.number in
    omega (
      arith,
      digits_value_more 10 c.args.digits.now c.loop-digit.digit-index c.loop-digit-test.true,
      digit_known (get_or c.args.digits.now c.loop-digit.digit-index 0) (known.each c.loop-digit.digit-index c.loop-digit-test.true),
    )
