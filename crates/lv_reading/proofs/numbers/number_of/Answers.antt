use Rattle.std.proofs.Common.{sym, ◌∙◌}
use Rattle.lv_reading.proofs.Digits.{number_fails, number_stops}
use Rattle.lv_reading.proofs.numbers.number_of.Goals as goal

pub returns-in-None : goal.returns-in-None
returns-in-None c = number_fails c.args.digits.now (sym c.has_leading_zero.ensures ∙ c.if-has_leading_zero.false) (sym c.loop-byte.invariant ∙ number_stops c.args.digits.now c.loop-byte.byte-index c.loop-byte.number c.loop-byte-test.true (sym c.in-None.ensures))
