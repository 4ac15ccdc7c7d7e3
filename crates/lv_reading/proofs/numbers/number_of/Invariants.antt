use Rattle.std.proofs.Common.{◌≡◌, drop, Some}
use Rattle.lv_reading.specs.Numbers.{number_on}
use Rattle.lv_reading.proofs.numbers.number_of.Given as goal

abbrev pub invariant-loop-byte : goal.invariant-loop-byte
invariant-loop-byte l = number_on (drop l.byte-index l.digits) (Some l.number) ≡ number_on l.digits (Some 0)
