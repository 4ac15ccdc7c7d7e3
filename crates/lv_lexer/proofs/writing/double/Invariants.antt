use Rattle.std.proofs.Common.{◌≡◌, ◌++◌, drop}
use Rattle.lv_values.specs.Print.{doubled}
use Rattle.lv_lexer.proofs.writing.double.Given as goal

abbrev pub invariant-loop-byte : goal.invariant-loop-byte
invariant-loop-byte l = l.out ++ doubled (drop l.byte-index l.bytes) ≡ doubled l.bytes
