use Rattle.std.proofs.Common.{◌≡◌, ◌-◌, ◌++◌, length, drop}
use Rattle.lv_lexer.specs.Meaning.{undoubled}
use Rattle.lv_lexer.proofs.reading.undouble.Given as goal

abbrev pub invariant-byte : goal.invariant-byte
invariant-byte l = l.out ++ undoubled (drop l.at l.bytes) ≡ undoubled l.bytes

abbrev pub decreases-byte : goal.decreases-byte
decreases-byte l = length l.bytes - l.at
