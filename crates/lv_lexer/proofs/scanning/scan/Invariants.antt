use Rattle.std.proofs.Common.{ℕ, ◌-◌, ◌≤◌, List, ◌++◌, length, drop, Option}
use Rattle.lv_lexer.specs.declared.token.Token.{Token}
use Rattle.lv_lexer.specs.Scan.{Scans}
use Rattle.lv_lexer.proofs.scanning.scan.Given as goal

-- what the rest has, the line has behind the tokens so far
abbrev pub invariant-each : goal.invariant-each
invariant-each l = record {
  within : l.at ≤ length l.line;
  behind : (more : List Token) (stopped : Option ℕ) → Scans l.at (drop l.at l.line) more stopped → Scans 0 l.line (l.list ++ more) stopped;
}

abbrev pub decreases-each : goal.decreases-each
decreases-each l = length l.line - l.at
