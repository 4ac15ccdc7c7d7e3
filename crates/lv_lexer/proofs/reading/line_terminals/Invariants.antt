use Rattle.std.proofs.Common.{◌-◌, ◌≤◌, ◌<◌, ◌^◌, length}
use Rattle.std.specs.List.{All}
use Rattle.lv_lexer.proofs.Onward.{IsRead}
use Rattle.lv_lexer.proofs.reading.line_terminals.Given as goal

abbrev pub invariant-each : goal.invariant-each
invariant-each l = record {
  within : l.at ≤ length l.line;
  read : IsRead l.line l.list l.at;
  small : All (λ t. t.number < 10 ^ 38) l.list;
}

abbrev pub decreases-each : goal.decreases-each
decreases-each l = length l.line - l.at
