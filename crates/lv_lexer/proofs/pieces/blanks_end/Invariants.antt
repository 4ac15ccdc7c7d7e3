use Rattle.std.proofs.Common.{◌≡◌, ◌+◌, ◌-◌, ◌≤◌, length, drop}
use Rattle.std.specs.List.{prefix_len}
use Rattle.lv_values.specs.Names.{is_blank}
use Rattle.lv_lexer.proofs.pieces.blanks_end.Given as goal

abbrev pub invariant-blank : goal.invariant-blank
invariant-blank l = record {
  blanks : l.end + prefix_len is_blank (drop l.end l.line) ≡ l.at + prefix_len is_blank (drop l.at l.line);
  within : l.end ≤ length l.line;
}

abbrev pub decreases-blank : goal.decreases-blank
decreases-blank l = length l.line - l.end
