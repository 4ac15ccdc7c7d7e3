use Rattle.std.proofs.Common.{◌≡◌, ◌+◌, ◌-◌, ◌≤◌, length, drop, option_map}
use Rattle.lv_lexer.specs.Piece.{closing}
use Rattle.lv_lexer.proofs.pieces.closing_len.Given as goal

abbrev pub invariant-quote : goal.invariant-quote
invariant-quote l = record {
  whole : closing l.bytes ≡ option_map (λ n. l.at + n) (closing (drop l.at l.bytes));
  within : l.at ≤ length l.bytes;
}

abbrev pub decreases-quote : goal.decreases-quote
decreases-quote l = length l.bytes - l.at
