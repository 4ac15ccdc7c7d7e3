use Rattle.std.proofs.Common.{◌≡◌, ◌<◌, ◌^◌, map, take}
use Rattle.std.specs.List.{All}
use Rattle.lv_lexer.specs.Meaning.{terminal_of}
use Rattle.lv_lexer.proofs.reading.read_tokens.Given as goal

abbrev pub invariant-loop-token : goal.invariant-loop-token
invariant-loop-token l = record {
  said : l.terminals ≡ map (terminal_of l.line) (take l.token-index l.tokens);
  small : All (λ t. t.number < 10 ^ 38) l.terminals;
}
