use Rattle.std.proofs.Common.{◌≡◌, ℕ, zero, suc, List, map, drop}
use Rattle.lv_lexer.specs.Written.{Lexeme, word, with_tokens}
use Rattle.lv_parser.specs.Printed.{between, behind, part_tokens, shown}
use Rattle.lv_parser.proofs.print_conditions.+printing.Given as goal

-- what is left behind so many parts
abbrev pub left_of : Lexeme → ℕ → List (List Lexeme) → List Lexeme
left_of joint zero parts = between joint parts
left_of joint (suc n) parts = behind joint parts

abbrev pub invariant-print_chain-loop-i : goal.invariant-print_chain-loop-i
invariant-print_chain-loop-i l =
    with_tokens l.out (left_of (word l.joint) l.i (map (part_tokens l.in_and) (map shown (drop l.i l.parts))))
    ≡ with_tokens l.initial.out (between (word l.joint) (map (part_tokens l.in_and) (map shown l.parts)))
