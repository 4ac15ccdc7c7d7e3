-- The statements of a program, by session and place. The setup is session 0.
use Rattle.std.specs.Prelude.{ℕ, zero, suc, ◌+◌, Bool, not, ◌&&◌, ◌||◌, ◌==◌, nat_lt, List, [], length, slice_index, slice_index_or, replicate}
use Rattle.std.specs.List.{range_with_len, list_all}
use Rattle.lv_plain.specs.declared.program.Program.{Program}
use Rattle.lv_plain.specs.declared.program.Script.{Script}

abbrev pub no_script : Script
no_script = record { name = []; lines = [] }

-- the statements of a session
abbrev pub lines_of : Program → ℕ → List (List ℕ)
lines_of p zero = p.setup
lines_of p (suc session) = (slice_index_or p.sessions session no_script).lines

-- how many sessions there are, the setup among them
abbrev pub session_count : Program → ℕ
session_count p = length p.sessions + 1

-- for each session how many of its statements are answered
abbrev pub Places : Type 0
Places = List ℕ

abbrev pub first_places : Program → Places
first_places p = replicate (session_count p) 0

-- the next statement of a session
abbrev pub next_line : Program → Places → ℕ → List ℕ
next_line p places session = slice_index_or (lines_of p session) (slice_index places session) []

-- whether a session has a statement that is not answered
abbrev pub has_more : Program → Places → ℕ → Bool
has_more p places session = nat_lt (slice_index places session) (length (lines_of p session))

abbrev pub setup_answered : Program → Places → Bool
setup_answered p places = not (has_more p places 0)

-- whether it is a session's turn to be answered: it has a statement left and, if it is not the setup, the setup has none
abbrev pub may_turn : Program → Places → ℕ → Bool
may_turn p places session = has_more p places session && ((session == 0) || setup_answered p places)

-- whether every statement is answered
abbrev pub all_answered : Program → Places → Bool
all_answered p places = list_all (λ session. not (has_more p places session)) (range_with_len 0 (session_count p))
