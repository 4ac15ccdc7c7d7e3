-- Rounds in which sessions answer what is left.
use Rattle.std.specs.Prelude.{◌≡◌, ◌≢◌, ℕ, ◌+◌, ◌≤◌, ◌<◌, true, false, length, min, slice_index}
use Rattle.lv_core.specs.Run.{CoreView}
use Rattle.lv_plain.specs.declared.program.Program.{Program}
use Rattle.lv_plain.specs.Programs.{Places, has_more, lines_of, may_turn, session_count}

-- so many statements of a session are answered, or all where it has fewer
abbrev pub HasTurned : Program → Places → ℕ → ℕ → Type 0
HasTurned p places count session = min count (length (lines_of p session)) ≤ slice_index places session

-- the setup has no statement left, the sessions before one have had one more turn than the others
pub record IsRoundDone {D : Type 0} (c : CoreView D) (rounds session : ℕ) : Type 0 where
  pub setup : has_more c.program c.places 0 ≡ false
  pub before : (s : ℕ) → 1 ≤ s → s < session → s < session_count c.program → HasTurned c.program c.places (rounds + 1) s
  pub others : (s : ℕ) → 1 ≤ s → s < session_count c.program → HasTurned c.program c.places rounds s

-- A session has had its turn: where it had a statement left that could be answered, one more is answered, and every other
-- session is where it was.
pub record HasTurnedOnce {D : Type 0} (old new : CoreView D) (session : ℕ) : Type 0 where
  pub turned : may_turn old.program old.places session ≡ true → slice_index new.places session ≡ slice_index old.places session + 1
  pub waited : may_turn old.program old.places session ≡ false → slice_index new.places session ≡ slice_index old.places session
  pub others : (s : ℕ) → s ≢ session → slice_index new.places s ≡ slice_index old.places s
