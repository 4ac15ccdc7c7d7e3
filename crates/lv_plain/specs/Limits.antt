-- The limits of a program.
use Rattle.std.specs.Prelude.{◌≢◌, ℕ, ◌+◌, ◌≤◌, List, map, length}
use Rattle.std.specs.List.{All, sum_by}
use Rattle.lv_plain.specs.declared.program.Script.{Script}
use Rattle.lv_plain.specs.declared.program.Program.{Program}

-- at most 65,536 bytes, and no line feed among them
pub record IsStatementLine (line : List ℕ) : Type 0 where
  pub short : length line ≤ 65536
  pub no_feed : All (λ b. b ≢ 10) line

-- how many statements each session has
abbrev pub statements_of : List Script → List ℕ
statements_of sessions = map (λ s. length s.lines) sessions

-- how many statements there are, in the setup and in the sessions
abbrev pub statement_count : Program → ℕ
statement_count program = length program.setup + sum_by (λ s. length s.lines) program.sessions

pub record IsWithinLimits (program : Program) : Type 0 where
  pub statements : statement_count program ≤ 100000
  pub items : length program.order ≤ 200000
  pub sessions : length program.sessions ≤ 16
  pub setup : All IsStatementLine program.setup
  pub lines : All (λ s. All IsStatementLine s.lines) program.sessions
