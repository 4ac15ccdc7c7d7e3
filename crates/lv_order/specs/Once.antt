-- Which entries answer the statements of a session.
use Rattle.std.specs.Prelude.{◌≡◌, ℕ, ◌<◌, ◌==◌, if◌then◌else◌, List, length, Option, Some, None}
use Rattle.std.specs.List.{filter_map, range_with_len}
use Rattle.lv_plain.specs.declared.entry.Entry.{Entry}
use Rattle.lv_plain.specs.declared.entry.Entry.TheVariants as entry
use Rattle.lv_plain.specs.declared.program.Program.{Program}
use Rattle.lv_plain.specs.Programs.{lines_of, session_count}

-- the place of the statement that an entry answers, if it is the session's
abbrev pub place_in : ℕ → Entry → Option ℕ
place_in session (entry.Session other place forced reply) = if other == session then Some place else None
place_in session e = None

-- each statement of each session, the setup among them, is answered by one entry, in their order
abbrev pub AnswerOnce : Program → List Entry → Type 0
AnswerOnce p entries = (session : ℕ) → session < session_count p → filter_map (place_in session) entries ≡ range_with_len 1 (length (lines_of p session))
