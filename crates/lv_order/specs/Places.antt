-- How many statements of each session are answered after events.
use Rattle.std.specs.Prelude.{ℕ, ◌+◌, List, slice_index, slice_set}
use Rattle.std.specs.List.{fold}
use Rattle.lv_plain.specs.declared.event.Event.{Event}
use Rattle.lv_plain.specs.declared.event.Event.TheVariants.{Turn as turn_of, Fetch as fetch_of, Install as install_of, Release as release_of, Mark as mark_of, Clean as clean_up}
use Rattle.lv_plain.specs.declared.program.Program.{Program}
use Rattle.lv_plain.specs.Programs.{Places, first_places}

-- one more of a session
abbrev pub one_more : Places → ℕ → Places
one_more places session = slice_set places session (slice_index places session + 1)

-- a turn counts one more of its session, and every other event changes nothing
abbrev pub counted : Places → Event → Places
counted places (turn_of session) = one_more places session
counted places (fetch_of worker) = places
counted places (install_of worker) = places
counted places (release_of worker) = places
counted places (mark_of name) = places
counted places clean_up = places

-- from the beginning of a program, after these events
abbrev pub places_after : Program → List Event → Places
places_after p events = fold counted (first_places p) events
