-- The names of sessions.
use Rattle.std.specs.Prelude.{◌≡◌, ◌≢◌, ℕ, Bool, true, not, ◌&&◌, ◌||◌, List, [], ◌∷◌, map, codes}
use Rattle.std.specs.List.{All, AllPairs, list_any}
use Rattle.std.specs.Str.{bytes_eq}
use Rattle.lv_values.specs.Names.{is_lower_name}
use Rattle.lv_plain.specs.declared.program.Program.{Program}

-- the words of order lines and of transcripts, by which no session may be called, and the names of workers
abbrev pub reserved_words : List (List ℕ)
reserved_words = codes "setup" ∷ codes "fetch" ∷ codes "install" ∷ codes "work" ∷ codes "mark" ∷ codes "clean" ∷ codes "force" ∷ []

abbrev pub worker_names : List (List ℕ)
worker_names = codes "w1" ∷ codes "w2" ∷ codes "w3" ∷ codes "w4" ∷ codes "w5" ∷ codes "w6" ∷ codes "w7" ∷ codes "w8" ∷ []

abbrev pub is_reserved : List ℕ → Bool
is_reserved name = list_any (bytes_eq name) reserved_words || list_any (bytes_eq name) worker_names

-- a name in lower case that is not reserved; it may be a keyword
abbrev pub is_session_name : List ℕ → Bool
is_session_name name = is_lower_name name && not (is_reserved name)

-- the names of a program's sessions, in their order
abbrev pub session_names : Program → List (List ℕ)
session_names program = map (λ s. s.name) program.sessions

-- names of sessions, of which no two are the same
pub record AreSessionNames (names : List (List ℕ)) : Type 0 where
  pub each : All (λ name. is_session_name name ≡ true) names
  pub distinct : AllPairs (λ a b. a ≢ b) names
