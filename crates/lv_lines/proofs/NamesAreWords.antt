-- The names of programs and of the schema are words of transcripts.
use Rattle.std.proofs.Common.{◌≡◌, ℕ, suc, Bool, true, false, List, [], ◌∷◌, length, refl, ap, ◌∙◌, arith}
use Rattle.std.specs.Prelude.{◌≢◌, not, nat_le, codes}
use Rattle.std.specs.List.{All, AllPairs, AllByRecursion, IsDistinct}
use Rattle.std.specs.Str.{bytes_eq}
use Rattle.std.proofs.lemmas.List.Elements.{All-head, All-tail, All-weaker, recursion_from_All}
use Rattle.std.proofs.lemmas.Slice.Eq.{bytes_eq-Decides}
use Rattle.lv_plain.specs.SessionNames.{is_session_name, is_reserved, AreSessionNames}
use Rattle.lv_values.specs.Names.{is_word, is_lower_name, is_name, has_name, keywords}
use Rattle.lv_lines.specs.Entries.{IsWord, AreWords}
use Rattle.lv_lines.proofs.TakesWords.{and_parts}

pub program_word : (name : List ℕ) → is_lower_name name ≡ true → IsWord name
program_word name is = (and_parts (is_word name) (nat_le (length name) 32) is).0

pub schema_word : (name : List ℕ) → is_name name ≡ true → IsWord name
schema_word name is = program_word name (and_parts (is_lower_name name) (not (has_name name keywords)) is).0

-- ---- the names of sessions behind that of the setup

apart : (a b : List ℕ) → a ≢ b → bytes_eq a b ≡ false
apart a b differ = at (bytes_eq a b) refl where
  at : (t : Bool) → bytes_eq a b ≡ t → bytes_eq a b ≡ false
  at true is = absurd (differ ((bytes_eq-Decides a b).0 is))
  at false is = is

each_apart : (name : List ℕ) (names : List (List ℕ)) → All (λ other. name ≢ other) names → AllByRecursion (λ other. bytes_eq name other ≡ false) names
each_apart name [] h = tt
each_apart name (other ∷ names) h =
    (apart name other (All-head (λ other. name ≢ other) other names h), each_apart name names (All-tail (λ other. name ≢ other) other names h))

distinct : (names : List (List ℕ)) → AllPairs (λ a b. a ≢ b) names → IsDistinct bytes_eq names
unfolding IsDistinct
distinct [] h = tt
distinct (name ∷ names) h =
    (each_apart name names (λ k d lt. h 0 (suc k) d (omega arith) (omega arith)), distinct names (λ i j d lt within. h (suc i) (suc j) d (omega arith) (omega arith)))

-- no session is called as the setup
not_setup : (name : List ℕ) → is_session_name name ≡ true → codes "setup" ≢ name
not_setup name is same =
    let kept : is_session_name (codes "setup") ≡ false = refl in
    let named : is_session_name (codes "setup") ≡ true = ap is_session_name same ∙ is in
    absurd cc

all_apart : (names : List (List ℕ)) → All (λ name. is_session_name name ≡ true) names → AllByRecursion (λ other. bytes_eq (codes "setup") other ≡ false) names
all_apart [] h = tt
all_apart (name ∷ names) h =
    let first = All-head (λ name. is_session_name name ≡ true) name names h in
    (apart (codes "setup") name (not_setup name first), all_apart names (All-tail (λ name. is_session_name name ≡ true) name names h))

session_word : (name : List ℕ) → is_session_name name ≡ true → IsWord name
session_word name is = program_word name (and_parts (is_lower_name name) (not (is_reserved name)) is).0

pub session_words : (names : List (List ℕ)) → AreSessionNames names → AreWords (codes "setup" ∷ names)
unfolding IsDistinct
session_words names h =
    ((refl, recursion_from_All IsWord names (All-weaker (λ name. is_session_name name ≡ true) IsWord session_word names h.each)), (all_apart names h.each, distinct names h.distinct))
