-- Readers of bytes from the left, and how they are put together.
use Rattle.std.specs.Prelude.{◌≡◌, ℕ, zero, suc, ◌<◌, Bool, true, false, not, if◌then◌else◌, List, [], ◌∷◌, ◌++◌, length, take, drop, Option, Some, None, Result, Ok, Err, nat_lt, slice_index}
use Rattle.std.specs.List.{prefix_len}
use Rattle.std.specs.Str.{bytes_eq}
use Rattle.lv_reading.specs.declared.stop.Stop.{Stop}
use Rattle.lv_reading.specs.declared.stop.Stop.TheVariants.{Bad, NoMemory}

-- what is read and the bytes after it, or nothing
abbrev pub Outcome : Type 0 → Type 0
Outcome A = Option (A × List ℕ)

abbrev pub Reader : Type 0 → Type 0
Reader A = List ℕ → Outcome A

-- numbers that are bytes
abbrev pub IsBytes : List ℕ → Type 0
IsBytes bytes = (i : ℕ) → slice_index bytes i < 256

abbrev pub and_then : {A B : Type 0} → Outcome A → (A → Reader B) → Outcome B
and_then (Some p) f = f p.0 p.1
and_then None f = None

-- one reader, and then another, which may depend on what the first gave
infixl 10 ◌>>=◌
abbrev pub ◌>>=◌ : {A B : Type 0} → Reader A → (A → Reader B) → Reader B
p >>= f = λ bytes. and_then (p bytes) f

infixl 10 ◌>>◌
abbrev pub ◌>>◌ : {A B : Type 0} → Reader A → Reader B → Reader B
p >> q = p >>= (λ _. q)

-- gives this and takes nothing
abbrev pub pure : {A : Type 0} → A → Reader A
pure a = λ bytes. Some (a, bytes)

abbrev pub fail : {A : Type 0} → Reader A
fail = λ bytes. None

-- gives what is there, and fails where nothing is
abbrev pub given : {A : Type 0} → Option A → Reader A
given (Some a) = pure a
given None = fail

-- gives this where the test holds, and else fails
abbrev pub check : {A : Type 0} → Bool → A → Reader A
check true a = pure a
check false a = fail

-- the number, where it is below the limit
abbrev pub below : ℕ → ℕ → Reader ℕ
below limit n = check (nat_lt n limit) n

abbrev pub choose : {A : Type 0} → Bool → Reader A → Reader A → Reader A
choose true p q = p
choose false p q = q

-- the first where the bytes pass the test, and else the second
abbrev pub choice : {A : Type 0} → (List ℕ → Bool) → Reader A → Reader A → Reader A
choice test p q = λ bytes. choose (test bytes) p q bytes

-- goes on with what is there, or where nothing is
abbrev pub if_more : {A B : Type 0} → Option A → (A → Reader B) → Reader B → Reader B
if_more (Some a) f p = f a
if_more None f p = p

-- whether this text comes next
unfoldable pub begins : List ℕ → List ℕ → Bool
begins text bytes = bytes_eq text (take (length text) bytes)

-- this text, and nothing else
unfoldable pub expect : List ℕ → Reader (Unit {0})
expect text bytes = if begins text bytes then Some (tt, drop (length text) bytes) else None

-- the next byte
unfoldable pub byte : Reader ℕ
byte [] = None
byte (b ∷ bytes) = Some (b, bytes)

-- as many bytes that pass the test as there are
unfoldable pub run : (ℕ → Bool) → Reader (List ℕ)
run p bytes = Some (take (prefix_len p bytes) bytes, drop (prefix_len p bytes) bytes)

-- no byte comes next that passes the test
abbrev pub stops : (ℕ → Bool) → List ℕ → Bool
stops p [] = true
stops p (b ∷ bytes) = not (p b)

-- at most so many more, while the bytes pass the test, behind those that were found
unfoldable pub many_from : {A : Type 0} → (List ℕ → Bool) → Reader A → ℕ → List A → Reader (List A)
many_from test p zero found = pure found
many_from test p (suc n) found = choice test (p >>= λ a. many_from test p n (found ++ a ∷ [])) (pure found)

-- one after the other while the bytes pass the test; there are never more than bytes
unfoldable pub many_onto : {A : Type 0} → (List ℕ → Bool) → Reader A → List A → Reader (List A)
many_onto test p found bytes = many_from test p (length bytes) found bytes

abbrev pub many : {A : Type 0} → (List ℕ → Bool) → Reader A → Reader (List A)
many test p = many_onto test p []

-- one or more, with this text between any two
unfoldable pub separated : {A : Type 0} → List ℕ → Reader A → Reader (List A)
separated between p = p >>= λ first. many_onto (begins between) (expect between >> p) (first ∷ [])

-- at most so many more, behind those that were found, until the reader gives nothing
unfoldable pub until_from : {A : Type 0} → Reader (Option A) → ℕ → List A → Reader (List A)
until_from p zero found = fail
until_from p (suc n) found = p >>= λ o. if_more o (λ a. until_from p n (found ++ a ∷ [])) (pure found)

-- one after the other until the reader gives nothing; there are never more than bytes
unfoldable pub until : {A : Type 0} → Reader (Option A) → Reader (List A)
until p bytes = until_from p (length bytes) [] bytes

-- so many more, behind those that were found
unfoldable pub times_from : {A : Type 0} → Reader A → ℕ → List A → Reader (List A)
times_from p zero found = pure found
times_from p (suc n) found = p >>= λ a. times_from p n (found ++ a ∷ [])

-- so many, one after the other
abbrev pub times : {A : Type 0} → Reader A → ℕ → Reader (List A)
times p n = times_from p n []

-- ---- what a function that reads ensures

-- It gives what the reader gives and leaves the bytes that the reader leaves; it answers Bad exactly where the
-- reader fails. Want of memory is free.
abbrev pub Gives : {A : Type 0} → Outcome A → Result A Stop → List ℕ → Type 0
Gives o (Ok a) rest = o ≡ Some (a, rest)
Gives o (Err Bad) rest = o ≡ None
Gives o (Err NoMemory) rest = Unit {0}
