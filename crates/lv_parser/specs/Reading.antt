-- Reading from the left, by the next token alone.
use Rattle.std.specs.Prelude.{◌≡◌, ℕ, zero, suc, Bool, true, false, if◌then◌else◌, List, [], ◌∷◌, ◌++◌, length, Option, Some, None, Result, Ok, Err}
use Rattle.lv_lexer.specs.declared.terminals.Class.{Class}
use Rattle.lv_lexer.specs.declared.terminals.Terminal.{Terminal}
use Rattle.lv_parser.specs.declared.stop.Stop.{Stop}
use Rattle.lv_parser.specs.declared.stop.Stop.TheVariants.{Syntax, NoMemory}
use Rattle.lv_parser.specs.Class.{same}

-- what is read and the tokens after it, or the tokens from the first that can't stand on
abbrev pub Outcome : Type 0 → Type 0
Outcome A = Result (A × List Terminal) (List Terminal)

abbrev pub Reader : Type 0 → Type 0
Reader A = List Terminal → Outcome A

abbrev pub and_then : {A B : Type 0} → Outcome A → (A → Reader B) → Outcome B
and_then (Ok p) f = f p.0 p.1
and_then (Err rest) f = Err rest

infixl 10 ◌>>=◌
abbrev pub ◌>>=◌ : {A B : Type 0} → Reader A → (A → Reader B) → Reader B
p >>= f = λ all. and_then (p all) f

infixl 10 ◌>>◌
abbrev pub ◌>>◌ : {A B : Type 0} → Reader A → Reader B → Reader B
p >> q = p >>= (λ _. q)

abbrev pub pure : {A : Type 0} → A → Reader A
pure a = λ all. Ok (a, all)

infixr 11 ◌<$>◌
abbrev pub ◌<$>◌ : {A B : Type 0} → (A → B) → Reader A → Reader B
f <$> p = p >>= (λ x. pure (f x))

unfoldable pub sees : Class → List Terminal → Bool
sees k [] = false
sees k (t ∷ rest) = same t.class k

abbrev pub is_nothing : List Terminal → Bool
is_nothing [] = true
is_nothing (t ∷ rest) = false

abbrev pub next : List Terminal → Option Terminal
next [] = None
next (t ∷ rest) = Some t

abbrev pub next_class : List Terminal → Option Class
next_class [] = None
next_class (t ∷ rest) = Some t.class

unfoldable pub expect : Class → Reader Terminal
expect k [] = Err []
expect k (t ∷ rest) = if same t.class k then Ok (t, rest) else Err (t ∷ rest)

-- the first where a token of these classes comes next, and else the second
abbrev pub choose : {A : Type 0} → Bool → Reader A → Reader A → Reader A
choose true p q = p
choose false p q = q

abbrev pub choice : {A : Type 0} → (List Terminal → Bool) → Reader A → Reader A → Reader A
choice test p q = λ all. choose (test all) p q all

abbrev pub optional : {A : Type 0} → (List Terminal → Bool) → Reader A → Reader (Option A)
optional test p = choice test (Some <$> p) (pure None)

-- The number bounds the turns.
unfoldable pub many_from : {A : Type 0} → (List Terminal → Bool) → Reader A → ℕ → List A → Reader (List A)
many_from test p zero found = pure found
many_from test p (suc n) found = choice test (p >>= λ a. many_from test p n (found ++ a ∷ [])) (pure found)

unfoldable pub many : {A : Type 0} → (List Terminal → Bool) → Reader A → Reader (List A)
many test p = λ all. many_from test p (length all) [] all

-- the list so far, and on with it
unfoldable pub many_more : {A : Type 0} → (List Terminal → Bool) → Reader A → List A → Reader (List A)
many_more test p found = λ all. many_from test p (length all) found all

-- behind a token of this class
abbrev pub behind : {A : Type 0} → Class → Reader A → Reader A
behind class p = expect class >> p

-- one or more, with a token of this class between
unfoldable pub separated : {A : Type 0} → Class → Reader A → Reader (List A)
separated class p = p >>= λ first. many_more (sees class) (behind class p) (first ∷ [])

-- ---- what a function that reads ensures

-- What it returned is what is read, or it stopped at the first token that can't stand.
abbrev pub Gives : {A : Type 0} → Outcome A → Result A Stop → List Terminal → Type 0
Gives o (Ok a) rest = o ≡ Ok (a, rest)
Gives o (Err Syntax) rest = o ≡ Err rest
Gives o (Err NoMemory) rest = Unit {0}
