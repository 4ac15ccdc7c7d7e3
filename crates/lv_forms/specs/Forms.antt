-- Forms: what is written for a value, and how it is read. A form of a line or a record is put together from these.
use Rattle.std.specs.Prelude.{◌≡◌, ℕ, zero, suc, ℤ, ◌<◌, ◌^◌, ◌*◌, ◌+◌, ◌/◌, ◌%◌, Bool, true, not, ◌&&◌, if◌then◌else◌, nat_le, ◌⊎◌, List, [], ◌∷◌, ◌++◌, length, take, drop, FitsSigned, Option, Some, None, decimal}
use Rattle.std.proofs.Common.{inl, inr}
use Rattle.std.specs.Char.{is_ascii_digit}
use Rattle.std.specs.Fmt.{signed_decimal}
use Rattle.std.specs.Int.{Width, byte_len, cast_signed, cast_unsigned}
use Rattle.std.specs.List.{flat_map, join_by, AllByRecursion}
use Rattle.std.specs.Str.{is_utf8}
use Rattle.lv_reading.specs.Reading.{Reader, IsBytes, ◌>>=◌, ◌>>◌, pure, fail, check, choice, begins, expect, byte, stops, separated, times, many}
use Rattle.lv_reading.specs.Numbers.{IsWide, natural, number}

-- The text of a value, the values that have one, how it is read, and whether these bytes may follow.
pub record Form (A : Type 0) : Type 1 where
  pub text : A → List ℕ
  pub Fits : A → Type 0
  pub read : Reader A
  pub ends : List ℕ → Bool

-- What is read was written, and what was written is read again; so bytes have one value, and a value one text.
pub record IsExact {A : Type 0} (f : Form A) : Type 0 where
  pub written : (bytes : List ℕ) (a : A) (rest : List ℕ) → IsBytes bytes → f.read bytes ≡ Some (a, rest) → (bytes ≡ f.text a ++ rest) × f.Fits a
  pub again : (a : A) (rest : List ℕ) → f.Fits a → f.ends rest ≡ true → f.read (f.text a ++ rest) ≡ Some (a, rest)

-- anything may follow
abbrev pub always : List ℕ → Bool
always rest = true

-- ---- one value

-- these words alone
abbrev pub words : List ℕ → Form (Unit {0})
words w = record { text = λ _. w; Fits = λ _. Unit {0}; read = expect w; ends = always }

-- nothing is written
abbrev pub nothing : Form (Unit {0})
nothing = record { text = λ _. []; Fits = λ _. Unit {0}; read = pure tt; ends = always }

-- no value at all
abbrev pub never : {A : Type 0} → Form A
never = record { text = λ _. []; Fits = λ _. ⊥; read = fail; ends = always }

-- a number below the limit, in decimal
abbrev pub count_below : ℕ → Form ℕ
count_below limit = record { text = decimal; Fits = λ n. n < limit; read = natural limit; ends = stops is_ascii_digit }

abbrev pub small : Form ℕ
small = count_below (2 ^ 32)

abbrev pub count : Form ℕ
count = count_below (2 ^ 64)

-- a signed number of 128 bits
abbrev pub wide : Form ℤ
wide = record { text = signed_decimal; Fits = IsWide; read = number; ends = stops is_ascii_digit }

-- a number in so many bytes, the lowest first
abbrev pub bytes_of : ℕ → ℕ → List ℕ
bytes_of zero n = []
bytes_of (suc k) n = (n % 256) ∷ bytes_of k (n / 256)

abbrev pub read_bytes : ℕ → Reader ℕ
read_bytes zero = pure 0
read_bytes (suc k) = byte >>= λ b. read_bytes k >>= λ n. pure (b + 256 * n)

abbrev pub binary : ℕ → Form ℕ
binary k = record { text = bytes_of k; Fits = λ n. n < 256 ^ k; read = read_bytes k; ends = always }

-- a signed number in as many bytes as its width has, by two's complement
abbrev pub signed : Width → Form ℤ
signed w = record {
  text = λ z. bytes_of (byte_len w) (cast_unsigned w z);
  Fits = FitsSigned w;
  read = read_bytes (byte_len w) >>= λ n. pure (cast_signed w n);
  ends = always;
}

-- so many bytes
unfoldable pub chunk : ℕ → Reader (List ℕ)
chunk n bytes = if nat_le n (length bytes) then Some (take n bytes, drop n bytes) else None

-- so many bytes, which are UTF-8
abbrev pub letters_of : ℕ → Reader (List ℕ)
letters_of n = chunk n >>= λ t. check (is_utf8 t) t

-- a text in UTF-8, and the number of its bytes before it
abbrev pub letters : Form ℕ → Form (List ℕ)
letters n = record {
  text = λ t. n.text (length t) ++ t;
  Fits = λ t. n.Fits (length t) × (is_utf8 t ≡ true);
  read = n.read >>= letters_of;
  ends = always;
}

-- ---- one after the other

-- words, and then the form
abbrev pub after : {A : Type 0} → List ℕ → Form A → Form A
after w f = record { text = λ a. w ++ f.text a; Fits = f.Fits; read = expect w >> f.read; ends = f.ends }

-- the form, and then words
abbrev pub ended : {A : Type 0} → Form A → List ℕ → Form A
ended f w = record { text = λ a. f.text a ++ w; Fits = f.Fits; read = f.read >>= λ a. expect w >> pure a; ends = always }

-- two forms, and words between them
abbrev pub pair : {A B : Type 0} → Form A → List ℕ → Form B → Form (A × B)
pair f w g = record {
  text = λ p. f.text p.0 ++ (w ++ g.text p.1);
  Fits = λ p. f.Fits p.0 × g.Fits p.1;
  read = f.read >>= λ a. expect w >> (g.read >>= λ b. pure (a, b));
  ends = g.ends;
}

-- two forms, and nothing between them
abbrev pub both : {A B : Type 0} → Form A → Form B → Form (A × B)
both f g = record {
  text = λ p. f.text p.0 ++ g.text p.1;
  Fits = λ p. f.Fits p.0 × g.Fits p.1;
  read = f.read >>= λ a. g.read >>= λ b. pure (a, b);
  ends = g.ends;
}

-- words and the form, or nothing
abbrev pub if_there : {A : Type 0} → Form A → Option A → List ℕ → List ℕ
if_there f (Some a) w = w ++ f.text a
if_there f None w = []

abbrev pub FitsIfThere : {A : Type 0} → Form A → Option A → Type 0
FitsIfThere f (Some a) = f.Fits a
FitsIfThere f None = Unit {0}

abbrev pub optional : {A : Type 0} → List ℕ → Form A → Form (Option A)
optional w f = record {
  text = λ o. if_there f o w;
  Fits = FitsIfThere f;
  read = choice (begins w) (expect w >> (f.read >>= λ a. pure (Some a))) (pure None);
  ends = λ rest. not (begins w rest) && f.ends rest;
}

-- ---- lists

-- how many there are, words, and each of them
abbrev pub counted : {A : Type 0} → Form ℕ → List ℕ → Form A → Form (List A)
counted n w f = record {
  text = λ xs. n.text (length xs) ++ (w ++ flat_map f.text xs);
  Fits = λ xs. n.Fits (length xs) × AllByRecursion f.Fits xs;
  read = n.read >>= λ k. expect w >> times f.read k;
  ends = always;
}

-- how many there are, and each of them
abbrev pub listed : {A : Type 0} → Form ℕ → Form A → Form (List A)
listed n f = record {
  text = λ xs. n.text (length xs) ++ flat_map f.text xs;
  Fits = λ xs. n.Fits (length xs) × AllByRecursion f.Fits xs;
  read = n.read >>= λ k. times f.read k;
  ends = always;
}

-- one or more, and words between any two
abbrev pub joined : {A : Type 0} → List ℕ → Form A → Form (List A)
joined w f = record {
  text = join_by f.text w;
  Fits = λ xs. (0 < length xs) × AllByRecursion f.Fits xs;
  read = separated w f.read;
  ends = λ rest. not (begins w rest) && f.ends rest;
}

-- ---- under another name

-- the form of B whose values are A's: `of` makes one, `to` takes it apart
abbrev pub mapped : {A B : Type 0} → (A → B) → (B → A) → Form A → Form B
mapped make parts f = record { text = λ b. f.text (parts b); Fits = λ b. f.Fits (parts b); read = f.read >>= λ a. pure (make a); ends = f.ends }

-- the same where only some of B's values are A's
abbrev pub text_if : {A : Type 0} → Form A → Option A → List ℕ
text_if f (Some a) = f.text a
text_if f None = []

abbrev pub FitsIf : {A : Type 0} → Form A → Option A → Type 0
FitsIf f (Some a) = f.Fits a
FitsIf f None = ⊥

-- where there is one, this holds of it
abbrev pub IfIs : {A : Type 0} → Option A → (A → Type 0) → Type 0
IfIs (Some a) P = P a
IfIs None P = Unit {0}

abbrev pub partly : {A B : Type 0} → (A → B) → (B → Option A) → Form A → Form B
partly make parts f = record { text = λ b. text_if f (parts b); Fits = λ b. FitsIf f (parts b); read = f.read >>= λ a. pure (make a); ends = f.ends }

-- the same where B's values are A's but for those that are not good, of which nothing is kept that shows it
abbrev pub among : {A B : Type 0} → (A → B) → (B → A) → (B → Type 0) → Form A → Form B
among make parts Good f = record { text = λ b. f.text (parts b); Fits = λ b. f.Fits (parts b) × Good b; read = f.read >>= λ a. pure (make a); ends = f.ends }

-- ---- by a test of the bytes

-- the first form where the bytes pass the test, and else the second
abbrev pub either_text : {A B : Type 0} → Form A → Form B → A ⊎ B → List ℕ
either_text f g (inl a) = f.text a
either_text f g (inr b) = g.text b

abbrev pub FitsEither : {A B : Type 0} → Form A → Form B → A ⊎ B → Type 0
FitsEither f g (inl a) = f.Fits a
FitsEither f g (inr b) = g.Fits b

abbrev pub either : {A B : Type 0} → (List ℕ → Bool) → Form A → Form B → Form (A ⊎ B)
either test f g = record {
  text = either_text f g;
  Fits = FitsEither f g;
  read = choice test (f.read >>= λ a. pure (inl a)) (g.read >>= λ b. pure (inr b));
  ends = λ rest. f.ends rest && g.ends rest;
}

-- one after the other while the bytes pass the test
abbrev pub repeated : {A : Type 0} → (List ℕ → Bool) → Form A → Form (List A)
repeated test f = record { text = flat_map f.text; Fits = AllByRecursion f.Fits; read = many test f.read; ends = λ rest. not (test rest) }

-- the values of the form that pass the test
abbrev pub only : {A : Type 0} → (A → Bool) → Form A → Form A
only test f = record { text = f.text; Fits = λ a. f.Fits a × (test a ≡ true); read = f.read >>= λ a. check (test a) a; ends = f.ends }

-- the numbers up to the limit
abbrev pub up_to : ℕ → Form ℕ → Form ℕ
up_to most n = only (λ k. nat_le k most) n
