-- Written tokens that a rule reads: what shows that a printed form is read again, put together as rules are.
use Rattle.std.proofs.Common.{◌≡◌, ℕ, List, [], ◌∷◌, ◌++◌, map, Option, Some, None, option_map, inl, inr, refl, sym, ap, ◌∙◌, subst}
use Rattle.std.specs.List.{AllByRecursion}
use Rattle.std.specs.Str.{str_to_ascii_lowercase}
use Rattle.lv_lexer.specs.declared.terminals.Class.{Class}
use Rattle.lv_lexer.specs.declared.terminals.Terminal.{Terminal}
use Rattle.lv_lexer.specs.declared.token.TokenKind.{TokenKind}
use Rattle.lv_lexer.specs.declared.token.TokenKind.TheVariants.{Word, Number, Text, Sign}
use Rattle.lv_lexer.specs.Keywords.{keyword_of}
use Rattle.lv_lexer.specs.Meaning.{said, word_at}
use Rattle.lv_lexer.specs.Scan.{Spells}
use Rattle.lv_lexer.specs.Written.{Lexeme}
use Rattle.lv_parser.specs.Rule.{Rule, token, pure, ◌>>=◌, ◌>>◌, ◌<$>◌, ◌or◌, optional, many}
use Rattle.lv_parser.proofs.PrintWords.{IsThe}

-- the byte of what is said is the given one
pub byte_is : (kind : TokenKind) (bytes : List ℕ) (b : ℕ) → (said kind bytes b).byte ≡ b
byte_is Word bytes b = by (keyword_of (str_to_ascii_lowercase bytes))
  where
    by : (o : Option Class) → (word_at b (str_to_ascii_lowercase bytes) o).byte ≡ b
    by None = refl
    by (Some c) = refl
byte_is Number bytes b = refl
byte_is Text bytes b = refl
byte_is Sign bytes b = refl

-- a token that says what this one spells
abbrev pub IsSaid : Lexeme → Terminal → Type 0
IsSaid x t = t ≡ said x.kind x.text t.byte

pub is_said : (x : Lexeme) (b : ℕ) → IsSaid x (said x.kind x.text b)
is_said x b = ap (said x.kind x.text) (sym (byte_is x.kind x.text b))

-- the tokens up to the rest say what these spell, one by one
abbrev pub Says : List Lexeme → List Terminal → List Terminal → Type 0
Says [] ts rest = ts ≡ rest
Says (x ∷ xs) ts rest = (t : Terminal) × (us : List Terminal) × (ts ≡ t ∷ us) × IsSaid x t × Says xs us rest

-- some tokens that say what these spell
abbrev sayings : List Lexeme → List Terminal
sayings xs = map (λ x. said x.kind x.text 0) xs

sayings_say : (xs : List Lexeme) → Says xs (sayings xs) []
sayings_say [] = refl
sayings_say (x ∷ xs) = (said x.kind x.text 0, sayings xs, refl, is_said x 0, sayings_say xs)

says_parts : (xs ys : List Lexeme) (ts rest : List Terminal) → Says (xs ++ ys) ts rest → (mid : List Terminal) × Says xs ts mid × Says ys mid rest
says_parts [] ys ts rest s = (ts, refl, s)
says_parts (x ∷ xs) ys ts rest (t, us, e, is, more) = let parts = says_parts xs ys us rest more in (parts.0, (t, us, e, is, parts.1), parts.2)

-- each spells its kind
abbrev pub AllSpell : List Lexeme → Type 0
AllSpell = AllByRecursion (λ x. Spells x.text x.kind)

all_spell_append : (xs ys : List Lexeme) → AllSpell xs → AllSpell ys → AllSpell (xs ++ ys)
all_spell_append [] ys a b = b
all_spell_append (x ∷ xs) ys a b = (a.0, all_spell_append xs ys a.1 b)

-- each spells its kind, and wherever tokens say what these spell, the rule reads them, and what it gives has this property
pub record Shows {A : Type 0} (rule : Rule A) (Q : A → Type 0) (xs : List Lexeme) : Type 0 where
  pub spelled : AllSpell xs
  pub again : (ts rest : List Terminal) → Says xs ts rest → (a : A) × rule.reads ts a rest × Q a

pub pure_shows : {A : Type 0} {Q : A → Type 0} {a : A} → Q a → Shows (pure a) Q []
pure_shows {a = a} q = record { spelled = tt; again = λ ts rest s. (a, (refl, sym s), q) }

pub token_shows : {x : Lexeme} {k : Class} → IsThe x k → Shows (token k) (IsSaid x) (x ∷ [])
token_shows the_x = record {
  spelled = (the_x.spelled, tt);
  again = λ ts rest (t, us, e, is, end). (t, (e ∙ ap (λ (vs : List Terminal). t ∷ vs) end, ap (λ (u : Terminal). u.class) is ∙ the_x.of_class t.byte), is);
}

-- something has the property
found : {A : Type 0} {p : Rule A} {P : A → Type 0} {xs : List Lexeme} → Shows p P xs → (a : A) × P a
found {xs = xs} first = let a = first.again (sayings xs) [] (sayings_say xs) in (a.0, a.2)

pub then_shows : {A B : Type 0} {p : Rule A} {f : A → Rule B} {P : A → Type 0} {Q : B → Type 0} {xs ys : List Lexeme} → Shows p P xs → ((a : A) → P a → Shows (f a) Q ys) → Shows (p >>= f) Q (xs ++ ys)
then_shows {xs = xs} {ys = ys} first second = record {
  spelled = all_spell_append xs ys first.spelled (let a = found first in (second a.0 a.1).spelled);
  again = λ ts rest s.
      let parts = says_parts xs ys ts rest s in
      let a = first.again ts parts.0 parts.1 in
      let b = (second a.0 a.2).again parts.0 rest parts.2 in
      (b.0, (a.0, parts.0, a.1, b.1), b.2);
}

-- a keyword or sign, and then this
pub word_shows : {B : Type 0} {q : Rule B} {Q : B → Type 0} {x : Lexeme} {k : Class} {ys : List Lexeme} → IsThe x k → Shows q Q ys → Shows (token k >> q) Q (x ∷ ys)
word_shows the_x more = then_shows (token_shows the_x) (λ t is. more)

-- the last part, of which something is made
pub made_shows : {A B : Type 0} {p : Rule A} {g : A → B} {P : A → Type 0} {Q : B → Type 0} {xs : List Lexeme} → Shows p P xs → ((a : A) → P a → Q (g a)) → Shows (g <$> p) Q xs
made_shows {g = g} first q = record {
  spelled = first.spelled;
  again = λ ts rest s. let a = first.again ts rest s in (g a.0, (a.0, rest, a.1, (refl, refl)), q a.0 a.2);
}

pub left_shows : {A : Type 0} {p q : Rule A} {Q : A → Type 0} {xs : List Lexeme} → Shows p Q xs → Shows (p or q) Q xs
left_shows first = record { spelled = first.spelled; again = λ ts rest s. let a = first.again ts rest s in (a.0, inl a.1, a.2) }

pub right_shows : {A : Type 0} {p q : Rule A} {Q : A → Type 0} {xs : List Lexeme} → Shows q Q xs → Shows (p or q) Q xs
right_shows second = record { spelled = second.spelled; again = λ ts rest s. let a = second.again ts rest s in (a.0, inr a.1, a.2) }

pub some_shows : {A : Type 0} {p : Rule A} {P : A → Type 0} (Q : Option A → Type 0) {xs : List Lexeme} → Shows p P xs → ((a : A) → P a → Q (Some a)) → Shows (optional p) Q xs
some_shows Q first q = record { spelled = first.spelled; again = λ ts rest s. let a = first.again ts rest s in (Some a.0, a.1, q a.0 a.2) }

pub none_shows : {A : Type 0} {p : Rule A} (Q : Option A → Type 0) → Q None → Shows (optional p) Q []
none_shows Q q = record { spelled = tt; again = λ ts rest s. (None, sym s, q) }

pub option_shows : {A : Type 0} {p : Rule A} {xs : List Lexeme} (bare : A → A) (a : A) → Shows p (λ b. bare b ≡ bare a) xs → Shows (optional p) (λ o. option_map bare o ≡ Some (bare a)) xs
option_shows {A = A} bare a first = some_shows (λ o. option_map bare o ≡ Some (bare a)) first (λ b e. ap (λ (x : A). Some x) e)

pub no_more_shows : {A : Type 0} {p : Rule A} {Q : List A → Type 0} → Q [] → Shows (many p) Q []
no_more_shows q = record { spelled = tt; again = λ ts rest s. ([], sym s, q) }

-- one, and then the others
pub more_shows : {A : Type 0} {p : Rule A} {P : A → Type 0} {Ps Q : List A → Type 0} {xs ys : List Lexeme} → Shows p P xs → Shows (many p) Ps ys → ((a : A) (more : List A) → P a → Ps more → Q (a ∷ more)) → Shows (many p) Q (xs ++ ys)
more_shows {xs = xs} {ys = ys} first others q = record {
  spelled = all_spell_append xs ys first.spelled others.spelled;
  again = λ ts rest s.
      let parts = says_parts xs ys ts rest s in
      let a = first.again ts parts.0 parts.1 in
      let b = others.again parts.0 rest parts.2 in
      (a.0 ∷ b.0, (parts.0, a.1, b.1), q a.0 b.0 a.2 b.2);
}

pub weaker : {A : Type 0} {p : Rule A} {P : A → Type 0} (Q : A → Type 0) {xs : List Lexeme} → Shows p P xs → ((a : A) → P a → Q a) → Shows p Q xs
weaker Q first q = record { spelled = first.spelled; again = λ ts rest s. let a = first.again ts rest s in (a.0, a.1, q a.0 a.2) }

-- the same tokens, written in another way
pub as_tokens_of : {A : Type 0} {p : Rule A} {Q : A → Type 0} {xs ys : List Lexeme} → xs ≡ ys → Shows p Q xs → Shows p Q ys
as_tokens_of {p = p} {Q = Q} e h = let P : List Lexeme → Type 0 = λ zs. Shows p Q zs in subst P e h
