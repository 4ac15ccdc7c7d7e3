-- What a rule of a grammar reads, and what its fronts are. A list of tokens is given by two of its ends:
-- the tokens of `all` up to `rest`.
use Rattle.std.specs.Prelude.{◌≡◌, List, [], ◌∷◌, ◌⊎◌, Option, Some, None}
use Rattle.lv_lexer.specs.declared.terminals.Class.{Class}
use Rattle.lv_lexer.specs.declared.terminals.Terminal.{Terminal}

pub record Rule (A : Type 0) : Type 1 where
  -- the tokens of the first list up to the second are a whole reading, which gives this
  pub reads : List Terminal → A → List Terminal → Type 0
  -- the tokens of the first list up to the second are a front
  pub front : List Terminal → List Terminal → Type 0

-- A token of this class. Its front is nothing or that token.
abbrev pub token : Class → Rule Terminal
token class = record {
  reads = λ all t rest. (all ≡ t ∷ rest) × (t.class ≡ class);
  front = λ all rest. (rest ≡ all) ⊎ ((t : Terminal) × (all ≡ t ∷ rest) × (t.class ≡ class));
}

-- no token
abbrev pub pure : {A : Type 0} → A → Rule A
pure a = record {
  reads = λ all b rest. (b ≡ a) × (rest ≡ all);
  front = λ all rest. rest ≡ all;
}

-- A sequence. Its front is a front of its first part, or a whole reading of that and a front of what follows.
infixl 10 ◌>>=◌
abbrev pub ◌>>=◌ : {A B : Type 0} → Rule A → (A → Rule B) → Rule B
p >>= f = record {
  reads = λ all b rest. (a : _) × (mid : List Terminal) × p.reads all a mid × (f a).reads mid b rest;
  front = λ all rest. p.front all rest ⊎ ((a : _) × (mid : List Terminal) × p.reads all a mid × (f a).front mid rest);
}

infixl 10 ◌>>◌
abbrev pub ◌>>◌ : {A B : Type 0} → Rule A → Rule B → Rule B
p >> q = p >>= (λ _. q)

infixr 11 ◌<$>◌
abbrev pub ◌<$>◌ : {A B : Type 0} → (A → B) → Rule A → Rule B
f <$> p = p >>= (λ x. pure (f x))

-- A choice. Its front is a front of one of its members.
infixr 9 ◌or◌
abbrev pub ◌or◌ : {A : Type 0} → Rule A → Rule A → Rule A
p or q = record {
  reads = λ all a rest. p.reads all a rest ⊎ q.reads all a rest;
  front = λ all rest. p.front all rest ⊎ q.front all rest;
}

-- what an optional part gives where it stands, or where it doesn't
abbrev pub ReadsIf : {A : Type 0} → Rule A → List Terminal → Option A → List Terminal → Type 0
ReadsIf p all None rest = rest ≡ all
ReadsIf p all (Some a) rest = p.reads all a rest

-- An optional part. Its front is nothing or a front of the part.
abbrev pub optional : {A : Type 0} → Rule A → Rule (Option A)
optional p = record {
  reads = ReadsIf p;
  front = λ all rest. (rest ≡ all) ⊎ p.front all rest;
}

-- whole readings, one after another
abbrev pub ReadsEach : {A : Type 0} → Rule A → List Terminal → List A → List Terminal → Type 0
ReadsEach p all [] rest = rest ≡ all
ReadsEach p all (a ∷ more) rest = (mid : List Terminal) × p.reads all a mid × ReadsEach p mid more rest

-- A repeated part. Its front is nothing, or whole readings of it followed by a front of one more.
abbrev pub many : {A : Type 0} → Rule A → Rule (List A)
many p = record {
  reads = ReadsEach p;
  front = λ all rest. (rest ≡ all) ⊎ ((found : List _) × (mid : List Terminal) × ReadsEach p all found mid × p.front mid rest);
}

-- One or more of a part, with a token of this class between: p { class p }.
abbrev pub separated : {A : Type 0} → Class → Rule A → Rule (List A)
separated class p = do
  first ← p
  more ← many (token class >> p)
  pure (first ∷ more)
