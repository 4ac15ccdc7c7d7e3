-- What a rule reads of the terminals of a line has a property: shown by the parts of the rule.
use Rattle.std.proofs.Common.{◌≡◌, ◌<◌, Bool, true, List, [], ◌∷◌, length, Option, Some, None, ◌⊎◌, inl, inr, refl, sym, subst, arith}
use Rattle.std.specs.List.{list_all}
use Rattle.lv_lexer.specs.declared.terminals.Class.{Class}
use Rattle.lv_lexer.specs.declared.terminals.Terminal.{Terminal}
use Rattle.lv_parser.specs.Rule.{Rule, token, pure, ◌>>=◌, ◌>>◌, ◌<$>◌, ◌or◌, optional, many, separated, ReadsEach, ReadsIf}
use Rattle.lv_bind.proofs.SpokenTerms.{IsSpokenTerm, AreSpoken}

-- whatever the rule reads of terminals of a line has the property, and terminals of a line are left
pub record Keeps {A : Type 0} (rule : Rule A) (K : A → Type 0) : Type 0 where
  pub each : (ts : List Terminal) (a : A) (rest : List Terminal) → AreSpoken ts → rule.reads ts a rest → AreSpoken rest × K a

left_by : (ts : List Terminal) (t : Terminal) (rest : List Terminal) → ts ≡ t ∷ rest → AreSpoken ts → IsSpokenTerm t × AreSpoken rest
left_by ts t rest e h = let P : List Terminal → Type 0 = λ us. AreSpoken us in subst P e h

same_rest : (ts rest : List Terminal) → rest ≡ ts → AreSpoken ts → AreSpoken rest
same_rest ts rest e h = let P : List Terminal → Type 0 = λ us. AreSpoken us in subst P (sym e) h

-- what is known of one token
abbrev pub IsOf : Class → Terminal → Type 0
IsOf class t = IsSpokenTerm t × (t.class ≡ class)

pub token_keeps : (class : Class) → Keeps (token class) (IsOf class)
token_keeps class = record { each = λ ts t rest h (e, is). let left = left_by ts t rest e h in (left.1, (left.0, is)) }

pub pure_keeps : {A : Type 0} (Q : A → Type 0) (a : A) → Q a → Keeps (pure a) Q
pure_keeps Q a q = record { each = λ ts b rest h (made, end). (same_rest ts rest end h, subst Q (sym made) q) }

pub then_keeps : {A B : Type 0} {p : Rule A} {f : A → Rule B} {P : A → Type 0} {Q : B → Type 0} → Keeps p P → ((a : A) → P a → Keeps (f a) Q) → Keeps (p >>= f) Q
then_keeps first second = record { each = λ ts b rest h (a, mid, r, s). let one = first.each ts a mid h r in (second a one.1).each mid b rest one.0 s }

-- a keyword or sign, and then this
pub word_then : {B : Type 0} {q : Rule B} {Q : B → Type 0} (class : Class) → Keeps q Q → Keeps (token class >> q) Q
word_then class more = then_keeps (token_keeps class) (λ t is. more)

-- the last part, of which something is made
pub made_keeps : {A B : Type 0} {p : Rule A} {g : A → B} {P : A → Type 0} (Q : B → Type 0) → Keeps p P → ((a : A) → P a → Q (g a)) → Keeps (g <$> p) Q
made_keeps {g = g} Q first q = then_keeps first (λ a h. pure_keeps Q (g a) (q a h))

pub or_keeps : {A : Type 0} {p q : Rule A} {Q : A → Type 0} → Keeps p Q → Keeps q Q → Keeps (p or q) Q
or_keeps {A = A} {p = p} {q = q} {Q = Q} first second = record { each = by }
  where
    by : (ts : List Terminal) (a : A) (rest : List Terminal) → AreSpoken ts → p.reads ts a rest ⊎ q.reads ts a rest → AreSpoken rest × Q a
    by ts a rest h (inl r) = first.each ts a rest h r
    by ts a rest h (inr r) = second.each ts a rest h r

pub weaker : {A : Type 0} {p : Rule A} {P : A → Type 0} (Q : A → Type 0) → Keeps p P → ((a : A) → P a → Q a) → Keeps p Q
weaker Q first q = record { each = λ ts a rest h r. let one = first.each ts a rest h r in (one.0, q a one.1) }

-- where there is something, it has the property
abbrev pub OnFound : {A : Type 0} → (A → Type 0) → Option A → Type 0
OnFound K None = Unit {0}
OnFound K (Some a) = K a

module _ {A : Type 0} {p : Rule A} {P : A → Type 0} (first : Keeps p P) where
  found_if : (ts : List Terminal) (o : Option A) (rest : List Terminal) → AreSpoken ts → ReadsIf p ts o rest → AreSpoken rest × OnFound P o
  found_if ts None rest h r = (same_rest ts rest r h, tt)
  found_if ts (Some a) rest h r = first.each ts a rest h r

  pub optional_keeps : Keeps (optional p) (OnFound P)
  optional_keeps = record { each = found_if }

-- each of them has the property
abbrev pub EachOf : {A : Type 0} → (A → Type 0) → List A → Type 0
EachOf K [] = Unit {0}
EachOf K (a ∷ more) = K a × EachOf K more

module _ {A : Type 0} {p : Rule A} {P : A → Type 0} (first : Keeps p P) where
  found_each : (ts : List Terminal) (items : List A) (rest : List Terminal) → AreSpoken ts → ReadsEach p ts items rest → AreSpoken rest × EachOf P items
  found_each ts [] rest h r = (same_rest ts rest r h, tt)
  found_each ts (a ∷ items) rest h (mid, r, others) =
      let one = first.each ts a mid h r in
      let all = found_each mid items rest one.0 others in
      (all.0, (one.1, all.1))

  pub many_keeps : Keeps (many p) (EachOf P)
  many_keeps = record { each = found_each }

-- one or more, each with the property
abbrev pub SomeOf : {A : Type 0} → (A → Type 0) → List A → Type 0
SomeOf K items = (0 < length items) × EachOf K items

pub separated_keeps : {A : Type 0} {p : Rule A} {P : A → Type 0} (class : Class) → Keeps p P → Keeps (separated class p) (SomeOf P)
separated_keeps {P = P} class first =
    then_keeps first (λ a pa. made_keeps (SomeOf P) (many_keeps (word_then class first)) (λ more each. (omega arith, (pa, each))))

pub each_of : {A : Type 0} (P Q : A → Type 0) → ((a : A) → P a → Q a) → (items : List A) → EachOf P items → EachOf Q items
each_of P Q f [] each = tt
each_of P Q f (a ∷ items) each = (f a each.0, each_of P Q f items each.1)

-- a test that each of them passes
pub all_pass : {A : Type 0} (test : A → Bool) (items : List A) → EachOf (λ a. test a ≡ true) items → list_all test items ≡ true
all_pass test [] each = refl
all_pass test (a ∷ items) each = rw each.0 (all_pass test items each.1)
