-- Where terminals have a property, what a rule reads of them has another: shown by the parts of the rule.
use Rattle.std.proofs.Common.{◌≡◌, ◌<◌, List, [], ◌∷◌, length, Option, Some, None, ◌⊎◌, inl, inr, sym, subst, arith}
use Rattle.std.specs.List.{AllByRecursion}
use Rattle.lv_lexer.specs.declared.terminals.Class.{Class}
use Rattle.lv_lexer.specs.declared.terminals.Terminal.{Terminal}
use Rattle.lv_parser.specs.Rule.{Rule, token, pure, ◌>>=◌, ◌>>◌, ◌<$>◌, ◌or◌, optional, many, separated, ReadsEach, ReadsIf}

-- Of terminals with the first property the rule reads what has the second, and it leaves terminals with the first.
pub record Keeps (I : Terminal → Type 0) {A : Type 0} (rule : Rule A) (K : A → Type 0) : Type 0 where
  pub each : (ts : List Terminal) (a : A) (rest : List Terminal) → AllByRecursion I ts → rule.reads ts a rest → AllByRecursion I rest × K a

-- what is known of one token
abbrev pub IsOf : (Terminal → Type 0) → Class → Terminal → Type 0
IsOf I class t = I t × (t.class ≡ class)

-- where there is something, it has the property
abbrev pub OnFound : {A : Type 0} → (A → Type 0) → Option A → Type 0
OnFound K None = Unit {0}
OnFound K (Some a) = K a

-- one or more, each with the property
abbrev pub SomeOf : {A : Type 0} → (A → Type 0) → List A → Type 0
SomeOf K items = (0 < length items) × AllByRecursion K items

pub each_of : {A : Type 0} (P Q : A → Type 0) → ((a : A) → P a → Q a) → (items : List A) → AllByRecursion P items → AllByRecursion Q items
each_of P Q f [] each = tt
each_of P Q f (a ∷ items) each = (f a each.0, each_of P Q f items each.1)

same_rest : (I : Terminal → Type 0) (ts rest : List Terminal) → rest ≡ ts → AllByRecursion I ts → AllByRecursion I rest
same_rest I ts rest e h = let P : List Terminal → Type 0 = λ us. AllByRecursion I us in subst P (sym e) h

module _ {I : Terminal → Type 0} where
  pub token_keeps : (class : Class) → Keeps I (token class) (IsOf I class)
  token_keeps class = record {
    each = λ ts t rest h (e, is). let P : List Terminal → Type 0 = λ us. AllByRecursion I us in let left = subst P e h in (left.1, (left.0, is));
  }

  pub pure_keeps : {A : Type 0} {Q : A → Type 0} (a : A) → Q a → Keeps I (pure a) Q
  pure_keeps {Q = Q} a q = record { each = λ ts b rest h (made, end). (same_rest I ts rest end h, subst Q (sym made) q) }

  pub then_keeps : {A B : Type 0} {p : Rule A} {f : A → Rule B} {P : A → Type 0} {Q : B → Type 0} → Keeps I p P → ((a : A) → P a → Keeps I (f a) Q) → Keeps I (p >>= f) Q
  then_keeps first second = record { each = λ ts b rest h (a, mid, r, s). let one = first.each ts a mid h r in (second a one.1).each mid b rest one.0 s }

  -- a keyword or sign, and then this
  pub word_keeps : {B : Type 0} {q : Rule B} {Q : B → Type 0} (class : Class) → Keeps I q Q → Keeps I (token class >> q) Q
  word_keeps class more = then_keeps (token_keeps class) (λ t is. more)

  -- the last part, of which something is made
  pub made_keeps : {A B : Type 0} {p : Rule A} {g : A → B} {P : A → Type 0} {Q : B → Type 0} → Keeps I p P → ((a : A) → P a → Q (g a)) → Keeps I (g <$> p) Q
  made_keeps {g = g} first q = then_keeps first (λ a h. pure_keeps (g a) (q a h))

  pub or_keeps : {A : Type 0} {p q : Rule A} {Q : A → Type 0} → Keeps I p Q → Keeps I q Q → Keeps I (p or q) Q
  or_keeps {A = A} {p = p} {q = q} {Q = Q} first second = record { each = by }
    where
      by : (ts : List Terminal) (a : A) (rest : List Terminal) → AllByRecursion I ts → p.reads ts a rest ⊎ q.reads ts a rest → AllByRecursion I rest × Q a
      by ts a rest h (inl r) = first.each ts a rest h r
      by ts a rest h (inr r) = second.each ts a rest h r

  pub weaker_keeps : {A : Type 0} {p : Rule A} {P : A → Type 0} (Q : A → Type 0) → Keeps I p P → ((a : A) → P a → Q a) → Keeps I p Q
  weaker_keeps Q first q = record { each = λ ts a rest h r. let one = first.each ts a rest h r in (one.0, q a one.1) }

  module _ {A : Type 0} {p : Rule A} {P : A → Type 0} (first : Keeps I p P) where
    found_if : (ts : List Terminal) (o : Option A) (rest : List Terminal) → AllByRecursion I ts → ReadsIf p ts o rest → AllByRecursion I rest × OnFound P o
    found_if ts None rest h r = (same_rest I ts rest r h, tt)
    found_if ts (Some a) rest h r = first.each ts a rest h r

    pub optional_keeps : Keeps I (optional p) (OnFound P)
    optional_keeps = record { each = found_if }

    found_each : (ts : List Terminal) (items : List A) (rest : List Terminal) → AllByRecursion I ts → ReadsEach p ts items rest → AllByRecursion I rest × AllByRecursion P items
    found_each ts [] rest h r = (same_rest I ts rest r h, tt)
    found_each ts (a ∷ items) rest h (mid, r, others) =
        let one = first.each ts a mid h r in
        let all = found_each mid items rest one.0 others in
        (all.0, (one.1, all.1))

    pub many_keeps : Keeps I (many p) (AllByRecursion P)
    many_keeps = record { each = found_each }

  pub separated_keeps : {A : Type 0} {p : Rule A} {P : A → Type 0} (class : Class) → Keeps I p P → Keeps I (separated class p) (SomeOf P)
  separated_keeps {P = P} class first =
      then_keeps first (λ a pa. made_keeps (many_keeps (word_keeps class first)) (λ more each. (omega arith, (pa, each))))
