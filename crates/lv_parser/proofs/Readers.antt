-- Exact readers, put together as the rules are.
use Rattle.std.proofs.Common.{◌≡◌, ℕ, Bool, true, false, ◌||◌, ◌&&◌, not, nat_eq, List, [], ◌∷◌, ◌++◌, ◌⊎◌, inl, inr, refl, sym, ◌∙◌, subst, Ok, Err}
use Rattle.std.proofs.lemmas.Bool.{eqb-true}
use Rattle.lv_lexer.specs.declared.terminals.Class.{Class}
use Rattle.lv_lexer.specs.declared.terminals.Terminal.{Terminal}
use Rattle.lv_parser.specs.Class.{code, same, member, starts}
use Rattle.lv_parser.specs.Rule.{Rule}
use Rattle.lv_parser.specs.Rule as rule
use Rattle.lv_parser.specs.Reading.{Outcome, Reader, expect, sees}
use Rattle.lv_parser.specs.Reading as reading
use Rattle.lv_parser.proofs.Exact.{Starts, Apart, joined, Begins, Exact, bind_begins, bind_exact, pure_begins, pure_exact, token_begins, token_exact, or_begins, or_exact, optional_begins, optional_exact, many_begins, many_exact}

-- The reader is exact for the rule. `first` begins it, `more` can go on behind a whole reading, `empty` says whether it can be empty.
pub record Reads {A : Type 0} (g : Rule A) (p : Reader A) (first more : List ℕ) (empty : Bool) : Type 0 where
  pub begins : Begins g first empty
  pub exact : (all : List Terminal) → Exact g more all (p all)

abbrev pub disjoint : List ℕ → List ℕ → Bool
disjoint [] ls = true
disjoint (k ∷ ks) ls = not (member k ls) && disjoint ks ls

-- a number in both
apart_2 : (n k : ℕ) (ls : List ℕ) → nat_eq n k ≡ true → not (member k ls) ≡ true → member n ls ≡ true → ⊥
apart_2 n k ls e f h =
    let q : n ≡ k = eqb-true n k e in
    let P : ℕ → Type 0 = λ x. member x ls ≡ true in
    let m : member k ls ≡ true = subst P q h in
    not_both (member k ls) f m where
      not_both : (b : Bool) → not b ≡ true → b ≡ true → ⊥
      not_both true f h = cc
      not_both false f h = cc

split_and : (a b : Bool) → (a && b) ≡ true → (a ≡ true) × (b ≡ true)
split_and true b h = (refl, h)
split_and false b h = cc

split_or : (a b : Bool) → (a || b) ≡ true → (a ≡ true) ⊎ (b ≡ true)
split_or true b h = inl refl
split_or false b h = inr h

apart_4 : (n x : ℕ) (ks ls : List ℕ) → member n ls ≡ true → (disjoint ks ls ≡ true → member n ks ≡ true → ⊥) → (not (member x ls) ≡ true) × (disjoint ks ls ≡ true)
    → (nat_eq n x ≡ true) ⊎ (member n ks ≡ true) → ⊥
apart_4 n x ks ls k later (e, f) (inl i) = apart_2 n x ls i e k
apart_4 n x ks ls k later (e, f) (inr i) = later f i

apart_3 : (n : ℕ) (ks ls : List ℕ) → disjoint ks ls ≡ true → member n ks ≡ true → member n ls ≡ true → ⊥
apart_3 n [] ls d h k = cc
apart_3 n (x ∷ ks) ls d h k =
    apart_4 n x ks ls k (λ f i. apart_3 n ks ls f i k) (split_and (not (member x ls)) (disjoint ks ls) d) (split_or (nat_eq n x) (member n ks) h)

pub apart_of : (ks ls : List ℕ) → disjoint ks ls ≡ true → Apart ks ls
apart_of ks ls d [] h k = cc
apart_of ks ls d (t ∷ all) h k = apart_3 (code t.class) ks ls d h k

module _ {A B : Type 0} {g : Rule A} {p : Reader A} {f : A → Rule B} {q : A → Reader B} {pf pm ff fm : List ℕ} {pe fe : Bool} where
  -- one after another
  pub then_reads : Reads g p pf pm pe → ((a : A) → Reads (f a) (q a) ff fm fe) → disjoint pm ff ≡ true
      → Reads (rule.◌>>=◌ g f) (reading.◌>>=◌ p q) (joined pe pf ff) (joined fe fm pm) (pe && fe)
  then_reads x y d = record {
    begins = bind_begins g f pf pm ff fm pe fe x.begins (λ a. (y a).begins) (apart_of pm ff d);
    exact = λ all. bind_exact g f pf pm ff fm pe fe x.begins (λ a. (y a).begins) (apart_of pm ff d) all (p all) q (x.exact all) (λ a mid e. (y a).exact mid);
  }

pub pure_reads : {A : Type 0} (a : A) → Reads (rule.pure a) (reading.pure a) [] [] true
pure_reads a = record { begins = pure_begins a; exact = λ all. pure_exact a all }

pub token_reads : (k : Class) → Reads (rule.token k) (expect k) (code k ∷ []) [] false
token_reads k = record { begins = token_begins k; exact = token_exact k }

-- a test of the next token
pub record Tests (test : List Terminal → Bool) (first : List ℕ) : Type 0 where
  pub is : (all : List Terminal) → test all ≡ starts first all

sees_starts : (k : Class) (all : List Terminal) → sees k all ≡ starts (code k ∷ []) all
unfolding sees same
sees_starts k [] = refl
sees_starts k (t ∷ rest) = sym (or_false (nat_eq (code t.class) (code k))) where
  or_false : (b : Bool) → (b || false) ≡ b
  or_false true = refl
  or_false false = refl

pub sees_tests : (k : Class) → Tests (sees k) (code k ∷ [])
sees_tests k = record { is = sees_starts k }

or_joined : (b x y z : Bool) → x ≡ (y || z) → (b || x) ≡ ((b || y) || z)
or_joined true x y z e = refl
or_joined false x y z e = e

member_joined : (n : ℕ) (ks ls : List ℕ) → member n (ks ++ ls) ≡ (member n ks || member n ls)
member_joined n [] ls = refl
member_joined n (k ∷ ks) ls = or_joined (nat_eq n k) _ _ _ (member_joined n ks ls)

starts_joined : (ks ls : List ℕ) (all : List Terminal) → starts (ks ++ ls) all ≡ (starts ks all || starts ls all)
starts_joined ks ls [] = refl
starts_joined ks ls (t ∷ rest) = member_joined (code t.class) ks ls

-- one test or another
pub either_tests : {a b : List Terminal → Bool} {ks ls : List ℕ} → Tests a ks → Tests b ls → Tests (λ all. a all || b all) (ks ++ ls)
either_tests {a} {b} {ks} {ls} x y = record { is = λ all. both (a all) (b all) (starts ks all) (starts ls all) (x.is all) (y.is all) ∙ sym (starts_joined ks ls all) } where
  both : (x y z w : Bool) → x ≡ z → y ≡ w → (x || y) ≡ (z || w)
  both x y z w e f = rw (e, f) refl

module _ {A : Type 0} {g : Rule A} {p : Reader A} {pf pm : List ℕ} {test : List Terminal → Bool} where
  pub or_reads : {h : Rule A} {q : Reader A} {qf qm : List ℕ} → Tests test pf → Reads g p pf pm false → Reads h q qf qm false → disjoint pf qf ≡ true
      → Reads (rule.◌or◌ g h) (reading.choice test p q) (pf ++ qf) (pm ++ qm) false
  or_reads {h} {q} {qf} {qm} w x y d = record {
    begins = or_begins g h pf pm qf qm x.begins y.begins (apart_of pf qf d);
    exact = λ all. or_exact g h pf pm qf qm x.begins y.begins (apart_of pf qf d) test w.is all p q (x.exact all) (y.exact all);
  }

  pub optional_reads : Tests test pf → Reads g p pf pm false → Reads (rule.optional g) (reading.optional test p) pf (pm ++ pf) true
  optional_reads w x = record { begins = optional_begins g pf pm x.begins; exact = λ all. optional_exact g pf pm x.begins all test w.is p (x.exact all) }

  pub many_reads : Tests test pf → Reads g p pf pm false → disjoint pm pf ≡ true → Reads (rule.many g) (reading.many test p) pf (pm ++ pf) true
  many_reads w x d = record { begins = many_begins g pf pm x.begins (apart_of pm pf d); exact = many_exact g pf pm x.begins (apart_of pm pf d) p x.exact test w.is }

-- another reader that gives the same
pub as_reads : {A : Type 0} {g : Rule A} {p q : Reader A} {first more : List ℕ} {empty : Bool} → Reads g p first more empty → ((all : List Terminal) → p all ≡ q all) → Reads g q first more empty
as_reads {A} {g} {p} {q} {first} {more} {empty} x e = record {
  begins = x.begins;
  exact = λ all. (let P : Outcome A → Type 0 = λ o. Exact g more all o in subst P (e all) (x.exact all));
}

abbrev pub subset : List ℕ → List ℕ → Bool
subset [] ls = true
subset (k ∷ ks) ls = member k ls && subset ks ls

within_2 : (n x : ℕ) (ks ls : List ℕ) → (subset ks ls ≡ true → member n ks ≡ true → member n ls ≡ true) → (member x ls ≡ true) × (subset ks ls ≡ true)
    → (nat_eq n x ≡ true) ⊎ (member n ks ≡ true) → member n ls ≡ true
within_2 n x ks ls later (e, f) (inl i) =
    let q : n ≡ x = eqb-true n x i in
    let P : ℕ → Type 0 = λ y. member y ls ≡ true in
    subst P (sym q) e
within_2 n x ks ls later (e, f) (inr i) = later f i

within_1 : (n : ℕ) (ks ls : List ℕ) → subset ks ls ≡ true → member n ks ≡ true → member n ls ≡ true
within_1 n [] ls d h = cc
within_1 n (x ∷ ks) ls d h = within_2 n x ks ls (λ f i. within_1 n ks ls f i) (split_and (member x ls) (subset ks ls) d) (split_or (nat_eq n x) (member n ks) h)

pub starts_within : (ks ls : List ℕ) → subset ks ls ≡ true → (all : List Terminal) → Starts ks all → Starts ls all
starts_within ks ls d [] h = cc
starts_within ks ls d (t ∷ all) h = within_1 (code t.class) ks ls d h

right_wider : {S T U : Type 0} → (T → U) → S ⊎ T → S ⊎ U
right_wider f (inl s) = inl s
right_wider f (inr t) = inr (f t)

left_wider : {S T U : Type 0} → (S → U) → S ⊎ T → U ⊎ T
left_wider f (inl s) = inl (f s)
left_wider f (inr t) = inr t

exact_wider : {A : Type 0} (g : Rule A) (ks ls : List ℕ) → subset ks ls ≡ true → (all : List Terminal) (o : Outcome A) → Exact g ks all o → Exact g ls all o
exact_wider g ks ls d all (Ok (a, rest)) x = record { halts = x.halts; reads = x.reads; only = λ b r h. left_wider (starts_within ks ls d r) (x.only b r h) }
exact_wider g ks ls d all (Err rest) x = record { halts = x.halts; none = λ b r h. starts_within ks ls d r (x.none b r h) }

-- with larger sets
pub wider_reads : {A : Type 0} {g : Rule A} {p : Reader A} {first more : List ℕ} {empty : Bool} (first' more' : List ℕ) → Reads g p first more empty
    → subset first first' ≡ true → subset more more' ≡ true → Reads g p first' more' empty
wider_reads {A} {g} {p} {first} {more} {empty} first' more' x d e = record {
  begins = record {
    front = λ all r h. right_wider (starts_within first first' d all) (x.begins.front all r h);
    reads = λ all a r h. right_wider (starts_within first first' d all) (x.begins.reads all a r h);
    whole = x.begins.whole;
    within = x.begins.within;
    takes = x.begins.takes;
  };
  exact = λ all. exact_wider g more more' e all (p all) (x.exact all);
}
