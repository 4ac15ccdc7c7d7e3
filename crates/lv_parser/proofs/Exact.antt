-- A reader is exact for a rule where it finds the one reading that the next token doesn't go on with, and else stops at the first token that can't stand.
use Rattle.std.proofs.Common.{◌≡◌, ℕ, zero, suc, ◌≤◌, ◌<◌, Bool, true, false, ◌||◌, ◌&&◌, nat_eq, List, [], ◌∷◌, ◌++◌, length, ◌⊎◌, inl, inr, refl, sym, ap, ◌∙◌, subst, arith, Ok, Err, Option, Some, None, if◌then◌else◌}
use Rattle.lv_lexer.specs.declared.terminals.Class.{Class}
use Rattle.lv_lexer.specs.declared.terminals.Terminal.{Terminal}
use Rattle.lv_parser.specs.Class.{code, same, member, starts}
use Rattle.lv_parser.specs.Rule.{Rule, ReadsEach, ReadsIf}
use Rattle.lv_parser.specs.Rule as rule
use Rattle.lv_parser.specs.Fault.{IsEnd}
use Rattle.lv_parser.specs.Reading.{Outcome, Reader, and_then, expect, choose, many_from}
use Rattle.lv_parser.specs.Reading as reading
use Rattle.lv_parser.proofs.Ends.{end_refl, end_trans, end_total, end_at, end_anti, length-end}
use Rattle.std.proofs.lemmas.List.{append_assoc, append-nil}
use Rattle.lv_parser.proofs.Classes.{same_class, same-refl}

-- ---- sets of classes

abbrev pub Starts : List ℕ → List Terminal → Type 0
Starts ks all = starts ks all ≡ true

abbrev pub Apart : List ℕ → List ℕ → Type 0
Apart ks ls = (all : List Terminal) → Starts ks all → Starts ls all → ⊥

abbrev pub joined : Bool → List ℕ → List ℕ → List ℕ
joined true xs ys = xs ++ ys
joined false xs ys = xs

-- ---- what a rule begins with

pub record Begins {A : Type 0} (g : Rule A) (first : List ℕ) (empty : Bool) : Type 0 where
  pub front : (all rest : List Terminal) → g.front all rest → (rest ≡ all) ⊎ Starts first all
  pub reads : (all : List Terminal) (a : A) (rest : List Terminal) → g.reads all a rest → ((rest ≡ all) × (empty ≡ true)) ⊎ Starts first all
  pub whole : (all : List Terminal) (a : A) (rest : List Terminal) → g.reads all a rest → g.front all rest
  pub within : (all rest : List Terminal) → g.front all rest → IsEnd rest all
  pub takes : (all : List Terminal) (a : A) (rest : List Terminal) → empty ≡ false → g.reads all a rest → length rest < length all

-- ---- what a reader finds

-- the fronts are the places from the start to here
pub record Halts {A : Type 0} (g : Rule A) (all rest : List Terminal) : Type 0 where
  pub within : IsEnd rest all
  pub last : (r : List Terminal) → g.front all r → IsEnd rest r
  pub each : (r : List Terminal) → IsEnd rest r → IsEnd r all → g.front all r

pub record Found {A : Type 0} (g : Rule A) (more : List ℕ) (all : List Terminal) (a : A) (rest : List Terminal) : Type 0 where
  pub halts : Halts g all rest
  pub reads : g.reads all a rest
  -- another reading is one that the next token goes on with
  pub only : (b : A) (r : List Terminal) → g.reads all b r → Starts more r ⊎ ((b ≡ a) × (r ≡ rest))

pub record Fails {A : Type 0} (g : Rule A) (more : List ℕ) (all rest : List Terminal) : Type 0 where
  pub halts : Halts g all rest
  pub none : (b : A) (r : List Terminal) → g.reads all b r → Starts more r

abbrev pub Exact : {A : Type 0} → Rule A → List ℕ → List Terminal → Outcome A → Type 0
Exact g more all (Ok p) = Found g more all p.0 p.1
Exact g more all (Err rest) = Fails g more all rest

-- ---- sets joined

or_left : (a b c : Bool) → (b ≡ true → c ≡ true) → (a || b) ≡ true → (a || c) ≡ true
or_left true b c f h = refl
or_left false b c f h = f h

or_right : (a b : Bool) → b ≡ true → (a || b) ≡ true
or_right true b h = refl
or_right false b h = h

both : (a b : Bool) → a ≡ true → b ≡ true → (a && b) ≡ true
both true b h k = k
both false b h k = h

flip : {S T : Type 0} → S ⊎ T → T ⊎ S
flip (inl s) = inr s
flip (inr t) = inl t

wider : {S T U : Type 0} (r : List Terminal) → (S → T) → S ⊎ U → T ⊎ U
wider r f (inl s) = inl (f s)
wider r f (inr u) = inr u

pub member_left : (n : ℕ) (xs ys : List ℕ) → member n xs ≡ true → member n (xs ++ ys) ≡ true
member_left n [] ys h = cc
member_left n (x ∷ xs) ys h = or_left (nat_eq n x) (member n xs) (member n (xs ++ ys)) (member_left n xs ys) h

pub member_right : (n : ℕ) (xs ys : List ℕ) → member n ys ≡ true → member n (xs ++ ys) ≡ true
member_right n [] ys h = h
member_right n (x ∷ xs) ys h = or_right (nat_eq n x) (member n (xs ++ ys)) (member_right n xs ys h)

pub starts_left : (xs ys : List ℕ) (all : List Terminal) → Starts xs all → Starts (xs ++ ys) all
starts_left xs ys [] h = h
starts_left xs ys (t ∷ all) h = member_left (code t.class) xs ys h

pub starts_right : (xs ys : List ℕ) (all : List Terminal) → Starts ys all → Starts (xs ++ ys) all
starts_right xs ys [] h = h
starts_right xs ys (t ∷ all) h = member_right (code t.class) xs ys h

pub joined_left : (e : Bool) (xs ys : List ℕ) (all : List Terminal) → Starts xs all → Starts (joined e xs ys) all
joined_left true xs ys all h = starts_left xs ys all h
joined_left false xs ys all h = h

pub joined_right : (e : Bool) (xs ys : List ℕ) (all : List Terminal) → e ≡ true → Starts ys all → Starts (joined e xs ys) all
joined_right true xs ys all e h = starts_right xs ys all h
joined_right false xs ys all e h = cc

pub moved : (ks : List ℕ) (a b : List Terminal) → a ≡ b → Starts ks a → Starts ks b
moved ks a b e h = let P : List Terminal → Type 0 = λ x. Starts ks x in subst P e h

some_takes : (pe fe : Bool) (a m r : ℕ) → (pe && fe) ≡ false → (pe ≡ false → m < a) → (fe ≡ false → r < m) → m ≤ a → r ≤ m → r < a
some_takes true fe a m r e first second h k = let l : r < m = second e in omega arith
some_takes false fe a m r e first second h k = let l : m < a = first refl in omega arith

-- ---- one rule after another

module _ {A B : Type 0} (p : Rule A) (f : A → Rule B) (pf pm ff fm : List ℕ) (pe fe : Bool)
    (pb : Begins p pf pe) (fb : (a : A) → Begins (f a) ff fe) (apart : Apart pm ff) where
  bind_front_3 : (all m r : List Terminal) → m ≡ all → pe ≡ true → (r ≡ m) ⊎ Starts ff m → (r ≡ all) ⊎ Starts (joined pe pf ff) all
  bind_front_3 all m r e y (inl q) = inl (q ∙ e)
  bind_front_3 all m r e y (inr s) = inr (joined_right pe pf ff all y (moved ff m all e s))

  bind_front_2 : (all m r : List Terminal) (a : A) → (f a).front m r → ((m ≡ all) × (pe ≡ true)) ⊎ Starts pf all → (r ≡ all) ⊎ Starts (joined pe pf ff) all
  bind_front_2 all m r a h (inr s) = inr (joined_left pe pf ff all s)
  bind_front_2 all m r a h (inl (e, y)) = bind_front_3 all m r e y ((fb a).front m r h)

  bind_front_1 : (all r : List Terminal) → (r ≡ all) ⊎ Starts pf all → (r ≡ all) ⊎ Starts (joined pe pf ff) all
  bind_front_1 all r (inl e) = inl e
  bind_front_1 all r (inr s) = inr (joined_left pe pf ff all s)

  bind_front : (all r : List Terminal) → (rule.◌>>=◌ p f).front all r → (r ≡ all) ⊎ Starts (joined pe pf ff) all
  bind_front all r (inl h) = bind_front_1 all r (pb.front all r h)
  bind_front all r (inr (a, m, h, k)) = bind_front_2 all m r a k (pb.reads all a m h)

  bind_reads_3 : (all m r : List Terminal) → m ≡ all → pe ≡ true → ((r ≡ m) × (fe ≡ true)) ⊎ Starts ff m → ((r ≡ all) × ((pe && fe) ≡ true)) ⊎ Starts (joined pe pf ff) all
  bind_reads_3 all m r e y (inl (q, z)) = inl (q ∙ e, both pe fe y z)
  bind_reads_3 all m r e y (inr s) = inr (joined_right pe pf ff all y (moved ff m all e s))

  bind_reads_2 : (all m r : List Terminal) (a : A) (b : B) → (f a).reads m b r → ((m ≡ all) × (pe ≡ true)) ⊎ Starts pf all → ((r ≡ all) × ((pe && fe) ≡ true)) ⊎ Starts (joined pe pf ff) all
  bind_reads_2 all m r a b h (inr s) = inr (joined_left pe pf ff all s)
  bind_reads_2 all m r a b h (inl (e, y)) = bind_reads_3 all m r e y ((fb a).reads m b r h)

  bind_within : (all r : List Terminal) → (rule.◌>>=◌ p f).front all r → IsEnd r all
  bind_within all r (inl h) = pb.within all r h
  bind_within all r (inr (a, m, h, k)) = end_trans r m all ((fb a).within m r k) (pb.within all m (pb.whole all a m h))

  bind_takes : (all : List Terminal) (b : B) (r : List Terminal) → (pe && fe) ≡ false → (rule.◌>>=◌ p f).reads all b r → length r < length all
  bind_takes all b r e (a, m, h, k) =
      some_takes pe fe (length all) (length m) (length r) e (λ y. pb.takes all a m y h) (λ y. (fb a).takes m b r y k)
      (length-end m all (pb.within all m (pb.whole all a m h))) (length-end r m ((fb a).within m r ((fb a).whole m b r k)))

  pub bind_begins : Begins (rule.◌>>=◌ p f) (joined pe pf ff) (pe && fe)
  bind_begins = record {
    front = bind_front;
    reads = λ all b r (a, m, h, k). bind_reads_2 all m r a b k (pb.reads all a m h);
    whole = λ all b r (a, m, h, k). inr (a, m, h, (fb a).whole m b r k);
    within = bind_within;
    takes = bind_takes;
  }

  -- a front behind a reading that the next token goes on with
  stays : (m r : List Terminal) → Starts pm m → (r ≡ m) ⊎ Starts ff m → r ≡ m
  stays m r go (inl e) = e
  stays m r go (inr s) = absurd (apart m go s)

  stays_empty : (m r : List Terminal) → Starts pm m → ((r ≡ m) × (fe ≡ true)) ⊎ Starts ff m → Starts (joined fe fm pm) r
  stays_empty m r go (inl (e, y)) = joined_right fe fm pm r y (moved pm m r (sym e) go)
  stays_empty m r go (inr s) = absurd (apart m go s)

  -- such a front is one of p
  goes_on : (all m r rest : List Terminal) (a : A) → Halts p all rest → p.reads all a m → Starts pm m → (f a).front m r → IsEnd rest r
  goes_on all m r rest a halts h go k =
      let e : r ≡ m = stays m r go ((fb a).front m r k) in end_at rest m r (sym e) (halts.last m (pb.whole all a m h))

  module _ (all mid rest : List Terminal) (a : A) (found : Found p pm all a mid) (halts : Halts (f a) mid rest) where
    then_last_2 : (b : A) (m r : List Terminal) → p.reads all b m → (f b).front m r → Starts pm m ⊎ ((b ≡ a) × (m ≡ mid)) → IsEnd rest r
    then_last_2 b m r h k (inl go) = end_trans rest mid r halts.within (goes_on all m r mid b found.halts h go k)
    then_last_2 b m r h k (inr (e, q)) =
        let P : A → List Terminal → Type 0 = λ x y. (f x).front y r in
        let Q : List Terminal → Type 0 = λ y. (f a).front y r in
        let R : A → Type 0 = λ x. (f x).front m r in
        halts.last r (subst Q q (subst R e k))

    then_last : (r : List Terminal) → (rule.◌>>=◌ p f).front all r → IsEnd rest r
    then_last r (inl h) = end_trans rest mid r halts.within (found.halts.last r h)
    then_last r (inr (b, m, h, k)) = then_last_2 b m r h k (found.only b m h)

    then_each_2 : (r : List Terminal) → IsEnd rest r → IsEnd r all → IsEnd mid r ⊎ IsEnd r mid → (rule.◌>>=◌ p f).front all r
    then_each_2 r h k (inl e) = inl (found.halts.each r e k)
    then_each_2 r h k (inr e) = inr (a, mid, found.reads, halts.each r h e)

    then_halts : Halts (rule.◌>>=◌ p f) all rest
    then_halts = record {
      within = end_trans rest mid all halts.within found.halts.within;
      last = then_last;
      each = λ r h k. then_each_2 r h k (end_total mid r all found.halts.within k);
    }

  module _ (all mid : List Terminal) (a : A) (found : Found p pm all a mid) where
    found_only_2 : (rest : List Terminal) (c : B) → Found (f a) fm mid c rest → (d : B) (r : List Terminal) (b : A) (m : List Terminal) → p.reads all b m → (f b).reads m d r
        → Starts pm m ⊎ ((b ≡ a) × (m ≡ mid)) → Starts (joined fe fm pm) r ⊎ ((d ≡ c) × (r ≡ rest))
    found_only_2 rest c more d r b m h k (inl go) = inl (stays_empty m r go ((fb b).reads m d r k))
    found_only_2 rest c more d r b m h k (inr (e, q)) =
        let Q : List Terminal → Type 0 = λ y. (f a).reads y d r in
        let R : A → Type 0 = λ x. (f x).reads m d r in
        wider r (joined_left fe fm pm r) (more.only d r (subst Q q (subst R e k)))

    fails_none_2 : (rest : List Terminal) → Fails (f a) fm mid rest → (d : B) (r : List Terminal) (b : A) (m : List Terminal) → p.reads all b m → (f b).reads m d r
        → Starts pm m ⊎ ((b ≡ a) × (m ≡ mid)) → Starts (joined fe fm pm) r
    fails_none_2 rest more d r b m h k (inl go) = stays_empty m r go ((fb b).reads m d r k)
    fails_none_2 rest more d r b m h k (inr (e, q)) =
        let Q : List Terminal → Type 0 = λ y. (f a).reads y d r in
        let R : A → Type 0 = λ x. (f x).reads m d r in
        joined_left fe fm pm r (more.none d r (subst Q q (subst R e k)))

    then_exact : (o : Outcome B) → Exact (f a) fm mid o → Exact (rule.◌>>=◌ p f) (joined fe fm pm) all o
    then_exact (Ok (c, rest)) more = record {
      halts = then_halts all mid rest a found more.halts;
      reads = (a, mid, found.reads, more.reads);
      only = λ d r (b, m, h, k). found_only_2 rest c more d r b m h k (found.only b m h);
    }
    then_exact (Err rest) more = record {
      halts = then_halts all mid rest a found more.halts;
      none = λ d r (b, m, h, k). fails_none_2 rest more d r b m h k (found.only b m h);
    }

  module _ (all rest : List Terminal) (fails : Fails p pm all rest) where
    stop_last : (r : List Terminal) → (rule.◌>>=◌ p f).front all r → IsEnd rest r
    stop_last r (inl h) = fails.halts.last r h
    stop_last r (inr (b, m, h, k)) = goes_on all m r rest b fails.halts h (fails.none b m h) k

    stop_exact : Fails (rule.◌>>=◌ p f) (joined fe fm pm) all rest
    stop_exact = record {
      halts = record {
        within = fails.halts.within;
        last = stop_last;
        each = λ r h k. inl (fails.halts.each r h k);
      };
      none = λ d r (b, m, h, k). stays_empty m r (fails.none b m h) ((fb b).reads m d r k);
    }

  pub bind_exact : (all : List Terminal) (o : Outcome A) (next : A → Reader B) → Exact p pm all o
      → ((a : A) (mid : List Terminal) → o ≡ Ok (a, mid) → Exact (f a) fm mid (next a mid)) → Exact (rule.◌>>=◌ p f) (joined fe fm pm) all (and_then o next)
  bind_exact all (Ok (a, mid)) next found more = then_exact all mid a found (next a mid) (more a mid refl)
  bind_exact all (Err rest) next fails more = stop_exact all rest fails

-- ---- nothing

pub pure_begins : {A : Type 0} (a : A) → Begins (rule.pure a) [] true
pure_begins a = record {
  front = λ all r e. inl e;
  reads = λ all b r (e, q). inl (q, refl);
  whole = λ all b r (e, q). q;
  within = λ all r e. end_at r r all e (end_refl r);
  takes = λ all b r n h. cc;
}

pub pure_exact : {A : Type 0} (a : A) (all : List Terminal) → Exact (rule.pure a) [] all (Ok (a, all))
pure_exact a all = record {
  halts = record {
    within = end_refl all;
    last = λ r e. end_at all all r (sym e) (end_refl all);
    each = λ r h k. end_anti r all k h;
  };
  reads = (refl, refl);
  only = λ b r (e, q). inr (e, q);
}

-- ---- a token

or_is : (a b : Bool) → a ≡ true → (a || b) ≡ true
or_is true b h = refl
or_is false b h = cc

token_starts : (k : Class) (all r : List Terminal) (t : Terminal) → all ≡ t ∷ r → t.class ≡ k → Starts (code k ∷ []) all
unfolding same
token_starts k all r t e q = moved (code k ∷ []) (t ∷ r) all (sym e) (or_is _ false (same-refl t.class k q))

token_front : (k : Class) (all r : List Terminal) → (rule.token k).front all r → (r ≡ all) ⊎ Starts (code k ∷ []) all
token_front k all r (inl e) = inl e
token_front k all r (inr (t, e, q)) = inr (token_starts k all r t e q)

token_within : (k : Class) (all r : List Terminal) → (rule.token k).front all r → IsEnd r all
token_within k all r (inl e) = end_at r r all e (end_refl r)
token_within k all r (inr (t, e, q)) = end_at r (t ∷ r) all (sym e) (inr (end_refl r))

pub token_begins : (k : Class) → Begins (rule.token k) (code k ∷ []) false
token_begins k = record {
  front = token_front k;
  reads = λ all t r (e, q). inr (token_starts k all r t e q);
  whole = λ all t r (e, q). inr (t, e, q);
  within = token_within k;
  takes = λ all t r n (e, q). (let l : length all ≡ length (t ∷ r) = ap length e in omega arith);
}

token_end : (k : Class) → Exact (rule.token k) [] [] (Err [])
token_end k = record {
  halts = record {
    within = refl;
    last = token_end_last;
    each = λ r h e. inl e;
  };
  none = λ t r (e, q). cc;
} where
  token_end_last : (r : List Terminal) → (rule.token k).front [] r → IsEnd [] r
  token_end_last r (inl e) = end_at [] [] r (sym e) refl
  token_end_last r (inr (t, e, q)) = cc

module _ (k : Class) (t : Terminal) (rest : List Terminal) where
  token_last : (r : List Terminal) → (rule.token k).front (t ∷ rest) r → IsEnd rest r
  token_last r (inl e) = end_at rest (t ∷ rest) r (sym e) (inr (end_refl rest))
  token_last r (inr (u, e, q)) = let p : rest ≡ r = cc in end_at rest rest r p (end_refl rest)

  token_each : t.class ≡ k → (r : List Terminal) → IsEnd rest r → IsEnd r (t ∷ rest) → (rule.token k).front (t ∷ rest) r
  token_each c r h (inl e) = inl e
  token_each c r h (inr i) = let e : r ≡ rest = end_anti r rest i h in inr (t, cc, c)

  other_last : (t.class ≡ k → ⊥) → (r : List Terminal) → (rule.token k).front (t ∷ rest) r → IsEnd (t ∷ rest) r
  other_last bar r (inl e) = end_at (t ∷ rest) (t ∷ rest) r (sym e) (end_refl (t ∷ rest))
  other_last bar r (inr (u, e, q)) = let p : t ≡ u = cc in let c : t.class ≡ k = cc in absurd (bar c)

  token_at : (b : Bool) → (b ≡ true → t.class ≡ k) → (t.class ≡ k → b ≡ true) → Exact (rule.token k) [] (t ∷ rest) (if b then Ok (t, rest) else Err (t ∷ rest))
  token_at true is back = record {
    halts = record {
      within = inr (end_refl rest);
      last = token_last;
      each = token_each (is refl);
    };
    reads = (refl, is refl);
    only = λ u r (e, q). inr (cc, cc);
  }
  token_at false is back = record {
    halts = record {
      within = inl refl;
      last = other_last (λ c. let e : false ≡ true = back c in cc);
      each = λ r h i. inl (end_anti r (t ∷ rest) i h);
    };
    none = λ u r (e, q). let c : t.class ≡ k = cc in let f : false ≡ true = back c in cc;
  }

pub token_exact : (k : Class) (all : List Terminal) → Exact (rule.token k) [] all (expect k all)
unfolding expect
token_exact k [] = token_end k
token_exact k (t ∷ rest) = token_at k t rest (same t.class k) (same_class t.class k) (same-refl t.class k)

-- ---- a choice

module _ {A : Type 0} (p q : Rule A) (pm qm : List ℕ) (all : List Terminal) where
  left_last : (rest : List Terminal) → Halts p all rest → ((r : List Terminal) → q.front all r → r ≡ all) → (r : List Terminal) → (rule.◌or◌ p q).front all r → IsEnd rest r
  left_last rest halts bar r (inl h) = halts.last r h
  left_last rest halts bar r (inr h) = end_at rest all r (sym (bar r h)) halts.within

  right_last : (rest : List Terminal) → Halts q all rest → ((r : List Terminal) → p.front all r → r ≡ all) → (r : List Terminal) → (rule.◌or◌ p q).front all r → IsEnd rest r
  right_last rest halts bar r (inl h) = end_at rest all r (sym (bar r h)) halts.within
  right_last rest halts bar r (inr h) = halts.last r h

  left_only : (a : A) (rest : List Terminal) → Found p pm all a rest → ((b : A) (r : List Terminal) → q.reads all b r → ⊥) → (b : A) (r : List Terminal) → (rule.◌or◌ p q).reads all b r
      → Starts (pm ++ qm) r ⊎ ((b ≡ a) × (r ≡ rest))
  left_only a rest found bar b r (inl h) = wider r (starts_left pm qm r) (found.only b r h)
  left_only a rest found bar b r (inr h) = absurd (bar b r h)

  right_only : (a : A) (rest : List Terminal) → Found q qm all a rest → ((b : A) (r : List Terminal) → p.reads all b r → ⊥) → (b : A) (r : List Terminal) → (rule.◌or◌ p q).reads all b r
      → Starts (pm ++ qm) r ⊎ ((b ≡ a) × (r ≡ rest))
  right_only a rest found bar b r (inl h) = absurd (bar b r h)
  right_only a rest found bar b r (inr h) = wider r (starts_right pm qm r) (found.only b r h)

  left_none : (rest : List Terminal) → Fails p pm all rest → ((b : A) (r : List Terminal) → q.reads all b r → ⊥) → (b : A) (r : List Terminal) → (rule.◌or◌ p q).reads all b r → Starts (pm ++ qm) r
  left_none rest fails bar b r (inl h) = starts_left pm qm r (fails.none b r h)
  left_none rest fails bar b r (inr h) = absurd (bar b r h)

  right_none : (rest : List Terminal) → Fails q qm all rest → ((b : A) (r : List Terminal) → p.reads all b r → ⊥) → (b : A) (r : List Terminal) → (rule.◌or◌ p q).reads all b r → Starts (pm ++ qm) r
  right_none rest fails bar b r (inl h) = absurd (bar b r h)
  right_none rest fails bar b r (inr h) = starts_right pm qm r (fails.none b r h)

  left_exact : (o : Outcome A) → Exact p pm all o → ((r : List Terminal) → q.front all r → r ≡ all) → ((b : A) (r : List Terminal) → q.reads all b r → ⊥) → Exact (rule.◌or◌ p q) (pm ++ qm) all o
  left_exact (Ok (a, rest)) found bar never = record {
    halts = record { within = found.halts.within; last = left_last rest found.halts bar; each = λ r h k. inl (found.halts.each r h k) };
    reads = inl found.reads;
    only = left_only a rest found never;
  }
  left_exact (Err rest) fails bar never = record {
    halts = record { within = fails.halts.within; last = left_last rest fails.halts bar; each = λ r h k. inl (fails.halts.each r h k) };
    none = left_none rest fails never;
  }

  right_exact : (o : Outcome A) → Exact q qm all o → ((r : List Terminal) → p.front all r → r ≡ all) → ((b : A) (r : List Terminal) → p.reads all b r → ⊥) → Exact (rule.◌or◌ p q) (pm ++ qm) all o
  right_exact (Ok (a, rest)) found bar never = record {
    halts = record { within = found.halts.within; last = right_last rest found.halts bar; each = λ r h k. inr (found.halts.each r h k) };
    reads = inr found.reads;
    only = right_only a rest found never;
  }
  right_exact (Err rest) fails bar never = record {
    halts = record { within = fails.halts.within; last = right_last rest fails.halts bar; each = λ r h k. inr (fails.halts.each r h k) };
    none = right_none rest fails never;
  }

-- a rule that another class begins reads nothing here
module _ {A : Type 0} (p : Rule A) (pf : List ℕ) (pb : Begins p pf false) (all : List Terminal) (bar : Starts pf all → ⊥) where
  unread_front_2 : (r : List Terminal) → (r ≡ all) ⊎ Starts pf all → r ≡ all
  unread_front_2 r (inl e) = e
  unread_front_2 r (inr s) = absurd (bar s)

  pub unread_front : (r : List Terminal) → p.front all r → r ≡ all
  unread_front r h = unread_front_2 r (pb.front all r h)

  unread_2 : (r : List Terminal) → ((r ≡ all) × (false ≡ true)) ⊎ Starts pf all → ⊥
  unread_2 r (inl (e, q)) = cc
  unread_2 r (inr s) = bar s

  pub unread : (b : A) (r : List Terminal) → p.reads all b r → ⊥
  unread b r h = unread_2 r (pb.reads all b r h)

module _ {A : Type 0} (p q : Rule A) (pf pm qf qm : List ℕ) (pb : Begins p pf false) (qb : Begins q qf false) (apart : Apart pf qf) where
  or_front : (all r : List Terminal) → (rule.◌or◌ p q).front all r → (r ≡ all) ⊎ Starts (pf ++ qf) all
  or_front all r (inl h) = flip (wider all (starts_left pf qf all) (flip (pb.front all r h)))
  or_front all r (inr h) = flip (wider all (starts_right pf qf all) (flip (qb.front all r h)))

  or_reads : (all : List Terminal) (a : A) (r : List Terminal) → (rule.◌or◌ p q).reads all a r → ((r ≡ all) × (false ≡ true)) ⊎ Starts (pf ++ qf) all
  or_reads all a r (inl h) = flip (wider all (starts_left pf qf all) (flip (pb.reads all a r h)))
  or_reads all a r (inr h) = flip (wider all (starts_right pf qf all) (flip (qb.reads all a r h)))

  or_whole : (all : List Terminal) (a : A) (r : List Terminal) → (rule.◌or◌ p q).reads all a r → (rule.◌or◌ p q).front all r
  or_whole all a r (inl h) = inl (pb.whole all a r h)
  or_whole all a r (inr h) = inr (qb.whole all a r h)

  or_within : (all r : List Terminal) → (rule.◌or◌ p q).front all r → IsEnd r all
  or_within all r (inl h) = pb.within all r h
  or_within all r (inr h) = qb.within all r h

  or_takes : (all : List Terminal) (a : A) (r : List Terminal) → (rule.◌or◌ p q).reads all a r → length r < length all
  or_takes all a r (inl h) = pb.takes all a r refl h
  or_takes all a r (inr h) = qb.takes all a r refl h

  pub or_begins : Begins (rule.◌or◌ p q) (pf ++ qf) false
  or_begins = record { front = or_front; reads = or_reads; whole = or_whole; within = or_within; takes = λ all a r e h. or_takes all a r h }

  or_at : (all : List Terminal) (rp rq : Reader A) (b : Bool) → (b ≡ true → Starts pf all) → (Starts pf all → b ≡ true) → Exact p pm all (rp all) → Exact q qm all (rq all)
      → Exact (rule.◌or◌ p q) (pm ++ qm) all (choose b rp rq all)
  or_at all rp rq true is back pe qe =
      let bar : Starts qf all → ⊥ = λ s. apart all (is refl) s in
      left_exact p q pm qm all (rp all) pe (unread_front q qf qb all bar) (unread q qf qb all bar)
  or_at all rp rq false is back pe qe =
      let bar : Starts pf all → ⊥ = λ s. (let e : false ≡ true = back s in cc) in
      right_exact p q pm qm all (rq all) qe (unread_front p pf pb all bar) (unread p pf pb all bar)

  pub or_exact : (test : List Terminal → Bool) → ((all : List Terminal) → test all ≡ starts pf all) → (all : List Terminal) (rp rq : Reader A) → Exact p pm all (rp all) → Exact q qm all (rq all)
      → Exact (rule.◌or◌ p q) (pm ++ qm) all (reading.choice test rp rq all)
  or_exact test is all rp rq pe qe = or_at all rp rq (test all) (λ e. sym (is all) ∙ e) (λ e. is all ∙ e) pe qe

-- ---- an optional part

module _ {A : Type 0} (p : Rule A) (pf pm : List ℕ) (pb : Begins p pf false) where
  optional_front : (all r : List Terminal) → (rule.optional p).front all r → (r ≡ all) ⊎ Starts pf all
  optional_front all r (inl e) = inl e
  optional_front all r (inr h) = pb.front all r h

  pub begun : (all : List Terminal) (a : A) (r : List Terminal) → p.reads all a r → Starts pf all
  begun all a r h = begun_2 (pb.reads all a r h) where
    begun_2 : ((r ≡ all) × (false ≡ true)) ⊎ Starts pf all → Starts pf all
    begun_2 (inl (e, q)) = cc
    begun_2 (inr s) = s

  optional_reads : (all : List Terminal) (a : Option A) (r : List Terminal) → ReadsIf p all a r → ((r ≡ all) × (true ≡ true)) ⊎ Starts pf all
  optional_reads all None r h = inl (h, refl)
  optional_reads all (Some a) r h = inr (begun all a r h)

  optional_whole : (all : List Terminal) (a : Option A) (r : List Terminal) → ReadsIf p all a r → (rule.optional p).front all r
  optional_whole all None r h = inl h
  optional_whole all (Some a) r h = inr (pb.whole all a r h)

  optional_within : (all r : List Terminal) → (rule.optional p).front all r → IsEnd r all
  optional_within all r (inl e) = end_at r r all e (end_refl r)
  optional_within all r (inr h) = pb.within all r h

  pub optional_begins : Begins (rule.optional p) pf true
  optional_begins = record { front = optional_front; reads = optional_reads; whole = optional_whole; within = optional_within; takes = λ all a r e h. cc }

  module _ (all : List Terminal) where
    optional_last : (rest r : List Terminal) → Halts p all rest → (rule.optional p).front all r → IsEnd rest r
    optional_last rest r halts (inl e) = end_at rest all r (sym e) halts.within
    optional_last rest r halts (inr h) = halts.last r h

    some_eq : (a b : A) (r rest : List Terminal) → (b ≡ a) × (r ≡ rest) → (Some b ≡ Some a) × (r ≡ rest)
    some_eq a b r rest (e, q) = (ap Some e, q)

    some_only : Starts pf all → (a : A) (rest : List Terminal) → Found p pm all a rest → (b : Option A) (r : List Terminal) → ReadsIf p all b r → Starts (pm ++ pf) r ⊎ ((b ≡ Some a) × (r ≡ rest))
    some_only go a rest found None r h = inl (starts_right pm pf r (moved pf all r (sym h) go))
    some_only go a rest found (Some b) r h = flip (wider r (some_eq a b r rest) (flip (wider r (starts_left pm pf r) (found.only b r h))))

    some_none : Starts pf all → (rest : List Terminal) → Fails p pm all rest → (b : Option A) (r : List Terminal) → ReadsIf p all b r → Starts (pm ++ pf) r
    some_none go rest fails None r h = starts_right pm pf r (moved pf all r (sym h) go)
    some_none go rest fails (Some b) r h = starts_left pm pf r (fails.none b r h)

    absent_last : (Starts pf all → ⊥) → (r : List Terminal) → (rule.optional p).front all r → IsEnd all r
    absent_last bar r (inl e) = end_at all all r (sym e) (end_refl all)
    absent_last bar r (inr h) = end_at all all r (sym (unread_front p pf pb all bar r h)) (end_refl all)

    absent_only : (Starts pf all → ⊥) → (b : Option A) (r : List Terminal) → ReadsIf p all b r → Starts (pm ++ pf) r ⊎ ((b ≡ None) × (r ≡ all))
    absent_only bar None r h = inr (refl, h)
    absent_only bar (Some b) r h = absurd (unread p pf pb all bar b r h)

    there_exact : Starts pf all → (o : Outcome A) → Exact p pm all o → Exact (rule.optional p) (pm ++ pf) all (and_then o (λ x. reading.pure (Some x)))
    there_exact go (Ok (a, rest)) found = record {
      halts = record { within = found.halts.within; last = λ r. optional_last rest r found.halts; each = λ r h k. inr (found.halts.each r h k) };
      reads = found.reads;
      only = some_only go a rest found;
    }
    there_exact go (Err rest) fails = record {
      halts = record { within = fails.halts.within; last = λ r. optional_last rest r fails.halts; each = λ r h k. inr (fails.halts.each r h k) };
      none = some_none go rest fails;
    }

    absent_exact : (Starts pf all → ⊥) → Exact (rule.optional p) (pm ++ pf) all (Ok (None, all))
    absent_exact bar = record {
      halts = record { within = end_refl all; last = absent_last bar; each = λ r h k. inl (end_anti r all k h) };
      reads = refl;
      only = absent_only bar;
    }

    optional_at : (rp : Reader A) (b : Bool) → (b ≡ true → Starts pf all) → (Starts pf all → b ≡ true) → Exact p pm all (rp all)
        → Exact (rule.optional p) (pm ++ pf) all (choose b (reading.◌<$>◌ Some rp) (reading.pure None) all)
    optional_at rp true is back pe = there_exact (is refl) (rp all) pe
    optional_at rp false is back pe = absent_exact (λ s. (let e : false ≡ true = back s in cc))

    pub optional_exact : (test : List Terminal → Bool) → ((all : List Terminal) → test all ≡ starts pf all) → (rp : Reader A) → Exact p pm all (rp all)
        → Exact (rule.optional p) (pm ++ pf) all (reading.optional test rp all)
    optional_exact test is rp pe = optional_at rp (test all) (λ e. sym (is all) ∙ e) (λ e. is all ∙ e) pe

-- ---- a repeated part

module _ {A : Type 0} (p : Rule A) (pf pm : List ℕ) (pb : Begins p pf false) (apart : Apart pm pf) where
  many_reads : (all : List Terminal) (xs : List A) (r : List Terminal) → ReadsEach p all xs r → ((r ≡ all) × (true ≡ true)) ⊎ Starts pf all
  many_reads all [] r h = inl (h, refl)
  many_reads all (a ∷ xs) r (mid, h, k) = inr (begun p pf pm pb all a mid h)

  many_front_2 : (all r : List Terminal) (xs : List A) (mid : List Terminal) → ReadsEach p all xs mid → p.front mid r → (r ≡ all) ⊎ Starts pf all
  many_front_2 all r [] mid h k = pb.front all r (let P : List Terminal → Type 0 = λ x. p.front x r in subst P h k)
  many_front_2 all r (a ∷ xs) mid (m, h, hs) k = inr (begun p pf pm pb all a m h)

  many_front : (all r : List Terminal) → (rule.many p).front all r → (r ≡ all) ⊎ Starts pf all
  many_front all r (inl e) = inl e
  many_front all r (inr (xs, mid, h, k)) = many_front_2 all r xs mid h k

  many_cons : (all mid r : List Terminal) (a : A) → p.reads all a mid → (rule.many p).front mid r → (rule.many p).front all r
  many_cons all mid r a h (inl e) = inr ([], all, refl, (let P : List Terminal → Type 0 = λ x. p.front all x in subst P (sym e) (pb.whole all a mid h)))
  many_cons all mid r a h (inr (xs, m, hs, k)) = inr (a ∷ xs, m, (mid, h, hs), k)

  many_whole : (all : List Terminal) (xs : List A) (r : List Terminal) → ReadsEach p all xs r → (rule.many p).front all r
  many_whole all [] r h = inl h
  many_whole all (a ∷ xs) r (mid, h, hs) = many_cons all mid r a h (many_whole mid xs r hs)

  each_within : (all : List Terminal) (xs : List A) (r : List Terminal) → ReadsEach p all xs r → IsEnd r all
  each_within all [] r e = end_at r r all e (end_refl r)
  each_within all (a ∷ xs) r (mid, h, hs) = end_trans r mid all (each_within mid xs r hs) (pb.within all mid (pb.whole all a mid h))

  many_within : (all r : List Terminal) → (rule.many p).front all r → IsEnd r all
  many_within all r (inl e) = end_at r r all e (end_refl r)
  many_within all r (inr (xs, mid, h, k)) = end_trans r mid all (pb.within mid r k) (each_within all xs mid h)

  pub many_begins : Begins (rule.many p) pf true
  many_begins = record { front = many_front; reads = many_reads; whole = many_whole; within = many_within; takes = λ all a r e h. cc }

  -- behind a reading that the next token goes on with stands no other
  alone : (m r : List Terminal) (xs : List A) → Starts pm m → ReadsEach p m xs r → r ≡ m
  alone m r [] go h = h
  alone m r (a ∷ xs) go (mid, h, hs) = absurd (apart m go (begun p pf pm pb m a mid h))

  alone_front_2 : (m r : List Terminal) → Starts pm m → (r ≡ m) ⊎ Starts pf m → r ≡ m
  alone_front_2 m r go (inl e) = e
  alone_front_2 m r go (inr s) = absurd (apart m go s)

  alone_front : (m r : List Terminal) → Starts pm m → (rule.many p).front m r → r ≡ m
  alone_front m r go h = alone_front_2 m r go (many_front m r h)

  -- a front in the second reading or after it
  module _ (all : List Terminal) where
    first_last : (rest mid r : List Terminal) (b : A) → Halts p all rest → p.reads all b mid → Starts pm mid → (rule.many p).front mid r → IsEnd rest r
    first_last rest mid r b halts h go k = end_at rest mid r (sym (alone_front mid r go k)) (halts.last mid (pb.whole all b mid h))

    -- a front of many is nothing, a front of the first, or the first and a front of many
    uncons : (r : List Terminal) → (rule.many p).front all r → (r ≡ all) ⊎ (p.front all r ⊎ ((b : A) × (m : List Terminal) × p.reads all b m × (rule.many p).front m r))
    uncons r (inl e) = inl e
    uncons r (inr ([], m, e, k)) = inr (inl (let P : List Terminal → Type 0 = λ x. p.front x r in subst P e k))
    uncons r (inr (b ∷ xs, m, (mid, h, hs), k)) = inr (inr (b, mid, h, inr (xs, m, hs, k)))

    fails_last_2 : (rest r : List Terminal) → Fails p pm all rest → (r ≡ all) ⊎ (p.front all r ⊎ ((b : A) × (m : List Terminal) × p.reads all b m × (rule.many p).front m r)) → IsEnd rest r
    fails_last_2 rest r fails (inl e) = end_at rest all r (sym e) fails.halts.within
    fails_last_2 rest r fails (inr (inl h)) = fails.halts.last r h
    fails_last_2 rest r fails (inr (inr (b, m, h, k))) = first_last rest m r b fails.halts h (fails.none b m h) k

    fails_each : (rest : List Terminal) → Halts p all rest → (r : List Terminal) → IsEnd rest r → IsEnd r all → (rule.many p).front all r
    fails_each rest halts r h k = inr ([], all, refl, halts.each r h k)

    many_none : (rest : List Terminal) → Starts pf all → Fails p pm all rest → (xs : List A) (r : List Terminal) → ReadsEach p all xs r → Starts (pm ++ pf) r
    many_none rest go fails [] r h = starts_right pm pf r (moved pf all r (sym h) go)
    many_none rest go fails (b ∷ xs) r (m, h, hs) =
        let s : Starts pm m = fails.none b m h in starts_left pm pf r (moved pm m r (sym (alone m r xs s hs)) s)

    many_fails : (rest : List Terminal) → Starts pf all → Fails p pm all rest → Fails (rule.many p) (pm ++ pf) all rest
    many_fails rest go fails = record {
      halts = record { within = fails.halts.within; last = λ r h. fails_last_2 rest r fails (uncons r h); each = fails_each rest fails.halts };
      none = many_none rest go fails;
    }

    module _ (mid : List Terminal) (a : A) (found : Found p pm all a mid) where
      more_last_3 : (end r : List Terminal) → Halts (rule.many p) mid end → (b : A) (m : List Terminal) → p.reads all b m → (rule.many p).front m r → Starts pm m ⊎ ((b ≡ a) × (m ≡ mid)) → IsEnd end r
      more_last_3 end r halts b m h k (inl go) = end_trans end mid r halts.within (first_last mid m r b found.halts h go k)
      more_last_3 end r halts b m h k (inr (e, q)) = halts.last r (let P : List Terminal → Type 0 = λ x. (rule.many p).front x r in subst P q k)

      more_last_2 : (end r : List Terminal) → Halts (rule.many p) mid end → (r ≡ all) ⊎ (p.front all r ⊎ ((b : A) × (m : List Terminal) × p.reads all b m × (rule.many p).front m r)) → IsEnd end r
      more_last_2 end r halts (inl e) = end_at end all r (sym e) (end_trans end mid all halts.within found.halts.within)
      more_last_2 end r halts (inr (inl h)) = end_trans end mid r halts.within (found.halts.last r h)
      more_last_2 end r halts (inr (inr (b, m, h, k))) = more_last_3 end r halts b m h k (found.only b m h)

      more_each_2 : (end r : List Terminal) → Halts (rule.many p) mid end → IsEnd end r → IsEnd r all → IsEnd mid r ⊎ IsEnd r mid → (rule.many p).front all r
      more_each_2 end r halts h k (inl e) = fails_each mid found.halts r e k
      more_each_2 end r halts h k (inr e) = many_cons all mid r a found.reads (halts.each r h e)

      more_halts : (end : List Terminal) → Halts (rule.many p) mid end → Halts (rule.many p) all end
      more_halts end halts = record {
        within = end_trans end mid all halts.within found.halts.within;
        last = λ r h. more_last_2 end r halts (uncons r h);
        each = λ r h k. more_each_2 end r halts h k (end_total mid r all found.halts.within k);
      }

      list_eq : (b : A) (m r end : List Terminal) (xs ys : List A) → b ≡ a → (xs ≡ ys) × (r ≡ end) → (b ∷ xs ≡ a ∷ ys) × (r ≡ end)
      list_eq b m r end xs ys e (q, s) = (cc, s)

      more_only_2 : (end : List Terminal) (ys : List A) → Found (rule.many p) (pm ++ pf) mid ys end → (b : A) (xs : List A) (m r : List Terminal) → ReadsEach p m xs r
          → Starts pm m ⊎ ((b ≡ a) × (m ≡ mid)) → Starts (pm ++ pf) r ⊎ ((b ∷ xs ≡ a ∷ ys) × (r ≡ end))
      more_only_2 end ys more b xs m r hs (inl go) = inl (starts_left pm pf r (moved pm m r (sym (alone m r xs go hs)) go))
      more_only_2 end ys more b xs m r hs (inr (e, q)) =
          flip (wider r (list_eq b m r end xs ys e) (flip (more.only xs r (let P : List Terminal → Type 0 = λ x. ReadsEach p x xs r in subst P q hs))))

      more_only : (end : List Terminal) (ys : List A) → Found (rule.many p) (pm ++ pf) mid ys end → (xs : List A) (r : List Terminal) → ReadsEach p all xs r → Starts (pm ++ pf) r ⊎ ((xs ≡ a ∷ ys) × (r ≡ end))
      more_only end ys more [] r h = inl (starts_right pm pf r (moved pf all r (sym h) (begun p pf pm pb all a mid found.reads)))
      more_only end ys more (b ∷ xs) r (m, h, hs) = more_only_2 end ys more b xs m r hs (found.only b m h)

      more_none_2 : (end : List Terminal) → Fails (rule.many p) (pm ++ pf) mid end → (b : A) (xs : List A) (m r : List Terminal) → ReadsEach p m xs r → Starts pm m ⊎ ((b ≡ a) × (m ≡ mid)) → Starts (pm ++ pf) r
      more_none_2 end more b xs m r hs (inl go) = starts_left pm pf r (moved pm m r (sym (alone m r xs go hs)) go)
      more_none_2 end more b xs m r hs (inr (e, q)) = more.none xs r (let P : List Terminal → Type 0 = λ x. ReadsEach p x xs r in subst P q hs)

      more_none : (end : List Terminal) → Fails (rule.many p) (pm ++ pf) mid end → (xs : List A) (r : List Terminal) → ReadsEach p all xs r → Starts (pm ++ pf) r
      more_none end more [] r h = starts_right pm pf r (moved pf all r (sym h) (begun p pf pm pb all a mid found.reads))
      more_none end more (b ∷ xs) r (m, h, hs) = more_none_2 end more b xs m r hs (found.only b m h)

      more_found : (end : List Terminal) (ys : List A) → Found (rule.many p) (pm ++ pf) mid ys end → Found (rule.many p) (pm ++ pf) all (a ∷ ys) end
      more_found end ys more = record { halts = more_halts end more.halts; reads = (mid, found.reads, more.reads); only = more_only end ys more }

      more_fails : (end : List Terminal) → Fails (rule.many p) (pm ++ pf) mid end → Fails (rule.many p) (pm ++ pf) all end
      more_fails end more = record { halts = more_halts end more.halts; none = more_none end more }

    none_last : (Starts pf all → ⊥) → (r : List Terminal) → (r ≡ all) ⊎ Starts pf all → IsEnd all r
    none_last bar r (inl e) = end_at all all r (sym e) (end_refl all)
    none_last bar r (inr s) = absurd (bar s)

    none_only : (Starts pf all → ⊥) → (xs : List A) (r : List Terminal) → ReadsEach p all xs r → Starts (pm ++ pf) r ⊎ ((xs ≡ []) × (r ≡ all))
    none_only bar [] r h = inr (refl, h)
    none_only bar (b ∷ xs) r (m, h, hs) = absurd (bar (begun p pf pm pb all b m h))

    none_found : (Starts pf all → ⊥) → Found (rule.many p) (pm ++ pf) all [] all
    none_found bar = record {
      halts = record { within = end_refl all; last = λ r h. none_last bar r (many_front all r h); each = λ r h k. inl (end_anti r all k h) };
      reads = refl;
      only = none_only bar;
    }

  -- what was read before, and what `many` reads from here
  abbrev pub ExactFrom : List A → List Terminal → Outcome (List A) → Type 0
  ExactFrom found all (Ok (xs, rest)) = (ys : List A) × (xs ≡ found ++ ys) × Found (rule.many p) (pm ++ pf) all ys rest
  ExactFrom found all (Err rest) = Fails (rule.many p) (pm ++ pf) all rest

  step_exact : (found : List A) (all mid : List Terminal) (a : A) → Found p pm all a mid → (o : Outcome (List A)) → ExactFrom (found ++ a ∷ []) mid o → ExactFrom found all o
  step_exact found all mid a first (Ok (xs, rest)) (ys, e, more) = (a ∷ ys, (e ∙ append_assoc found (a ∷ []) ys), more_found all mid a first rest ys more)
  step_exact found all mid a first (Err rest) more = more_fails all mid a first rest more

  module _ (rp : Reader A) (pe : (all : List Terminal) → Exact p pm all (rp all)) (test : List Terminal → Bool) (tests : (all : List Terminal) → test all ≡ starts pf all) where
    then_from : (n : ℕ) (found : List A) (all : List Terminal) → Starts pf all → (o : Outcome A) → Exact p pm all o
        → ((a : A) (mid : List Terminal) → Found p pm all a mid → ExactFrom (found ++ a ∷ []) mid (many_from test rp n (found ++ a ∷ []) mid))
        → ExactFrom found all (and_then o (λ a. many_from test rp n (found ++ a ∷ [])))
    then_from n found all go (Ok (a, mid)) first rest = step_exact found all mid a first (many_from test rp n (found ++ a ∷ []) mid) (rest a mid first)
    then_from n found all go (Err rest) fails more = many_fails all rest go fails

    from_none : (found : List A) (all : List Terminal) → (Starts pf all → ⊥) → ExactFrom found all (Ok (found, all))
    from_none found all bar = ([], sym (append-nil found), none_found all bar)

    -- a reading of p takes a token
    shorter : (all mid : List Terminal) (a : A) → Found p pm all a mid → length mid < length all
    shorter all mid a found = pb.takes all a mid refl found.reads

    from_at : (n : ℕ) (found : List A) (all : List Terminal) → length all < suc (suc n) → (b : Bool) → (b ≡ true → Starts pf all) → (Starts pf all → b ≡ true)
        → ((a : A) (mid : List Terminal) → length mid < suc n → ExactFrom (found ++ a ∷ []) mid (many_from test rp n (found ++ a ∷ []) mid))
        → ExactFrom found all (choose b (reading.◌>>=◌ rp (λ a. many_from test rp n (found ++ a ∷ []))) (reading.pure found) all)
    from_at n found all enough true is back more = then_from n found all (is refl) (rp all) (pe all) (λ a mid h. (let l : length mid < length all = shorter all mid a h in more a mid (omega arith)))
    from_at n found all enough false is back more = from_none found all (λ s. (let e : false ≡ true = back s in cc))

    from_exact : (n : ℕ) (found : List A) (all : List Terminal) → length all < suc n → ExactFrom found all (many_from test rp n found all)
    unfolding many_from
    from_exact zero found [] enough = from_none found [] (λ s. cc)
    from_exact zero found (t ∷ all) enough = absurd (omega arith)
    from_exact (suc n) found all enough = from_at n found all (omega arith) (test all) (λ e. sym (tests all) ∙ e) (λ e. tests all ∙ e) (λ a mid l. from_exact n (found ++ a ∷ []) mid (omega arith))

    from_nothing : (all : List Terminal) (o : Outcome (List A)) → ExactFrom [] all o → Exact (rule.many p) (pm ++ pf) all o
    from_nothing all (Ok (xs, rest)) (ys, e, h) = let P : List A → Type 0 = λ x. Found (rule.many p) (pm ++ pf) all x rest in subst P (sym e) h
    from_nothing all (Err rest) h = h

    pub many_exact : (all : List Terminal) → Exact (rule.many p) (pm ++ pf) all (reading.many test rp all)
    unfolding reading.many
    many_exact all = from_nothing all (many_from test rp (length all) [] all) (from_exact (length all) [] all (omega arith))
