-- Rules put together in another order, with the same readings and fronts.
use Rattle.std.proofs.Common.{List, inl, inr, refl, sym, subst}
use Rattle.lv_lexer.specs.declared.terminals.Terminal.{Terminal}
use Rattle.lv_parser.specs.Rule.{Rule}
use Rattle.lv_parser.specs.Rule as rule
use Rattle.lv_parser.proofs.Same.{Same}

pub same_self : {A : Type 0} (p : Rule A) → Same p p
same_self p = record { reads = λ _ _ _ h. h; reads_back = λ _ _ _ h. h; front = λ _ _ h. h; front_back = λ _ _ h. h }

pub same_then : {A : Type 0} {p q r : Rule A} → Same p q → Same q r → Same p r
same_then x y = record {
  reads = λ all a m h. y.reads all a m (x.reads all a m h);
  reads_back = λ all a m h. x.reads_back all a m (y.reads_back all a m h);
  front = λ all m h. y.front all m (x.front all m h);
  front_back = λ all m h. x.front_back all m (y.front_back all m h);
}

-- ---- one after another

module _ {A B : Type 0} (p q : Rule A) (f k : A → Rule B) where
  bound_reads : ((all : List Terminal) (a : A) (m : List Terminal) → p.reads all a m → q.reads all a m)
      → ((a : A) (all : List Terminal) (b : B) (m : List Terminal) → (f a).reads all b m → (k a).reads all b m)
      → (all : List Terminal) (b : B) (r : List Terminal) → (rule.◌>>=◌ p f).reads all b r → (rule.◌>>=◌ q k).reads all b r
  bound_reads x y all b r (a, m, h, i) = (a, m, x all a m h, y a m b r i)

  bound_front : ((all : List Terminal) (a : A) (m : List Terminal) → p.reads all a m → q.reads all a m)
      → ((all m : List Terminal) → p.front all m → q.front all m)
      → ((a : A) (all m : List Terminal) → (f a).front all m → (k a).front all m)
      → (all r : List Terminal) → (rule.◌>>=◌ p f).front all r → (rule.◌>>=◌ q k).front all r
  bound_front x z y all r (inl h) = inl (z all r h)
  bound_front x z y all r (inr (a, m, h, i)) = inr (a, m, x all a m h, y a m r i)

pub same_bind : {A B : Type 0} {p q : Rule A} {f k : A → Rule B} → Same p q → ((a : A) → Same (f a) (k a)) → Same (rule.◌>>=◌ p f) (rule.◌>>=◌ q k)
same_bind {A} {B} {p} {q} {f} {k} x y = record {
  reads = bound_reads p q f k x.reads (λ a. (y a).reads);
  reads_back = bound_reads q p k f x.reads_back (λ a. (y a).reads_back);
  front = bound_front p q f k x.reads x.front (λ a. (y a).front);
  front_back = bound_front q p k f x.reads_back x.front_back (λ a. (y a).front_back);
}

pub same_after : {A B : Type 0} (p : Rule A) {f k : A → Rule B} → ((a : A) → Same (f a) (k a)) → Same (rule.◌>>=◌ p f) (rule.◌>>=◌ p k)
same_after p y = same_bind (same_self p) y

module _ {A B C : Type 0} (p : Rule A) (f : A → Rule B) (k : B → Rule C) where
  abbrev grouped : Rule C
  grouped = rule.◌>>=◌ (rule.◌>>=◌ p f) k

  abbrev flat : Rule C
  flat = rule.◌>>=◌ p (λ a. rule.◌>>=◌ (f a) k)

  flat_reads : (all : List Terminal) (c : C) (r : List Terminal) → grouped.reads all c r → flat.reads all c r
  flat_reads all c r (b, m, (a, n, h, i), j) = (a, n, h, (b, m, i, j))

  grouped_reads : (all : List Terminal) (c : C) (r : List Terminal) → flat.reads all c r → grouped.reads all c r
  grouped_reads all c r (a, n, h, (b, m, i, j)) = (b, m, (a, n, h, i), j)

  flat_front : (all r : List Terminal) → grouped.front all r → flat.front all r
  flat_front all r (inl (inl h)) = inl h
  flat_front all r (inl (inr (a, n, h, i))) = inr (a, n, h, inl i)
  flat_front all r (inr (b, m, (a, n, h, i), j)) = inr (a, n, h, inr (b, m, i, j))

  grouped_front : (all r : List Terminal) → flat.front all r → grouped.front all r
  grouped_front all r (inl h) = inl (inl h)
  grouped_front all r (inr (a, n, h, inl i)) = inl (inr (a, n, h, i))
  grouped_front all r (inr (a, n, h, inr (b, m, i, j))) = inr (b, m, (a, n, h, i), j)

  pub same_flat : Same grouped flat
  same_flat = record { reads = flat_reads; reads_back = grouped_reads; front = flat_front; front_back = grouped_front }

-- a sequence inside a sequence, taken apart step by step
pub then_flat : {A B C : Type 0} (p : Rule A) (f : A → Rule B) (k : B → Rule C) {h : A → Rule C} → ((a : A) → Same (rule.◌>>=◌ (f a) k) (h a))
    → Same (rule.◌>>=◌ (rule.◌>>=◌ p f) k) (rule.◌>>=◌ p h)
then_flat p f k y = same_then (same_flat p f k) (same_after p y)

pub same_back : {A : Type 0} {p q : Rule A} → Same p q → Same q p
same_back x = record { reads = x.reads_back; reads_back = x.reads; front = x.front_back; front_back = x.front }

-- nothing first, where nothing is a front of what follows
module _ {A B : Type 0} (a : A) (f : A → Rule B) (nothing : (all : List Terminal) → (f a).front all all) where
  given_reads : (all : List Terminal) (b : B) (r : List Terminal) → (rule.◌>>=◌ (rule.pure a) f).reads all b r → (f a).reads all b r
  given_reads all b r (c, m, (e, q), h) =
      let P : A → Type 0 = λ x. (f x).reads m b r in
      let Q : List Terminal → Type 0 = λ x. (f a).reads x b r in
      subst Q q (subst P e h)

  given_front : (all r : List Terminal) → (rule.◌>>=◌ (rule.pure a) f).front all r → (f a).front all r
  given_front all r (inl e) = let P : List Terminal → Type 0 = λ x. (f a).front all x in subst P (sym e) (nothing all)
  given_front all r (inr (c, m, (e, q), h)) =
      let P : A → Type 0 = λ x. (f x).front m r in
      let Q : List Terminal → Type 0 = λ x. (f a).front x r in
      subst Q q (subst P e h)

  pub same_given : Same (rule.◌>>=◌ (rule.pure a) f) (f a)
  same_given = record { reads = given_reads; reads_back = λ all b r h. (a, all, (refl, refl), h); front = given_front; front_back = λ all r h. inr (a, all, (refl, refl), h) }

-- ---- choices

module _ {A : Type 0} (p q r s : Rule A) where
  either_reads : ((all : List Terminal) (a : A) (m : List Terminal) → p.reads all a m → r.reads all a m)
      → ((all : List Terminal) (a : A) (m : List Terminal) → q.reads all a m → s.reads all a m)
      → (all : List Terminal) (a : A) (m : List Terminal) → (rule.◌or◌ p q).reads all a m → (rule.◌or◌ r s).reads all a m
  either_reads x y all a m (inl h) = inl (x all a m h)
  either_reads x y all a m (inr h) = inr (y all a m h)

  either_front : ((all m : List Terminal) → p.front all m → r.front all m)
      → ((all m : List Terminal) → q.front all m → s.front all m)
      → (all m : List Terminal) → (rule.◌or◌ p q).front all m → (rule.◌or◌ r s).front all m
  either_front x y all m (inl h) = inl (x all m h)
  either_front x y all m (inr h) = inr (y all m h)

pub same_or : {A : Type 0} {p q r s : Rule A} → Same p r → Same q s → Same (rule.◌or◌ p q) (rule.◌or◌ r s)
same_or {A} {p} {q} {r} {s} x y = record {
  reads = either_reads p q r s x.reads y.reads;
  reads_back = either_reads r s p q x.reads_back y.reads_back;
  front = either_front p q r s x.front y.front;
  front_back = either_front r s p q x.front_back y.front_back;
}

module _ {A : Type 0} (p q : Rule A) where
  swapped_reads : (all : List Terminal) (a : A) (m : List Terminal) → (rule.◌or◌ p q).reads all a m → (rule.◌or◌ q p).reads all a m
  swapped_reads all a m (inl h) = inr h
  swapped_reads all a m (inr h) = inl h

  swapped_front : (all m : List Terminal) → (rule.◌or◌ p q).front all m → (rule.◌or◌ q p).front all m
  swapped_front all m (inl h) = inr h
  swapped_front all m (inr h) = inl h

pub same_swapped : {A : Type 0} (p q : Rule A) → Same (rule.◌or◌ p q) (rule.◌or◌ q p)
same_swapped p q = record { reads = swapped_reads p q; reads_back = swapped_reads q p; front = swapped_front p q; front_back = swapped_front q p }

module _ {A : Type 0} (p q r : Rule A) where
  abbrev right : Rule A
  right = rule.◌or◌ p (rule.◌or◌ q r)

  abbrev left : Rule A
  left = rule.◌or◌ (rule.◌or◌ p q) r

  left_reads : (all : List Terminal) (a : A) (m : List Terminal) → right.reads all a m → left.reads all a m
  left_reads all a m (inl h) = inl (inl h)
  left_reads all a m (inr (inl h)) = inl (inr h)
  left_reads all a m (inr (inr h)) = inr h

  right_reads : (all : List Terminal) (a : A) (m : List Terminal) → left.reads all a m → right.reads all a m
  right_reads all a m (inl (inl h)) = inl h
  right_reads all a m (inl (inr h)) = inr (inl h)
  right_reads all a m (inr h) = inr (inr h)

  left_front : (all m : List Terminal) → right.front all m → left.front all m
  left_front all m (inl h) = inl (inl h)
  left_front all m (inr (inl h)) = inl (inr h)
  left_front all m (inr (inr h)) = inr h

  right_front : (all m : List Terminal) → left.front all m → right.front all m
  right_front all m (inl (inl h)) = inl h
  right_front all m (inl (inr h)) = inr (inl h)
  right_front all m (inr h) = inr (inr h)

  pub same_joined : Same right left
  same_joined = record { reads = left_reads; reads_back = right_reads; front = left_front; front_back = right_front }
