-- `{ "," x } "," k` is `"," { x "," } k`.
use Rattle.std.proofs.Common.{List, [], ◌∷◌, ◌++◌, ◌⊎◌, inl, inr, refl, sym, subst}
use Rattle.lv_lexer.specs.declared.terminals.Terminal.{Terminal}
use Rattle.lv_parser.specs.Rule.{Rule, ReadsEach}
use Rattle.lv_parser.specs.Rule as rule
use Rattle.lv_parser.proofs.Same.{Same}

pub each_snoc : {A : Type 0} (p : Rule A) (xs : List A) (all m n : List Terminal) (a : A) → ReadsEach p all xs m → p.reads m a n → ReadsEach p all (xs ++ a ∷ []) n
each_snoc p [] all m n a e h = (n, (let P : List Terminal → Type 0 = λ y. p.reads y a n in subst P e h), refl)
each_snoc p (x ∷ xs) all m n a (mid, hx, hs) h = (mid, hx, each_snoc p xs mid m n a hs h)

module _ {A B D : Type 0} (c : Rule B) (x : Rule A) (k : List A → Rule D) (nothing : (all : List Terminal) → c.front all all)
    (whole : (all : List Terminal) (b : B) (r : List Terminal) → c.reads all b r → c.front all r) where
  abbrev lead : Rule A
  lead = rule.◌>>=◌ c (λ _. x)

  abbrev item : Rule A
  item = rule.◌>>=◌ x (λ a. rule.◌>>=◌ c (λ _. rule.pure a))

  abbrev before : Rule D
  before = rule.◌>>=◌ (rule.many lead) (λ xs. rule.◌>>=◌ c (λ _. k xs))

  abbrev after : Rule D
  after = rule.◌>>=◌ c (λ _. rule.◌>>=◌ (rule.many item) k)

  shift : (xs : List A) (all m n : List Terminal) (b : B) → ReadsEach lead all xs m → c.reads m b n → (b' : B) × (m' : List Terminal) × c.reads all b' m' × ReadsEach item m' xs n
  shift [] all m n b e h = (b, n, (let P : List Terminal → Type 0 = λ y. c.reads y b n in subst P e h), refl)
  shift (a ∷ xs) all m n b (mid, (b0, n0, hc, hx), hs) h =
      let (b1, m1, hc1, hs1) = shift xs mid m n b hs h in (b0, n0, hc, (m1, (a, mid, hx, (b1, m1, hc1, (refl, refl))), hs1))

  back : (xs : List A) (all m n : List Terminal) (b : B) → c.reads all b m → ReadsEach item m xs n → (b' : B) × (m' : List Terminal) × ReadsEach lead all xs m' × c.reads m' b' n
  back [] all m n b h e = (b, all, refl, (let P : List Terminal → Type 0 = λ y. c.reads all b y in subst P (sym e) h))
  back (a ∷ xs) all m n b h (m1, (a1, mid, hx, (b1, m2, hc, (ea, em))), hs) =
      let P : List Terminal → Type 0 = λ y. c.reads mid b1 y in
      let Q : A → Type 0 = λ y. x.reads m y mid in
      let (b2, m3, hl, hc2) = back xs mid m1 n b1 (subst P (sym em) hc) hs in
      (b2, m3, (mid, (b, m, h, subst Q (sym ea) hx), hl), hc2)

  there : (all : List Terminal) (d : D) (r : List Terminal) → before.reads all d r → after.reads all d r
  there all d r (xs, m, hs, (b, n, hc, hk)) = let (b1, m1, hc1, hs1) = shift xs all m n b hs hc in (b1, m1, hc1, (xs, n, hs1, hk))

  here : (all : List Terminal) (d : D) (r : List Terminal) → after.reads all d r → before.reads all d r
  here all d r (b, m, hc, (xs, n, hs, hk)) = let (b1, m1, hs1, hc1) = back xs all m n b hc hs in (xs, m1, hs1, (b1, n, hc1, hk))

  abbrev Upto : List Terminal → List Terminal → Type 0
  Upto all r = c.front all r ⊎ ((b : B) × (m : List Terminal) × c.reads all b m × (rule.many item).front m r)

  cons_many : (n m r : List Terminal) (a : A) → item.reads n a m → item.front n m → (rule.many item).front m r → (rule.many item).front n r
  cons_many n m r a h f (inl e) = inr ([], n, refl, (let P : List Terminal → Type 0 = λ y. item.front n y in subst P (sym e) f))
  cons_many n m r a h f (inr (xs, m2, hs, g)) = inr (a ∷ xs, m2, (m, h, hs), g)

  cons_upto : (all n mid r : List Terminal) (b : B) (a : A) → c.reads all b n → x.reads n a mid → Upto mid r → Upto all r
  cons_upto all n mid r b a hc hx (inl f) = inr (b, n, hc, inr ([], n, refl, inr (a, mid, hx, inl f)))
  cons_upto all n mid r b a hc hx (inr (b1, m1, hc1, f)) =
      inr (b, n, hc, cons_many n m1 r a (a, mid, hx, (b1, m1, hc1, (refl, refl))) (inr (a, mid, hx, inr (b1, m1, hc1, refl))) f)

  upto : (xs : List A) (all m r : List Terminal) → ReadsEach lead all xs m → c.front m r → Upto all r
  upto [] all m r e f = inl (let P : List Terminal → Type 0 = λ y. c.front y r in subst P e f)
  upto (a ∷ xs) all m r (mid, (b, n, hc, hx), hs) f = cons_upto all n mid r b a hc hx (upto xs mid m r hs f)

  from_upto : (all r : List Terminal) → Upto all r → after.front all r
  from_upto all r (inl f) = inl f
  from_upto all r (inr (b, m, hc, f)) = inr (b, m, hc, inl f)

  front_there : (all r : List Terminal) → before.front all r → after.front all r
  front_there all r (inl (inl e)) = inl (let P : List Terminal → Type 0 = λ y. c.front all y in subst P (sym e) (nothing all))
  front_there all r (inl (inr (xs, m, hs, inl f))) = from_upto all r (upto xs all m r hs f)
  front_there all r (inl (inr (xs, m, hs, inr (b, n, hc, f)))) = let (b1, m1, hc1, hs1) = shift xs all m n b hs hc in inr (b1, m1, hc1, inl (inr (xs, n, hs1, inl f)))
  front_there all r (inr (xs, m, hs, inl f)) = from_upto all r (upto xs all m r hs f)
  front_there all r (inr (xs, m, hs, inr (b, n, hc, f))) = let (b1, m1, hc1, hs1) = shift xs all m n b hs hc in inr (b1, m1, hc1, inr (xs, n, hs1, f))

  last_item : (xs : List A) (all m n r : List Terminal) (b : B) → ReadsEach lead all xs m → c.reads m b n → item.front n r → before.front all r
  last_item xs all m n r b hs hc (inl f) = inl (inr (xs, m, hs, inr (b, n, hc, f)))
  last_item xs all m n r b hs hc (inr (a, mid, hx, inl f)) = inr (xs ++ a ∷ [], mid, each_snoc lead xs all m mid a hs (b, n, hc, hx), inl f)
  last_item xs all m n r b hs hc (inr (a, mid, hx, inr (b1, m1, hc1, e))) =
      inr (xs ++ a ∷ [], mid, each_snoc lead xs all m mid a hs (b, n, hc, hx), inl (let P : List Terminal → Type 0 = λ y. c.front mid y in subst P (sym e) (whole mid b1 m1 hc1)))

  front_here : (all r : List Terminal) → after.front all r → before.front all r
  front_here all r (inl f) = inr ([], all, refl, inl f)
  front_here all r (inr (b, m, hc, inl (inl e))) = inr ([], all, refl, inl (let P : List Terminal → Type 0 = λ y. c.front all y in subst P (sym e) (whole all b m hc)))
  front_here all r (inr (b, m, hc, inl (inr (xs, n, hs, f)))) = let (b1, m1, hs1, hc1) = back xs all m n b hc hs in last_item xs all m1 n r b1 hs1 hc1 f
  front_here all r (inr (b, m, hc, inr (xs, n, hs, f))) = let (b1, m1, hs1, hc1) = back xs all m n b hc hs in inr (xs, m1, hs1, inr (b1, n, hc1, f))

  pub shifted : Same before after
  shifted = record { reads = there; reads_back = here; front = front_there; front_back = front_here }
