-- The closing quote of a text, looked for from a place on.
use Rattle.std.proofs.Common.{◌≡◌, ◌≢◌, ℕ, suc, ◌+◌, ◌<◌, true, false, nat_eq, List, [], ◌∷◌, length, get_or, drop, Option, Some, None, option_map, refl, sym, ap, ◌∙◌, arith, ◌⊎◌, inl, inr, eq-eqb}
use Rattle.std.proofs.Math.Seq.{drop-cons}
use Rattle.std.proofs.lemmas.Bool.Decides.{eqb_tells}
use Rattle.lv_lexer.specs.Piece.{closing}

-- a count that begins so many bytes further on
abbrev pub further : ℕ → Option ℕ → Option ℕ
further n found = option_map (λ m. n + m) found

further_twice : (a b : ℕ) (o : Option ℕ) → further a (further b o) ≡ further (a + b) o
further_twice a b None = refl
further_twice a b (Some n) = let e : a + (b + n) ≡ a + b + n = omega arith in ap (λ k. Some k) e

pub other_first : (b : ℕ) (s : List ℕ) → nat_eq b 39 ≡ false → closing (b ∷ s) ≡ further 1 (closing s)
other_first b [] e = rw e refl
other_first b (c ∷ s) e = rw e refl

pub two_first : (b c : ℕ) (s : List ℕ) → nat_eq b 39 ≡ true → nat_eq c 39 ≡ true → closing (b ∷ c ∷ s) ≡ further 2 (closing s)
two_first b c s e f = rw (e, f) refl

differ : {a b : ℕ} → ((nat_eq a b ≡ true) × (a ≡ b)) ⊎ ((nat_eq a b ≡ false) × (a ≢ b)) → a ≢ b → nat_eq a b ≡ false
differ (inl (e, q)) n = absurd (n q)
differ (inr (e, q)) n = e

module _ (s : List ℕ) (at : ℕ) (whole : closing s ≡ further at (closing (drop at s))) (there : at < length s) where
  here : drop at s ≡ get_or s at 0 ∷ drop (suc at) s
  here = drop-cons s at 0 there

  after_other : nat_eq (get_or s at 0) 39 ≡ false → closing s ≡ further (at + 1) (closing (drop (suc at) s))
  after_other z =
      whole ∙ (ap (λ r. further at (closing r)) here ∙ (ap (further at) (other_first (get_or s at 0) (drop (suc at) s) z)
      ∙ further_twice at 1 (closing (drop (suc at) s))))

  -- past a byte that is no quote
  pub past_other : get_or s at 0 ≢ 39 → closing s ≡ further (at + 1) (closing (drop (at + 1) s))
  past_other n =
      let e : suc at ≡ at + 1 = omega arith in
      after_other (differ (eqb_tells (get_or s at 0) 39) n) ∙ ap (λ k. further (at + 1) (closing (drop k s))) e

  after_two : nat_eq (get_or s at 0) 39 ≡ true → suc at < length s → nat_eq (get_or s (suc at) 0) 39 ≡ true
      → closing s ≡ further (at + 2) (closing (drop (suc (suc at)) s))
  after_two z l y =
      whole ∙ (ap (λ r. further at (closing r)) (here ∙ ap (λ r. get_or s at 0 ∷ r) (drop-cons s (suc at) 0 l))
      ∙ (ap (further at) (two_first (get_or s at 0) (get_or s (suc at) 0) (drop (suc (suc at)) s) z y)
      ∙ further_twice at 2 (closing (drop (suc (suc at)) s))))

  -- past two quotes
  pub past_two : get_or s at 0 ≡ 39 → at + 1 < length s → get_or s (at + 1) 0 ≡ 39 → closing s ≡ further (at + 2) (closing (drop (at + 2) s))
  past_two e l f =
      let one : at + 1 ≡ suc at = omega arith in
      let two : suc (suc at) ≡ at + 2 = omega arith in
      let f' : get_or s (suc at) 0 ≡ 39 = ap (λ k. get_or s k 0) (sym one) ∙ f in
      after_two (eq-eqb (get_or s at 0) 39 e) (omega arith) (eq-eqb (get_or s (suc at) 0) 39 f') ∙ ap (λ k. further (at + 2) (closing (drop k s))) two
