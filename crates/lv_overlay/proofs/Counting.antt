-- The writes of a table are those between two cuts.
use Rattle.std.proofs.Common.{◌≡◌, ℕ, zero, suc, ◌+◌, true, false, cond, List, [], ◌∷◌, length, refl, ap, arith}
use Rattle.std.specs.Prelude.{◌==◌, nat_lt}
use Rattle.std.proofs.lemmas.Bool.Decides.{nat_tests}
use Rattle.lv_shelf.specs.Cuts.{IsCut}
use Rattle.lv_overlay.specs.declared.put.Put.{Put}
use Rattle.lv_overlay.specs.Ordered.{is_below}
use Rattle.lv_overlay.specs.Puts.{put_keys}
use Rattle.lv_overlay.proofs.Cutting.{below_other}

module _ (t : ℕ) where
  above_other : (q : Put) → is_below (t + 1) q ≡ false → (t == q.table) ≡ false
  above_other q h = by q.table h
    where
      by : (n : ℕ) → nat_lt n (t + 1) ≡ false → (t == n) ≡ false
      by n e = grind (arith, nat_tests)

  between_own : (q : Put) → is_below t q ≡ false → is_below (t + 1) q ≡ true → (t == q.table) ≡ true
  between_own q g h = by q.table g h
    where
      by : (n : ℕ) → nat_lt n t ≡ false → nat_lt n (t + 1) ≡ true → (t == n) ≡ true
      by n e f = grind (arith, nat_tests)

  not_both : (q : Put) → is_below t q ≡ true → is_below (t + 1) q ≡ false → ⊥
  not_both q g h = by q.table g h
    where
      by : (n : ℕ) → nat_lt n t ≡ true → nat_lt n (t + 1) ≡ false → ⊥
      by n e f = grind (arith, nat_tests)

  with_own : (q : Put) (puts : List Put) → (t == q.table) ≡ true → length (put_keys (q ∷ puts) t) ≡ suc (length (put_keys puts t))
  with_own q puts e = ap (λ own. length (cond own (q.key ∷ put_keys puts t) (put_keys puts t))) e

  with_other : (q : Put) (puts : List Put) → (t == q.table) ≡ false → length (put_keys (q ∷ puts) t) ≡ length (put_keys puts t)
  with_other q puts e = ap (λ own. length (cond own (q.key ∷ put_keys puts t) (put_keys puts t))) e

  pub between_cuts : (puts : List Put) (first last : ℕ) → IsCut (is_below t) first puts → IsCut (is_below (t + 1)) last puts → first + length (put_keys puts t) ≡ last
  between_cuts [] zero zero c d = refl
  between_cuts [] (suc i) j c d = absurd c
  between_cuts [] zero (suc j) c d = absurd d
  between_cuts (q ∷ puts) (suc i) (suc j) c d = omega (arith, with_other q puts (below_other t q c.0), between_cuts puts i j c.1 d.1)
  between_cuts (q ∷ puts) (suc i) zero c d = absurd (not_both q c.0 d.0)
  between_cuts (q ∷ puts) zero (suc j) c d = omega (arith, with_own q puts (between_own q c.0 d.0), between_cuts puts zero j c.1 d.1)
  between_cuts (q ∷ puts) zero zero c d = omega (arith, with_other q puts (above_other q d.0), between_cuts puts zero zero c.1 d.1)
