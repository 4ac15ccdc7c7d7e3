-- Parts told one after another, in place.
use Rattle.std.proofs.Common.{◌≡◌, ℕ, zero, suc, ◌+◌, ◌<◌, List, [], ◌∷◌, length, get_or, set, refl, ap, ◌∙◌, arith}
use Rattle.lv_schema.specs.declared.cond.Col.{Col}
use Rattle.lv_schema.specs.declared.part.Part.{Part}
use Rattle.lv_relevance.specs.Relevance.{told_from, told_part}

module _ (cols : List Col) where
  -- the first so many told, the others as they are
  abbrev pub told_until : ℕ → ℕ → List Part → List Part
  told_until i zero parts = parts
  told_until i (suc n) [] = []
  told_until i (suc n) (p ∷ parts) = told_part cols i p ∷ told_until (suc i) n parts

  pub until_at : (i n : ℕ) (parts : List Part) (d : Part) → get_or (told_until i n parts) n d ≡ get_or parts n d
  until_at i zero parts d = refl
  until_at i (suc n) [] d = refl
  until_at i (suc n) (p ∷ parts) d = until_at (suc i) n parts d

  set_more : (i n : ℕ) (parts : List Part) (d : Part) → n < length parts → set (told_until i n parts) n (told_part cols (i + n) (get_or parts n d)) ≡ told_until i (suc n) parts
  set_more i zero [] d lt = absurd (omega arith)
  set_more i zero (p ∷ parts) d lt = let e : i + 0 ≡ i = omega arith in ap (λ k. told_part cols k p ∷ parts) e
  set_more i (suc n) [] d lt = absurd (omega arith)
  set_more i (suc n) (p ∷ parts) d lt =
      let e : i + suc n ≡ suc i + n = omega arith in
      ap (λ k. told_part cols i p ∷ set (told_until (suc i) n parts) n (told_part cols k (get_or parts n d))) e
      ∙ ap (λ l. told_part cols i p ∷ l) (set_more (suc i) n parts d (omega arith))

  pub until_end : (i : ℕ) (parts : List Part) → told_until i (length parts) parts ≡ told_from cols i parts
  until_end i [] = refl
  until_end i (p ∷ parts) = ap (λ l. told_part cols i p ∷ l) (until_end (suc i) parts)

  pub until_more : (n : ℕ) (parts : List Part) (d : Part) → n < length parts → set (told_until 0 n parts) n (told_part cols n (get_or parts n d)) ≡ told_until 0 (n + 1) parts
  until_more n parts d lt =
      let here : n ≡ 0 + n = omega arith in
      let next : suc n ≡ n + 1 = omega arith in
      ap (λ k. set (told_until 0 n parts) n (told_part cols k (get_or parts n d))) here ∙ set_more 0 n parts d lt ∙ ap (λ k. told_until 0 k parts) next
