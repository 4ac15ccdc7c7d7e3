-- The first piece between line feeds.
use Rattle.std.proofs.Common.{◌≡◌, ℕ, suc, ◌+◌, ◌-◌, ◌<◌, ◌≢◌, Bool, true, false, eqb, List, [], ◌∷◌, length, take, drop, refl, sym, ap, ◌∙◌, arith}
use Rattle.std.specs.List.{All, onto_first}
use Rattle.std.proofs.lemmas.List.{take_rest}
use Rattle.std.proofs.lemmas.List.Elements.{All-nil, All-cons}
use Rattle.lv_lines.specs.ScriptLine.{pieces_of, piece_len}

-- what stands behind the first piece and its line feed
abbrev behind : List ℕ → List ℕ
behind xs = drop 1 (drop (piece_len xs) xs)

pieces_first : (xs : List ℕ) → 0 < length xs → pieces_of xs ≡ take (piece_len xs) xs ∷ pieces_of (behind xs)
pieces_first [] h = absurd (omega arith)
pieces_first (x ∷ []) h = at (eqb x 10) refl where
  at : (t : Bool) → eqb x 10 ≡ t → pieces_of (x ∷ []) ≡ take (piece_len (x ∷ [])) (x ∷ []) ∷ pieces_of (behind (x ∷ []))
  at true is = rw is refl
  at false is = rw is refl
pieces_first (x ∷ y ∷ ys) h = at (eqb x 10) refl (pieces_first (y ∷ ys) (omega arith)) where
  at : (t : Bool) → eqb x 10 ≡ t → pieces_of (y ∷ ys) ≡ take (piece_len (y ∷ ys)) (y ∷ ys) ∷ pieces_of (behind (y ∷ ys))
      → pieces_of (x ∷ y ∷ ys) ≡ take (piece_len (x ∷ y ∷ ys)) (x ∷ y ∷ ys) ∷ pieces_of (behind (x ∷ y ∷ ys))
  at true is more = rw is refl
  at false is more = let one : 1 + piece_len (y ∷ ys) ≡ suc (piece_len (y ∷ ys)) = omega arith in rw (is, one) (ap (onto_first x) more)

no_feed : (xs : List ℕ) → All (λ b. b ≢ 10) (take (piece_len xs) xs)
no_feed [] = All-nil (λ b. b ≢ 10)
no_feed (x ∷ xs) = at (eqb x 10) refl (no_feed xs) where
  at : (t : Bool) → eqb x 10 ≡ t → All (λ b. b ≢ 10) (take (piece_len xs) xs) → All (λ b. b ≢ 10) (take (piece_len (x ∷ xs)) (x ∷ xs))
  at true is more = rw is (All-nil (λ b. b ≢ 10))
  at false is more = let one : 1 + piece_len xs ≡ suc (piece_len xs) = omega arith in rw (is, one) (All-cons (λ b. b ≢ 10) x (take (piece_len xs) xs) (grind arith) more)

-- by a cut at the first line feed, where nothing stands behind the piece
pub pieces_last : (xs front back : List ℕ) → 0 < length xs → front ≡ take (piece_len xs) xs → back ≡ drop (piece_len xs) xs → length back < 1 → pieces_of xs ≡ front ∷ pieces_of back
pieces_last xs front [] some f b none = pieces_first xs some ∙ rw (← f, ← b) refl
pieces_last xs front (x ∷ back) some f b none = absurd (omega arith)

-- and where a line feed does
pub pieces_cut : (xs front back : List ℕ) → 0 < length xs → front ≡ take (piece_len xs) xs → back ≡ drop (piece_len xs) xs → pieces_of xs ≡ front ∷ pieces_of (take (length back - 1) (drop 1 back))
pieces_cut xs front back some f b = pieces_first xs some ∙ rw (← f, ← b) (ap (λ (rest : List ℕ). front ∷ pieces_of rest) (sym (take_rest back 1)))

pub feed_free : (xs front : List ℕ) → front ≡ take (piece_len xs) xs → All (λ b. b ≢ 10) front
feed_free xs front f = rw f (no_feed xs)
