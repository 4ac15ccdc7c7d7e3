-- Rounds, over the sessions in order.
use Rattle.std.proofs.Common.{◌≡◌, ℕ, zero, suc, ◌+◌, ◌-◌, ◌<◌, ◌≤◌, cond, nat_lt, List, [], ◌∷◌, ◌++◌, length, map, slice_index, refl, ap, arith}
use Rattle.std.specs.List.{flat_map, range_with_len}
use Rattle.std.proofs.lemmas.Grind.{common_steps, same_number_lists}
use Rattle.std.proofs.lemmas.List.FromFn.{get_or-map-range_with_len, length-map-range_with_len}
use Rattle.lv_plain.specs.declared.event.Event.{Event}
use Rattle.lv_plain.specs.declared.event.Event.TheVariants.{Turn as turn_of}
use Rattle.lv_plain.specs.Events.{greatest, round, rounds}
use Rattle.lv_order.specs.Left.{left_in}

-- a round with one more session
pub round_more : (left : ℕ → ℕ) (k a n : ℕ) → round (range_with_len a (n + 1)) left k ≡ round (range_with_len a n) left k ++ cond (nat_lt k (left (a + n))) (turn_of (a + n) ∷ []) []
round_more left k a zero = grind (arith, common_steps)
round_more left k a (suc n) = grind (arith, common_steps, round_more left k (a + 1) n)

pub next_round : (left : List ℕ) (k n : ℕ) → round (range_with_len 1 (n + 1)) (left_in left) k ≡ round (range_with_len 1 n) (left_in left) k ++ cond (nat_lt k (slice_index left n)) (turn_of (n + 1) ∷ []) []
next_round left k n = grind (arith, common_steps, round_more (left_in left) k 1 n)

-- one more round
pub rounds_more : (f : ℕ → List Event) (a n : ℕ) → flat_map f (range_with_len a (n + 1)) ≡ flat_map f (range_with_len a n) ++ f (a + n)
rounds_more f a zero = grind (arith, common_steps)
rounds_more f a (suc n) = grind (arith, common_steps, rounds_more f (a + 1) n)

-- the numbers of a list, by session
pub left_in_each : (left : List ℕ) → map (left_in left) (range_with_len 1 (length left)) ≡ left
left_in_each left = same_number_lists _ _ (length-map-range_with_len (left_in left) 1 (length left)) by
  where
    by : (k : ℕ) → k < length (map (left_in left) (range_with_len 1 (length left))) → slice_index (map (left_in left) (range_with_len 1 (length left))) k ≡ slice_index left k
    by k lt =
        let low : k < length left = rw (← length-map-range_with_len (left_in left) 1 (length left)) lt in
        let at = get_or-map-range_with_len (left_in left) 1 (length left) k (1 + k) 0 low refl in
        grind (arith, common_steps, at)

-- rounds depend only on what is left of the sessions in them
module _ (f g : ℕ → ℕ) where
  abbrev Same : ℕ → ℕ → Type 0
  Same a n = (s : ℕ) → a ≤ s → s < a + n → f s ≡ g s

  same_map : (a n : ℕ) → Same a n → map f (range_with_len a n) ≡ map g (range_with_len a n)
  same_map a zero same = refl
  same_map a (suc n) same =
      let first : f a ≡ g a = same a (omega arith) (omega arith) in
      let rest = same_map (a + 1) n (λ s low high. same s (omega arith) (omega arith)) in
      cc

  same_round : (k a n : ℕ) → Same a n → round (range_with_len a n) f k ≡ round (range_with_len a n) g k
  same_round k a zero same = refl
  same_round k a (suc n) same =
      let first : f a ≡ g a = same a (omega arith) (omega arith) in
      let rest = same_round k (a + 1) n (λ s low high. same s (omega arith) (omega arith)) in
      grind (arith, common_steps, first, rest)

  same_rounds : (a n : ℕ) → Same a n → (ks : List ℕ) → flat_map (round (range_with_len a n) f) ks ≡ flat_map (round (range_with_len a n) g) ks
  same_rounds a n same [] = refl
  same_rounds a n same (k ∷ ks) =
      let first = same_round k a n same in
      let rest = same_rounds a n same ks in
      cc

  pub rounds_same : (a n : ℕ) → Same a n → rounds (range_with_len a n) f ≡ rounds (range_with_len a n) g
  rounds_same a n same =
      let most : greatest (map f (range_with_len a n)) ≡ greatest (map g (range_with_len a n)) = ap greatest (same_map a n same) in
      rw most (same_rounds a n same (range_with_len 0 (greatest (map g (range_with_len a n)))))

-- where the numbers of a list are those of a function, so are the rounds
pub rounds_of_list : (f : ℕ → ℕ) (n : ℕ) → rounds (range_with_len 1 (length (map f (range_with_len 1 n)))) (left_in (map f (range_with_len 1 n))) ≡ rounds (range_with_len 1 n) f
rounds_of_list f n =
    rw (length-map-range_with_len f 1 n) (rounds_same (left_in (map f (range_with_len 1 n))) f 1 n (λ s low high. get_or-map-range_with_len f 1 n (s - 1) s 0 (omega arith) (omega arith)))
