-- Sums of numbers of 64 bits over at most 2 ^ 64 tuples fit in signed 128 bits.
use Rattle.std.proofs.Common.{◌≡◌, ℕ, zero, suc, ◌+◌, ◌-◌, ◌*◌, ◌^◌, ◌<◌, ◌≤◌, ℤ, pos, negsuc, neg_ℤ, ◌-ℤ◌, Bool, true, false, cond, ◌&&◌, List, [], ◌∷◌, length, FitsSigned, refl, sym, subst, arith}
use Rattle.std.specs.Prelude.{nat_lt, nat_le, int_lt, int_le}
use Rattle.std.proofs.lemmas.Int.{ints, int_wrap_fits}
use Rattle.std.proofs.lemmas.Bool.Decides.{nat_tests}
use Rattle.std.proofs.lemmas.List.Sums.{sum_by-cons}
use Rattle.std.specs.List.{AllByRecursion, sum_by}
use Rattle.std.specs.Int.{int_wrap, w128}
use Rattle.std.specs.Int.Signed.{mag}
use lib.IntN.{sub_ℕ}
use Rattle.lv_schema.specs.Databases.{is_int}
use Rattle.lv_schema.specs.Groups.{total}

-- ---- a number as the difference of two, of which one is 0
pub above : ℤ → ℕ
above (pos n) = n
above (negsuc n) = 0

pub below : ℤ → ℕ
below (pos n) = 0
below (negsuc n) = suc n

apart : (z : ℤ) → pos (above z) -ℤ pos (below z) ≡ z
unfolding above below
apart (pos n) = omega (arith, ints)
apart (negsuc n) = omega (arith, ints)

pub total_apart : {X : Type 0} (f : X → ℤ) (xs : List X) → total f xs ≡ pos (sum_by (λ x. above (f x)) xs) -ℤ pos (sum_by (λ x. below (f x)) xs)
total_apart f [] = refl
total_apart f (x ∷ xs) = omega (arith, ints, total_apart f xs, apart (f x), sum_by-cons (λ x. above (f x)) x xs, sum_by-cons (λ x. below (f x)) x xs)

and_left : (a b : Bool) → (a && b) ≡ true → a ≡ true
and_left true b e = refl
and_left false b e = e

and_right : (a b : Bool) → (a && b) ≡ true → b ≡ true
and_right true b e = e
and_right false b e = cc

lt_of : (a b : ℕ) → nat_lt a b ≡ true → a < b
lt_of a b h = grind (arith, nat_tests)

le_of : (a b : ℕ) → nat_le a b ≡ true → a ≤ b
le_of a b h = grind (arith, nat_tests)

above_small : (z : ℤ) → is_int z ≡ true → above z < 2 ^ 63
unfolding above
above_small (pos n) h = let t = and_right (int_le (neg_ℤ (pos (2 ^ 63))) (pos n)) (int_lt (pos n) (pos (2 ^ 63))) h in let u : nat_lt n 9223372036854775808 ≡ true = t in lt_of n 9223372036854775808 u
above_small (negsuc n) h = omega arith

below_small : (z : ℤ) → is_int z ≡ true → below z ≤ 2 ^ 63
unfolding below
below_small (pos n) h = omega arith
below_small (negsuc n) h = let t = and_left (int_le (neg_ℤ (pos (2 ^ 63))) (negsuc n)) (int_lt (negsuc n) (pos (2 ^ 63))) h in let u : nat_le n 9223372036854775807 ≡ true = t in omega (arith, le_of n 9223372036854775807 u)

-- ---- the sum
abbrev pub AllInts : {X : Type 0} → (X → ℤ) → List X → Type 0
AllInts f xs = AllByRecursion (λ x. is_int (f x) ≡ true) xs

above_sum : {X : Type 0} (f : X → ℤ) (xs : List X) → AllInts f xs → sum_by (λ x. above (f x)) xs + length xs ≤ 2 ^ 63 * length xs
above_sum f [] a = omega arith
above_sum f (x ∷ xs) a = omega (arith, sum_by-cons (λ x. above (f x)) x xs, above_small (f x) a.0, above_sum f xs a.1)

below_sum : {X : Type 0} (f : X → ℤ) (xs : List X) → AllInts f xs → sum_by (λ x. below (f x)) xs ≤ 2 ^ 63 * length xs
below_sum f [] a = omega arith
below_sum f (x ∷ xs) a = omega (arith, sum_by-cons (λ x. below (f x)) x xs, below_small (f x) a.0, below_sum f xs a.1)

mag_less : (a b m : ℕ) → a < m → b ≤ m → mag (sub_ℕ a b) < m
mag_less a b m h k = case (nat_lt a b)
  where
    case : (t : Bool) → mag (cond t (negsuc (b - suc a)) (pos (a - b))) < m
    case true = omega arith
    case false = omega arith

mag_apart : (a b m : ℕ) → a < m → b ≤ m → mag (pos a -ℤ pos b) < m
mag_apart a zero m h k = omega arith
mag_apart a (suc b) m h k = mag_less a (suc b) m h k

pub sum_fits : {X : Type 0} (f : X → ℤ) (xs : List X) → AllInts f xs → length xs ≤ 2 ^ 64 → int_wrap w128 (total f xs) ≡ total f xs
sum_fits f xs a few =
    int_wrap_fits w128 (total f xs)
    (subst (λ z. FitsSigned w128 z) (sym (total_apart f xs))
    (record { sfits = mag_apart (sum_by (λ x. above (f x)) xs) (sum_by (λ x. below (f x)) xs) (2 ^ 127) (omega (arith, few, above_sum f xs a)) (omega (arith, few, below_sum f xs a)) }))
