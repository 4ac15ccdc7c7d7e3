-- Points and marks of views, and the least of them.
use Rattle.std.proofs.Common.{◌≡◌, ℕ, ◌+◌, ◌<◌, ◌≤◌, List, [], ◌∷◌, ◌++◌, refl, ◌∙◌, ap, arith, length, get_or, map, take, Some}
use Rattle.std.specs.Prelude.{min, slice_get}
use Rattle.std.proofs.lemmas.List.{take_more}
use Rattle.lv_schema.specs.World.{least}
use Rattle.lv_upkeep.specs.Kept.{least_in}
use Rattle.lv_upkeep.specs.declared.maintained.Maintained.{Maintained}

abbrev pub points_of : List Maintained → List ℕ
points_of ms = map (λ (m : Maintained). m.point) ms

least_append : (n x : ℕ) (xs : List ℕ) → least n (xs ++ x ∷ []) ≡ min (least n xs) x
least_append n x [] = grind arith
least_append n x (y ∷ ys) = let ih = least_append n x ys in grind arith

points_append : (ms : List Maintained) (m : Maintained) → points_of (ms ++ m ∷ []) ≡ points_of ms ++ m.point ∷ []
points_append [] m = refl
points_append (x ∷ ms) m = ap (λ (l : List ℕ). x.point ∷ l) (points_append ms m)

pub least_more : (n : ℕ) (ms : List Maintained) (i : ℕ) (d : Maintained) → i < length ms
    → least n (points_of (take (i + 1) ms)) ≡ min (least n (points_of (take i ms))) (get_or ms i d).point
least_more n ms i d lt =
    ap (λ l. least n (points_of l)) (take_more ms i d lt)
    ∙ ap (least n) (points_append (take i ms) (get_or ms i d))
    ∙ least_append n (get_or ms i d).point (points_of (take i ms))

least_below : (n : ℕ) (xs : List ℕ) → least n xs ≤ n
least_below n [] = omega arith
least_below n (x ∷ xs) = let ih = least_below n xs in grind arith

least_own : (p : ℕ) (ps : List ℕ) → least p (p ∷ ps) ≡ least p ps
least_own p ps = let le = least_below p ps in grind arith

some_is : (x y : Maintained) → Some x ≡ Some y → x ≡ y
some_is x y e = cc

pub first_least : (ms : List Maintained) (m : Maintained) → Some m ≡ slice_get ms 0 → Some (least m.point (points_of ms)) ≡ least_in (points_of ms)
first_least [] m is = cc
first_least (x ∷ ms) m is = ap (λ (y : Maintained). Some (least y.point (points_of (x ∷ ms)))) (some_is m x is) ∙ ap Some (least_own x.point (points_of ms))

abbrev pub no_maintained : Maintained
no_maintained = record { point = 0; mark = 0 }
