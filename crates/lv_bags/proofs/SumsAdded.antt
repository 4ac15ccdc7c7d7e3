-- Sums added place by place, one place more at a time.
use Rattle.std.proofs.Common.{◌≡◌, ℕ, zero, suc, ◌+◌, ◌<◌, ℤ, pos, ◌+ℤ◌, List, [], ◌∷◌, ◌++◌, length, take, drop, get_or, refl, sym, ap, ◌∙◌, arith, add-one}
use Rattle.std.proofs.Math.ListN.{set}
use Rattle.std.proofs.lemmas.List.{append-nil, drop_all, take_all}
use Rattle.std.specs.Int.{int_wrap, w128}
use Rattle.lv_bags.specs.Tallies.{sums_added}

-- a place that is not yet added
not_yet : (xs ys : List ℤ) (j : ℕ) → j < length xs → length xs ≡ length ys → get_or (sums_added (take j xs) (take j ys) ++ drop j xs) j (pos 0) ≡ get_or xs j (pos 0)
not_yet [] ys j h e = absurd (omega arith)
not_yet (x ∷ xs) [] j h e = absurd (omega arith)
not_yet (x ∷ xs) (y ∷ ys) zero h e = refl
not_yet (x ∷ xs) (y ∷ ys) (suc j) h e = not_yet xs ys j (omega arith) (omega arith)

one_more : (xs ys : List ℤ) (j : ℕ) → j < length xs → length xs ≡ length ys → set (sums_added (take j xs) (take j ys) ++ drop j xs) j (int_wrap w128 (get_or xs j (pos 0) +ℤ get_or ys j (pos 0))) ≡ sums_added (take (suc j) xs) (take (suc j) ys) ++ drop (suc j) xs
one_more [] ys j h e = absurd (omega arith)
one_more (x ∷ xs) [] j h e = absurd (omega arith)
one_more (x ∷ xs) (y ∷ ys) zero h e = refl
one_more (x ∷ xs) (y ∷ ys) (suc j) h e = ap (λ l. int_wrap w128 (x +ℤ y) ∷ l) (one_more xs ys j (omega arith) (omega arith))

-- a loop's step
pub added_step : (xs ys so_far : List ℤ) (j : ℕ) (v : ℤ) → j < length xs → length xs ≡ length ys → so_far ≡ sums_added (take j xs) (take j ys) ++ drop j xs → v ≡ int_wrap w128 (get_or so_far j (pos 0) +ℤ get_or ys j (pos 0)) → set so_far j v ≡ sums_added (take (j + 1) xs) (take (j + 1) ys) ++ drop (j + 1) xs
added_step xs ys so_far j v h e is value =
    (λ i. set (is i) j (value i))
    ∙ (λ i. set (sums_added (take j xs) (take j ys) ++ drop j xs) j (int_wrap w128 ((ap (λ l. get_or l j (pos 0)) is ∙ not_yet xs ys j h e) i +ℤ get_or ys j (pos 0))))
    ∙ one_more xs ys j h e
    ∙ ap (λ n. sums_added (take n xs) (take n ys) ++ drop n xs) (sym (add-one j))

-- all of a vector, written through a slice
pub whole : (len : ℕ) (new items : List ℤ) → length new ≡ length items → len ≡ length items → take len (new ++ drop (length new) items) ≡ new
whole len new items e f =
    ap (λ l. take len (new ++ l)) (drop_all (length new) items (omega arith)) ∙ ap (take len) (append-nil new) ∙ take_all len new (omega arith)
