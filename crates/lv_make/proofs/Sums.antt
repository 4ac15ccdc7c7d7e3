-- Sums of wrapped numbers, one more at a time.
use Rattle.std.proofs.Common.{◌≡◌, ℕ, ◌+◌, ◌<◌, ℤ, pos, ◌+ℤ◌, List, [], ◌∷◌, ◌++◌, length, take, get_or, sym, ap, ◌∙◌, arith}
use Rattle.std.proofs.lemmas.Int.{ints, int_wrap-add_left, int_wrap-add_right}
use Rattle.std.proofs.lemmas.List.{take_more}
use Rattle.std.specs.Int.{int_wrap, w128}
use Rattle.lv_schema.specs.Groups.{total}
use Rattle.lv_schema.proofs.Totals.{total-append}

total_more : {X : Type 0} (f : X → ℤ) (xs : List X) (i : ℕ) (x : X) → i < length xs → x ≡ get_or xs i x → total f (take (i + 1) xs) ≡ total f (take i xs) +ℤ f x
total_more f xs i x within is =
    ap (total f) (take_more xs i x within ∙ ap (λ y. take i xs ++ y ∷ []) (sym is))
    ∙ total-append f (take i xs) (x ∷ [])
    ∙ ap (λ n. total f (take i xs) +ℤ n) (let e : f x +ℤ pos 0 ≡ f x = omega (arith, ints) in e)

-- a loop's step
pub wrapped_more : {X : Type 0} (f : X → ℤ) (xs : List X) (i : ℕ) (x : X) (before after : ℤ) → i < length xs → x ≡ get_or xs i x →
    before ≡ int_wrap w128 (total f (take i xs)) → after ≡ int_wrap w128 (before +ℤ f x) → after ≡ int_wrap w128 (total f (take (i + 1) xs))
wrapped_more f xs i x before after within is so_far step =
    step
    ∙ ap (λ n. int_wrap w128 (n +ℤ f x)) so_far
    ∙ int_wrap-add_left w128 (total f (take i xs)) (f x)
    ∙ ap (int_wrap w128) (sym (total_more f xs i x within is))

-- the same where what is added is wrapped too
pub wrapped_wrapped_more : {X : Type 0} (f : X → ℤ) (xs : List X) (i : ℕ) (x : X) (before after : ℤ) → i < length xs → x ≡ get_or xs i x →
    before ≡ int_wrap w128 (total f (take i xs)) → after ≡ int_wrap w128 (before +ℤ int_wrap w128 (f x)) → after ≡ int_wrap w128 (total f (take (i + 1) xs))
wrapped_wrapped_more f xs i x before after within is so_far step =
    wrapped_more f xs i x before after within is so_far (step ∙ int_wrap-add_right w128 before (f x))
