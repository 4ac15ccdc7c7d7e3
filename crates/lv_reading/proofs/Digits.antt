-- Digits, and the number that they are.
use Rattle.std.proofs.Common.{◌≡◌, ℕ, ◌+◌, ◌<◌, List, [], ◌∷◌, length, get_or, drop, Option, Some, None, false, refl, sym, ap, ◌∙◌, arith}
use Rattle.std.proofs.lemmas.List.{drop_more}
use Rattle.lv_reading.specs.Numbers.{number_on, number_of, has_leading_zero, longer}

number_on_none : (ds : List ℕ) → number_on ds None ≡ None
number_on_none [] = refl
number_on_none (d ∷ ds) = number_on_none ds

pub number_fails : (ds : List ℕ) → has_leading_zero ds ≡ false → number_on ds (Some 0) ≡ None → None ≡ number_of ds
number_fails [] z e = refl
number_fails (d ∷ ds) z e = rw z (sym e)

pub number_is : (ds : List ℕ) → 0 < length ds → has_leading_zero ds ≡ false → number_of ds ≡ number_on ds (Some 0)
number_is [] h z = absurd (omega arith)
number_is (d ∷ ds) h z = rw z refl

-- a digit at which the number fails
pub number_stops : (ds : List ℕ) (i n : ℕ) → i < length ds → longer n (get_or ds i 0) ≡ None → number_on (drop i ds) (Some n) ≡ None
number_stops ds i n lt e =
    ap (λ (xs : List ℕ). number_on xs (Some n)) (drop_more ds i 0 lt) ∙ ap (λ (o : Option ℕ). number_on (drop (i + 1) ds) o) e ∙ number_on_none (drop (i + 1) ds)
