-- Numbers are read from their decimal texts alone, and these are read as the numbers.
use Rattle.std.proofs.Common.{◌≡◌, ◌≢◌, ℕ, zero, suc, ◌+◌, ◌-◌, ◌*◌, ◌/◌, ◌%◌, ◌^◌, ◌<◌, ◌≤◌, Bool, true, false, cond, ◌&&◌, eqb, nat_lt, nat_le, List, [], ◌∷◌, ◌++◌, length, take, get_or, Option, Some, None, refl, sym, ap, subst, ◌∙◌, length-append, arith}
use Rattle.std.specs.Prelude.{decimal, codes, option_and_then, ℤ, pos, negsuc, ◌-ℤ◌}
use Rattle.std.specs.Char.{is_ascii_digit}
use Rattle.std.specs.Fmt.{signed_decimal}
use Rattle.std.specs.List.{list_all}
use Rattle.std.proofs.lemmas.List.{take_more, take_all, length-take-le}
use Rattle.std.proofs.lemmas.Int.{ints}
use Rattle.std.proofs.lemmas.Fmt.{decimal_digit, decimal_step_wide, decimal_by_steps_wide}
use Rattle.lv_reading.specs.Reading.{begins, stops}
use Rattle.lv_reading.specs.Numbers.{longer, number_on, number_of, has_leading_zero, wide, natural, IsWide, plain, negated, positive, negative, number}
use Rattle.lv_reading.proofs.Digits.{number_is}
use Rattle.lv_reading.proofs.Again.{run_again, begins_again, expect_again}
use Rattle.lv_reading.proofs.Takes.{Takes, then_takes, given_takes, below_takes, choice_takes, expect_takes, run_takes}

number_on_push : (ds : List ℕ) (d : ℕ) (o : Option ℕ) → number_on (ds ++ d ∷ []) o ≡ option_and_then (λ n. longer n d) (number_on ds o)
number_on_push [] d o = refl
number_on_push (b ∷ bs) d o = number_on_push bs d (option_and_then (λ n. longer n b) o)

-- ---- what is read was written

longer_some : (n d m : ℕ) → longer n d ≡ Some m → (is_ascii_digit d ≡ true) × (n * 10 + (d - 48) ≡ m) × (m < 2 ^ 128)
longer_some n d m e = grind arith

digit_bounds : (d : ℕ) → is_ascii_digit d ≡ true → (48 ≤ d) × (d ≤ 57)
digit_bounds d e = grind arith

option_some : {A B : Type 0} (f : A → Option B) (o : Option A) (y : B) → option_and_then f o ≡ Some y → (x : A) × (o ≡ Some x) × (f x ≡ Some y)
option_some f (Some x) y e = (x, refl, e)
option_some f None y e = absurd cc

zero_front : (ds : List ℕ) (d : ℕ) → 0 < length ds → has_leading_zero (ds ++ d ∷ []) ≡ false → has_leading_zero ds ≡ false
zero_front [] d h z = refl
zero_front (a ∷ []) d h z = refl
zero_front (a ∷ b ∷ ds) d h z = z

-- digits that read as 0 are no front of more digits without a leading zero
not_zero : (ds : List ℕ) (d : ℕ) → 0 < length ds → has_leading_zero (ds ++ d ∷ []) ≡ false → decimal 0 ≡ ds → ⊥
not_zero ds d h z e =
    let is : 48 ∷ [] ≡ ds = sym (decimal_digit 0 (omega arith)) ∙ e in
    let bad : has_leading_zero ((48 ∷ []) ++ d ∷ []) ≡ false = ap (λ (xs : List ℕ). has_leading_zero (xs ++ d ∷ [])) is ∙ z in
    cc

-- the digits in front, and one more
digits_push : (front : List ℕ) (d n m : ℕ) → 0 < length front → has_leading_zero (front ++ d ∷ []) ≡ false → decimal m ≡ front → m < 2 ^ 128 → longer m d ≡ Some n → (decimal n ≡ front ++ d ∷ []) × (n < 2 ^ 128)
digits_push front d n m long z e fits h =
    let s = longer_some m d n h in
    let bounds = digit_bounds d s.0 in
    let positive : m ≢ 0 = λ (is : m ≡ 0). not_zero front d long z (ap decimal (sym is) ∙ e) in
    let ten : 10 ≤ n = omega arith in
    let high : n / 10 ≡ m = omega arith in
    let low : 48 + n % 10 ≡ d = omega arith in
    (decimal_step_wide n ten (omega (arith, s.2)) ∙ ap (λ (k : ℕ). decimal k ++ (48 + n % 10) ∷ []) high ∙ ap (λ (xs : List ℕ). xs ++ (48 + n % 10) ∷ []) e ∙ ap (λ (k : ℕ). front ++ k ∷ []) low, s.2)

digits_are : (k : ℕ) (ds : List ℕ) (n : ℕ) → length ds ≡ suc k → has_leading_zero ds ≡ false → number_on ds (Some 0) ≡ Some n → (decimal n ≡ ds) × (n < 2 ^ 128)
digits_are zero [] n len z e = absurd (omega arith)
digits_are zero (d ∷ []) n len z e =
    let s = longer_some 0 d n e in
    let bounds = digit_bounds d s.0 in
    let low : 48 + n ≡ d = omega arith in
    (decimal_digit n (omega arith) ∙ ap (λ (k : ℕ). k ∷ []) low, s.2)
digits_are zero (a ∷ b ∷ ds) n len z e = absurd (omega arith)
digits_are (suc k) ds n len z e =
    let lt : suc k < length ds = omega arith in
    let whole : take (suc k + 1) ds ≡ ds = take_all (suc k + 1) ds (omega arith) in
    let parts : ds ≡ take (suc k) ds ++ get_or ds (suc k) 0 ∷ [] = sym whole ∙ take_more ds (suc k) 0 lt in
    let front_len : length (take (suc k) ds) ≡ suc k = length-take-le (suc k) ds (omega arith) in
    let z2 : has_leading_zero (take (suc k) ds ++ get_or ds (suc k) 0 ∷ []) ≡ false = ap has_leading_zero (sym parts) ∙ z in
    let e2 : option_and_then (λ m. longer m (get_or ds (suc k) 0)) (number_on (take (suc k) ds) (Some 0)) ≡ Some n =
    sym (number_on_push (take (suc k) ds) (get_or ds (suc k) 0) (Some 0)) ∙ ap (λ (xs : List ℕ). number_on xs (Some 0)) (sym parts) ∙ e in
    let s = option_some (λ m. longer m (get_or ds (suc k) 0)) (number_on (take (suc k) ds) (Some 0)) n e2 in
    let before = digits_are k (take (suc k) ds) s.0 front_len (zero_front (take (suc k) ds) (get_or ds (suc k) 0) (omega arith) z2) s.1 in
    let after = digits_push (take (suc k) ds) (get_or ds (suc k) 0) n s.0 (omega arith) z2 before.0 before.1 s.2 in
    (after.0 ∙ sym parts, after.1)

number_of_takes : (ds : List ℕ) (n : ℕ) → number_of ds ≡ Some n → (ds ≡ decimal n) × (n < 2 ^ 128)
number_of_takes [] n e = absurd cc
number_of_takes (d ∷ ds) n e = at (has_leading_zero (d ∷ ds)) refl e where
  at : (t : Bool) → has_leading_zero (d ∷ ds) ≡ t → cond t None (number_on (d ∷ ds) (Some 0)) ≡ Some n → (d ∷ ds ≡ decimal n) × (n < 2 ^ 128)
  at true z h = absurd cc
  at false z h = let s = digits_are (length ds) (d ∷ ds) n refl z h in (sym s.0, s.1)

pub wide_takes : Takes (λ n. n < 2 ^ 128) decimal [] wide
unfolding wide
wide_takes = then_takes (run_takes is_ascii_digit) (λ ds _. given_takes (λ n e. number_of_takes ds n e))

pub natural_takes : (limit : ℕ) → Takes (λ n. n < limit) decimal [] (natural limit)
unfolding natural
natural_takes limit = then_takes wide_takes (λ n _. below_takes limit n refl (λ h. h))

plain_takes : (n : ℕ) (z : ℤ) → plain n ≡ Some z → (decimal n ≡ signed_decimal z) × IsWide z
plain_takes n z e = at (nat_lt n (2 ^ 127)) refl e where
  at : (t : Bool) → nat_lt n (2 ^ 127) ≡ t → cond t (Some (pos n)) None ≡ Some z → (decimal n ≡ signed_decimal z) × IsWide z
  at true h e =
      let P : ℤ → Type 0 = λ z. (decimal n ≡ signed_decimal z) × IsWide z in
      let is : pos n ≡ z = cc in
      subst P is (refl, grind arith)
  at false h e = absurd cc

pub minus_is : (n : ℕ) → pos 0 -ℤ pos (suc n) ≡ negsuc n
minus_is n = omega (arith, ints)

negated_takes : (n : ℕ) (z : ℤ) → negated n ≡ Some z → (45 ∷ decimal n ≡ signed_decimal z) × IsWide z
negated_takes zero z e = absurd cc
negated_takes (suc n) z e = at (nat_lt 0 (suc n) && nat_le (suc n) (2 ^ 127)) refl e where
  at : (t : Bool) → (nat_lt 0 (suc n) && nat_le (suc n) (2 ^ 127)) ≡ t → cond t (Some (pos 0 -ℤ pos (suc n))) None ≡ Some z → (45 ∷ decimal (suc n) ≡ signed_decimal z) × IsWide z
  at true h e =
      let P : ℤ → Type 0 = λ z. (45 ∷ decimal (suc n) ≡ signed_decimal z) × IsWide z in
      let same : pos 0 -ℤ pos (suc n) ≡ z = cc in
      let is : negsuc n ≡ z = sym (minus_is n) ∙ same in
      let fits : n < 2 ^ 127 = grind arith in
      subst P is (refl, fits)
  at false h e = absurd cc

pub number_takes : Takes IsWide signed_decimal [] number
unfolding number positive negative
number_takes = choice_takes _ (then_takes (expect_takes _) (λ _ _. then_takes wide_takes (λ n _. given_takes (λ z e. negated_takes n z e)))) (then_takes wide_takes (λ n _. given_takes (λ z e. plain_takes n z e)))

-- ---- what was written is read again

-- the digits of a number
record IsDecimal (n : ℕ) (ds : List ℕ) : Type 0 where
  digits : list_all is_ascii_digit ds ≡ true
  some : 0 < length ds
  above : 0 < n → 48 < get_or ds 0 0
  value : n < 2 ^ 128 → number_on ds (Some 0) ≡ Some n

digit_is : (d : ℕ) → d < 10 → is_ascii_digit (48 + d) ≡ true
digit_is d h = grind arith

longer_is : (n d : ℕ) → d < 10 → n * 10 + d < 2 ^ 128 → longer n (48 + d) ≡ Some (n * 10 + d)
longer_is n d h fits = grind arith

and_parts : (a b : Bool) → (a && b) ≡ true → (a ≡ true) × (b ≡ true)
and_parts true b e = (refl, e)
and_parts false b e = absurd cc

list_all_push : (p : ℕ → Bool) (ds : List ℕ) (d : ℕ) → list_all p ds ≡ true → p d ≡ true → list_all p (ds ++ d ∷ []) ≡ true
list_all_push p [] d h e = rw e refl
list_all_push p (b ∷ bs) d h e = let parts = and_parts (p b) (list_all p bs) h in rw (parts.0) (list_all_push p bs d parts.1 e)

first_push : (ds : List ℕ) (d : ℕ) → 0 < length ds → get_or (ds ++ d ∷ []) 0 0 ≡ get_or ds 0 0
first_push [] d h = absurd (omega arith)
first_push (b ∷ bs) d h = refl

decimal_is : (n : ℕ) → n < 10 ^ 64 → IsDecimal n (decimal n)
decimal_is = decimal_by_steps_wide IsDecimal one more where
  one : (n : ℕ) → n < 10 → IsDecimal n ((48 + n) ∷ [])
  one n h = record {
    digits = rw (digit_is n h) refl;
    some = omega arith;
    above = λ p. omega arith;
    value = λ fits. longer_is 0 n h (omega arith) ∙ ap (λ (k : ℕ). Some k) (omega arith);
  }

  more : (n : ℕ) (ds : List ℕ) → 10 ≤ n → IsDecimal (n / 10) ds → IsDecimal n (ds ++ ((48 + n % 10) ∷ []))
  more n ds h so_far =
      let low : n % 10 < 10 = omega arith in
      let up : 0 < n / 10 = omega arith in
      record {
        digits = list_all_push is_ascii_digit ds (48 + n % 10) so_far.digits (digit_is (n % 10) low);
        some = omega (arith, length-append ds ((48 + n % 10) ∷ []));
        above = λ p. rw (first_push ds (48 + n % 10) so_far.some) (so_far.above up);
        value = λ fits.
            let fewer : n / 10 < 2 ^ 128 = omega arith in
            let whole : n / 10 * 10 + n % 10 ≡ n = omega arith in
            let room : n / 10 * 10 + n % 10 < 2 ^ 128 = omega arith in
            number_on_push ds (48 + n % 10) (Some 0) ∙ ap (option_and_then (λ k. longer k (48 + n % 10))) (so_far.value fewer) ∙ longer_is (n / 10) (n % 10) low room ∙ ap (λ (k : ℕ). Some k) whole;
      }

plain_first : (ds : List ℕ) → 48 < get_or ds 0 0 → has_leading_zero ds ≡ false
plain_first [] h = refl
plain_first (d ∷ []) h = refl
plain_first (d ∷ e ∷ ds) h = grind arith

decimal_plain : (n : ℕ) → n < 10 ^ 64 → has_leading_zero (decimal n) ≡ false
decimal_plain zero fits = rw (decimal_digit 0 (omega arith)) refl
decimal_plain (suc n) fits = plain_first (decimal (suc n)) ((decimal_is (suc n) fits).above (omega arith))

-- the digits of a number are digits, and there is one
pub decimal_digits : (n : ℕ) → n < 2 ^ 128 → list_all is_ascii_digit (decimal n) ≡ true
decimal_digits n fits = (decimal_is n (omega arith)).digits

pub decimal_some : (n : ℕ) → n < 2 ^ 128 → 0 < length (decimal n)
decimal_some n fits = (decimal_is n (omega arith)).some

pub wide_again : (n : ℕ) (rest : List ℕ) → n < 2 ^ 128 → stops is_ascii_digit rest ≡ true → wide (decimal n ++ rest) ≡ Some (n, rest)
unfolding wide
wide_again n rest fits e =
    let room : n < 10 ^ 64 = omega arith in
    let d = decimal_is n room in
    rw (run_again is_ascii_digit (decimal n) rest d.digits e, number_is (decimal n) d.some (decimal_plain n room), d.value fits) refl

pub natural_again : (limit n : ℕ) (rest : List ℕ) → limit ≤ 2 ^ 128 → n < limit → stops is_ascii_digit rest ≡ true → natural limit (decimal n ++ rest) ≡ Some (n, rest)
unfolding natural
natural_again limit n rest room fits e =
    let test : nat_lt n limit ≡ true = grind arith in
    rw (wide_again n rest (omega arith) e, test) refl

no_minus : (ds rest : List ℕ) → list_all is_ascii_digit ds ≡ true → 0 < length ds → begins (codes "-") (ds ++ rest) ≡ false
unfolding begins
no_minus [] rest h some = absurd (omega arith)
no_minus (d ∷ ds) rest h some =
    let digit : is_ascii_digit d ≡ true = (and_parts (is_ascii_digit d) (list_all is_ascii_digit ds) h).0 in
    let other : eqb 45 d ≡ false = grind arith in
    rw other refl

pub number_again : (z : ℤ) (rest : List ℕ) → IsWide z → stops is_ascii_digit rest ≡ true → number (signed_decimal z ++ rest) ≡ Some (z, rest)
unfolding number positive negative
number_again (pos n) rest fits e =
    let wider : n < 2 ^ 128 = omega arith in
    let test : nat_lt n (2 ^ 127) ≡ true = grind arith in
    rw (no_minus (decimal n) rest (decimal_digits n wider) (decimal_some n wider), wide_again n rest wider e, test) refl
number_again (negsuc n) rest fits e =
    let wider : suc n < 2 ^ 128 = omega arith in
    let test : (nat_lt 0 (suc n) && nat_le (suc n) (2 ^ 127)) ≡ true = grind arith in
    rw (begins_again (codes "-") (decimal (suc n) ++ rest), expect_again (codes "-") (decimal (suc n) ++ rest), wide_again (suc n) rest wider e) (rw test (ap (λ z. Some (z, rest)) (minus_is n)))
