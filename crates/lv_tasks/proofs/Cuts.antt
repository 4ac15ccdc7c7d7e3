-- Cuts of tasks in the order of their commits.
use Rattle.std.proofs.Common.{◌≡◌, ℕ, zero, suc, Bool, true, false, List, [], ◌∷◌, refl, sym, ◌∙◌, ap, arith, length, get_or, ◌<◌, ◌≤◌, ◌+◌, ◌-◌, take, drop, filter, map}
use Rattle.std.specs.Prelude.{◌&&◌, nat_lt, nat_le}
use Rattle.std.specs.List.Sorted.{IsPartitionPoint}
use Rattle.std.proofs.lemmas.Bool.Decides.{nat_tests}
use Rattle.std.proofs.lemmas.List.{get_or_default}
use Rattle.lv_tasks.specs.declared.task.Task.{Task}
use Rattle.lv_tasks.specs.Kept.{tasks_above, commits_between}
use Rattle.lv_tasks.specs.Queues.{Ascend, IsCut, is_upto}

pub cut_from : (test : Task → Bool) (xs : List Task) (i : ℕ) → IsPartitionPoint (λ y. test y ≡ true) (λ y. test y ≡ false) xs i → IsCut test i xs
cut_from test [] i h = tt
cut_from test (x ∷ xs) zero h = (h.1 0 x (omega arith) (omega arith), cut_from test xs zero ((λ k d a b. absurd (omega arith)), (λ k d a b. h.1 (suc k) d (omega arith) (omega arith))))
cut_from test (x ∷ xs) (suc i) h = (h.0 0 x (omega arith) (omega arith), cut_from test xs i ((λ k d a b. h.0 (suc k) d (omega arith) (omega arith)), (λ k d a b. h.1 (suc k) d (omega arith) (omega arith))))

-- a commit is up to a number, or above it
above_not : (n c : ℕ) → nat_le c n ≡ false → nat_lt n c ≡ true
above_not n c e = grind (arith, nat_tests)

upto_not : (n c : ℕ) → nat_le c n ≡ true → nat_lt n c ≡ false
upto_not n c e = grind (arith, nat_tests)

-- of no tasks all are up to a number; where the last one is all are, and where the first one is above it none is
pub none_there : (n count : ℕ) (xs : List Task) → count ≡ 0 → count ≡ length xs → IsCut (is_upto n) count xs
none_there n count xs none long = cut_from (is_upto n) xs count ((λ k d a b. absurd (omega arith)), (λ k d a b. absurd (omega arith)))

pub all_upto : (n count : ℕ) (xs : List Task) (last : Task) → Ascend xs → 0 < count → count ≡ length xs → last ≡ get_or xs (count - 1) last → last.commit ≤ n → IsCut (is_upto n) count xs
all_upto n count xs last up some long is le = cut_from (is_upto n) xs count ((λ k d a b. each k d (omega arith)), (λ k d a b. absurd (omega arith)))
  where
    each : (k : ℕ) (d : Task) → k < count → nat_le (get_or xs k d).commit n ≡ true
    each k d lt =
        let lower : (get_or xs k d).commit ≤ (get_or xs (count - 1) d).commit = up k (count - 1) d (omega arith) (omega arith) in
        let same : (get_or xs (count - 1) d).commit ≡ last.commit = ap (λ (t : Task). t.commit) (get_or_default xs (count - 1) d last (omega arith) ∙ sym is) in
        let below : (get_or xs k d).commit ≤ n = omega arith in
        grind (arith, nat_tests)

pub none_upto : (n : ℕ) (xs : List Task) (first : Task) → Ascend xs → 0 < length xs → first ≡ get_or xs 0 first → n < first.commit → IsCut (is_upto n) 0 xs
none_upto n xs first up some is lt = cut_from (is_upto n) xs 0 ((λ k d a b. absurd (omega arith)), (λ k d a b. each k d (omega arith)))
  where
    each : (k : ℕ) (d : Task) → k < length xs → nat_le (get_or xs k d).commit n ≡ false
    each k d inner =
        let higher : (get_or xs 0 d).commit ≤ (get_or xs k d).commit = up 0 k d (omega arith) inner in
        let same : (get_or xs 0 d).commit ≡ first.commit = ap (λ (t : Task). t.commit) (get_or_default xs 0 d first some ∙ sym is) in
        let above : n < (get_or xs k d).commit = omega arith in
        grind (arith, nat_tests)

pub one_apart : (n at : ℕ) (xs : List Task) (here next : Task) → Ascend xs → at + 1 < length xs → here ≡ get_or xs at here → here.commit ≤ n → next ≡ get_or xs (at + 1) next → n < next.commit → IsCut (is_upto n) (at + 1) xs
one_apart n at xs here next up inner is le behind gt = cut_from (is_upto n) xs (at + 1) ((λ k d a b. lower k d (omega arith)), (λ k d a b. higher k d (omega arith) (omega arith)))
  where
    lower : (k : ℕ) (d : Task) → k < at + 1 → nat_le (get_or xs k d).commit n ≡ true
    lower k d lt =
        let order : (get_or xs k d).commit ≤ (get_or xs at d).commit = up k at d (omega arith) (omega arith) in
        let same : (get_or xs at d).commit ≡ here.commit = ap (λ (t : Task). t.commit) (get_or_default xs at d here (omega arith) ∙ sym is) in
        let below : (get_or xs k d).commit ≤ n = omega arith in
        grind (arith, nat_tests)

    higher : (k : ℕ) (d : Task) → at + 1 ≤ k → k < length xs → nat_le (get_or xs k d).commit n ≡ false
    higher k d ge within =
        let order : (get_or xs (at + 1) d).commit ≤ (get_or xs k d).commit = up (at + 1) k d (omega arith) within in
        let same : (get_or xs (at + 1) d).commit ≡ next.commit = ap (λ (t : Task). t.commit) (get_or_default xs (at + 1) d next inner ∙ sym behind) in
        let above : n < (get_or xs k d).commit = omega arith in
        grind (arith, nat_tests)

and_false : (b : Bool) → (b && false) ≡ false
and_false true = refl
and_false false = refl

nothing_dropped : (i : ℕ) → drop {A = Task} i [] ≡ []
nothing_dropped zero = refl
nothing_dropped (suc i) = refl

pub cut_above : (hi i : ℕ) (xs : List Task) → IsCut (is_upto hi) i xs → tasks_above hi xs ≡ drop i xs
cut_above hi i [] h = sym (nothing_dropped i)
cut_above hi zero (x ∷ xs) h = rw (above_not hi x.commit h.0) (ap (λ (l : List Task). x ∷ l) (cut_above hi zero xs h.1))
cut_above hi (suc i) (x ∷ xs) h = rw (upto_not hi x.commit h.0) (cut_above hi i xs h.1)

-- the tasks above the one number and up to the other
abbrev between : ℕ → ℕ → List Task → List Task
between lo m xs = filter (λ (t : Task). nat_lt lo t.commit && nat_le t.commit m) xs

cut_between : (lo m i j : ℕ) (xs : List Task) → IsCut (is_upto lo) i xs → IsCut (is_upto m) j xs → between lo m xs ≡ drop i (take j xs)
cut_between lo m zero zero [] a b = refl
cut_between lo m zero (suc j) [] a b = refl
cut_between lo m (suc i) zero [] a b = refl
cut_between lo m (suc i) (suc j) [] a b = refl
cut_between lo m zero zero (x ∷ xs) a b = rw (b.0, and_false (nat_lt lo x.commit)) (cut_between lo m zero zero xs a.1 b.1)
cut_between lo m zero (suc j) (x ∷ xs) a b = rw (b.0, above_not lo x.commit a.0) (ap (λ (l : List Task). x ∷ l) (cut_between lo m zero j xs a.1 b.1))
cut_between lo m (suc i) zero (x ∷ xs) a b = rw (upto_not lo x.commit a.0) (cut_between lo m i zero xs a.1 b.1 ∙ nothing_dropped i)
cut_between lo m (suc i) (suc j) (x ∷ xs) a b = rw (upto_not lo x.commit a.0) (cut_between lo m i j xs a.1 b.1)

pub commits_cut : (lo m i j : ℕ) (xs : List Task) → IsCut (is_upto lo) i xs → IsCut (is_upto m) j xs
    → commits_between lo m xs ≡ map (λ (t : Task). t.commit) (drop i (take j xs))
commits_cut lo m i j xs a b = ap (map (λ (t : Task). t.commit)) (cut_between lo m i j xs a b)
