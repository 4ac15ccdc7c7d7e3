-- Numbers in blocks: where a place lies, and what a change of a block does to the numbers.
use mathlib.Core.Logic.{⊎_elim}
use Rattle.std.proofs.Common.{◌≡◌, ℕ, zero, suc, ◌+◌, ◌-◌, ◌*◌, ◌/◌, ◌%◌, ◌<◌, ◌≤◌, List, [], ◌∷◌, ◌++◌, length, length-append, take, drop, get_or, set, refl, sym, ap, ap₂, ◌∙◌, subst, arith}
use Rattle.std.specs.List.{concat, insert, remove}
use Rattle.std.proofs.lemmas.Bool.{cases_eq, cases_lt}
use Rattle.std.proofs.lemmas.List.{append_assoc, get_or_push, get_or-append_right, get_or-set_other, get_or-set_same, get_or_append_left, drop-append-le, length-set, length-take, take-append-le, set-append_left, set-append_right, set-get_or}
use Rattle.std.proofs.Math.Nat.{mul-le-mul_left, mul-le-mul_right}
use Rattle.std.proofs.Math.Seq.{drop-append-add}
use Rattle.std.proofs.lemmas.List.Edits.{insert-append_left, insert-append_right, length-insert, length-remove, remove-append_left, remove-append_right}
use Rattle.lv_places.specs.Blocks.{ArePacked, HaveOneMore, LackOne, block_at, share}

-- ---- the numbers round a block
concat_set : (bs : List (List ℕ)) (j : ℕ) (b : List ℕ) → j < length bs → concat (set bs j b) ≡ concat (take j bs) ++ (b ++ concat (drop (suc j) bs))
concat_set [] j b lt = absurd (omega arith)
concat_set (c ∷ bs) zero b lt = refl
concat_set (c ∷ bs) (suc j) b lt = ap (λ l. c ++ l) (concat_set bs j b (omega arith)) ∙ sym (append_assoc c (concat (take j bs)) (b ++ concat (drop (suc j) bs)))

concat_at : (bs : List (List ℕ)) (j : ℕ) → j < length bs → concat bs ≡ concat (take j bs) ++ (block_at bs j ++ concat (drop (suc j) bs))
concat_at bs j lt = ap concat (sym (set-get_or bs j [])) ∙ concat_set bs j (block_at bs j) lt

front_long : (s : ℕ) (bs : List (List ℕ)) (j : ℕ) → j ≤ length bs → ((k : ℕ) → k < j → length (block_at bs k) ≡ s) → length (concat (take j bs)) ≡ j * s
front_long s bs zero le h = omega arith
front_long s [] (suc j) le h = absurd (omega arith)
front_long s (c ∷ bs) (suc j) le h =
    let ih = front_long s bs j (omega arith) (λ k lt. h (suc k) (omega arith)) in
    omega (arith, length-append c (concat (take j bs)), ih, h 0 (omega arith))

-- where a block ends, the next ones begin
before : (s k j : ℕ) → k < j → k * s + s ≤ j * s
before s k j lt = let le : suc k ≤ j = omega arith in omega (arith, mul-le-mul_right s le)

-- the blocks before one that has a number are full
full : (s n : ℕ) (bs : List (List ℕ)) (j : ℕ) → ArePacked s n bs → j ≤ length bs → j * s ≤ n → length (concat (take j bs)) ≡ j * s
full s n bs j p le more = front_long s bs j le (λ k lt. omega (arith, p.shares k (omega arith), before s k j lt, more))

-- a place below the end of all blocks lies in one of them
pub below_end : (s at m : ℕ) → 0 < s → at < s * m → at / s < m
below_end s at m some lt = ⊎_elim
    (λ (less : at / s < m). less)
    (λ (past : m ≤ at / s). absurd (omega (arith, some, lt, mul-le-mul_left s past)))
    (cases_lt (at / s) m)

-- a run in a part is one in the whole
run_longer : (r xs ys : List ℕ) → r ≡ take (length r) xs → r ≡ take (length r) (xs ++ ys)
run_longer r xs ys e = e ∙ sym (take-append-le (length r) xs ys (omega (arith, ap length e, length-take (length r) xs)))

-- ---- a read and a change at a place of the numbers: of one block
module _ (s n : ℕ) (bs : List (List ℕ)) (at : ℕ) where
  abbrev here : List ℕ
  here = block_at bs (at / s)

  abbrev front : List ℕ
  front = concat (take (at / s) bs)

  abbrev behind : List ℕ
  behind = concat (drop (suc (at / s)) bs)

  -- the block of a place, and where in it the place lies
  record IsPlace : Type 0 where
    pub lt : at / s < length bs
    pub long : length front ≡ at / s * s
    pub from : at / s * s ≤ at
    pub is : at - at / s * s ≡ at % s
    pub upto : at % s ≤ length here
    pub within : at < n → at % s < length here

  place : 0 < s → ArePacked s n bs → at ≤ n → at < s * length bs → IsPlace
  place some p le fits =
      let lt = below_end s at (length bs) some fits in
      record {
        lt = lt;
        long = full s n bs (at / s) p (omega (arith, lt)) (omega (arith, le));
        from = omega arith;
        is = omega arith;
        upto = omega (arith, p.shares (at / s) lt, le);
        within = λ less. omega (arith, p.shares (at / s) lt, less);
      }

  place_below : 0 < s → ArePacked s n bs → at < n → IsPlace
  place_below some p less = place some p (omega (arith, less)) (omega (arith, p.fits, less))

  pub got_in : (d : ℕ) → 0 < s → ArePacked s n bs → at < n → get_or here (at % s) d ≡ get_or (concat bs) at d
  got_in d some p less =
      let i = place_below some p less in
      sym (get_or_append_left here behind d (at % s) (i.within less))
      ∙ ap (λ o. get_or (here ++ behind) o d) (sym i.is)
      ∙ sym (get_or-append_right front (here ++ behind) (at / s * s) at d i.long i.from)
      ∙ ap (λ l. get_or l at d) (sym (concat_at bs (at / s) i.lt))

  -- a run from a place on in its block is one in the whole
  pub run_in : (r : List ℕ) → 0 < s → ArePacked s n bs → at < n → r ≡ take (length r) (drop (at % s) here) → r ≡ take (length r) (drop at (concat bs))
  run_in r some p less run =
      let i = place_below some p less in
      run_longer r (drop (at % s) here) behind run
      ∙ ap (λ l. take (length r) l) (sym (drop-append-le (at % s) here behind i.upto) ∙ sym (drop-append-add front (here ++ behind) (at % s)))
      ∙ ap (λ k. take (length r) (drop k (front ++ (here ++ behind)))) (omega (arith, i.long, i.is, i.from))
      ∙ ap (λ l. take (length r) (drop at l)) (sym (concat_at bs (at / s) i.lt))

  pub put_in : (x : ℕ) → 0 < s → ArePacked s n bs → at ≤ n → n < s * length bs → concat (set bs (at / s) (insert here (at % s) x)) ≡ insert (concat bs) at x
  put_in x some p le room =
      let i = place some p le (omega (arith, le, room)) in
      concat_set bs (at / s) (insert here (at % s) x) i.lt
      ∙ ap (λ l. front ++ l) (sym (insert-append_left here behind (at % s) x i.upto))
      ∙ ap (λ o. front ++ insert (here ++ behind) o x) (sym i.is)
      ∙ sym (insert-append_right front (here ++ behind) (at / s * s) at x i.long i.from)
      ∙ ap (λ l. insert l at x) (sym (concat_at bs (at / s) i.lt))

  pub taken_in : 0 < s → ArePacked s n bs → at < n → concat (set bs (at / s) (remove here (at % s))) ≡ remove (concat bs) at
  taken_in some p less =
      let i = place_below some p less in
      concat_set bs (at / s) (remove here (at % s)) i.lt
      ∙ ap (λ l. front ++ l) (sym (remove-append_left here behind (at % s) (i.within less)))
      ∙ ap (λ o. front ++ remove (here ++ behind) o) (sym i.is)
      ∙ sym (remove-append_right front (here ++ behind) (at / s * s) at i.long i.from)
      ∙ ap (λ l. remove l at) (sym (concat_at bs (at / s) i.lt))

  pub set_in : (x : ℕ) → 0 < s → ArePacked s n bs → at < n → concat (set bs (at / s) (set here (at % s) x)) ≡ set (concat bs) at x
  set_in x some p less =
      let i = place_below some p less in
      concat_set bs (at / s) (set here (at % s) x) i.lt
      ∙ ap (λ l. front ++ l) (sym (set-append_left here behind (at % s) x (i.within less)))
      ∙ ap (λ o. front ++ set (here ++ behind) o x) (sym i.is)
      ∙ sym (set-append_right front (here ++ behind) (at / s * s) at x i.long i.from)
      ∙ ap (λ l. set l at x) (sym (concat_at bs (at / s) i.lt))

-- ---- a number that goes on to the next block, or back
pub passed : (bs : List (List ℕ)) (j x : ℕ) (b : List ℕ) → suc j < length bs → block_at bs j ≡ b ++ x ∷ [] → concat (set (set bs j b) (suc j) (x ∷ block_at bs (suc j))) ≡ concat bs
passed [] j x b lt e = absurd (omega arith)
passed (c ∷ []) zero x b lt e = absurd (omega arith)
passed (c ∷ d ∷ bs) zero x b lt e = sym (append_assoc b (x ∷ []) (d ++ concat bs)) ∙ ap (λ l. l ++ (d ++ concat bs)) (sym e)
passed (c ∷ bs) (suc j) x b lt e = ap (λ l. c ++ l) (passed bs j x b (omega arith) e)

pub pulled : (bs : List (List ℕ)) (j x : ℕ) (b : List ℕ) → suc j < length bs → block_at bs (suc j) ≡ x ∷ b → concat (set (set bs (suc j) b) j (block_at bs j ++ x ∷ [])) ≡ concat bs
pulled [] j x b lt e = absurd (omega arith)
pulled (c ∷ []) zero x b lt e = absurd (omega arith)
pulled (c ∷ d ∷ bs) zero x b lt e = append_assoc c (x ∷ []) (b ++ concat bs) ∙ ap (λ l. c ++ (l ++ concat bs)) (sym e)
pulled (c ∷ bs) (suc j) x b lt e = ap (λ l. c ++ l) (pulled bs j x b (omega arith) e)

-- ---- blocks that are packed but for one number
pub packed_more : (s n : ℕ) (bs : List (List ℕ)) → ArePacked s n bs → ArePacked s n (bs ++ [] ∷ [])
packed_more s n bs p =
    let none : List (List ℕ) = [] ∷ [] in
    let long = length-append bs none in
    record {
      shares = λ j lt. ⊎_elim
          (λ (e : j ≡ length bs). ap length (get_or_push bs [] [] j (sym e)) ∙ empty_past j e)
          (λ (ne : j ≡ length bs → ⊥). let within : j < length bs = omega (arith, lt, long, ne) in ap length (get_or_append_left bs none [] j within) ∙ p.shares j within)
          (cases_eq j (length bs));
      fits = omega (arith, p.fits, ap (λ m. s * m) long);
    }
  where
    empty_past : (j : ℕ) → j ≡ length bs → 0 ≡ share s n j
    empty_past j e = omega (arith, p.fits, ap (λ m. m * s) e)

pub packed_added : (s n : ℕ) (bs : List (List ℕ)) (j o x : ℕ) → ArePacked s n bs → j < length bs → o ≤ length (block_at bs j) → HaveOneMore s n j (set bs j (insert (block_at bs j) o x))
packed_added s n bs j o x p lt le = record {
  over = ap length (get_or-set_same bs j (insert (block_at bs j) o x) [] lt) ∙ length-insert (block_at bs j) o x le ∙ ap (λ m. m + 1) (p.shares j lt);
  shares = λ k ne within. ap length (get_or-set_other bs j k (insert (block_at bs j) o x) [] ne) ∙ p.shares k (omega (arith, within, length-set bs j (insert (block_at bs j) o x)));
}

pub packed_taken : (s n : ℕ) (bs : List (List ℕ)) (j o : ℕ) → ArePacked s n bs → j < length bs → o < length (block_at bs j) → LackOne s n j (set bs j (remove (block_at bs j) o))
packed_taken s n bs j o p lt le = record {
  lacks = ap (λ b. length b + 1) (get_or-set_same bs j (remove (block_at bs j) o) [] lt) ∙ length-remove (block_at bs j) o le ∙ p.shares j lt;
  shares = λ k ne within. ap length (get_or-set_other bs j k (remove (block_at bs j) o) [] ne) ∙ p.shares k (omega (arith, within, length-set bs j (remove (block_at bs j) o)));
}

-- what two changes of neighbours leave elsewhere
set_twice : (bs : List (List ℕ)) (i j k : ℕ) (b c : List ℕ) → (k ≡ i → ⊥) → (k ≡ j → ⊥) → block_at (set (set bs i b) j c) k ≡ block_at bs k
set_twice bs i j k b c ne ne' = get_or-set_other (set bs i b) j k c [] ne' ∙ get_or-set_other bs i k b [] ne

pub record IsMoved (more : ℕ → List (List ℕ) → Type 0) (i : ℕ) (old new : List (List ℕ)) : Type 0 where
  pub same : concat new ≡ concat old
  pub but : more i new
  pub count : length new ≡ length old

pub passed_on : (s n i j x : ℕ) (bs mid new : List (List ℕ)) → i ≡ suc j → j < n / s → n / s < length bs → HaveOneMore s n j bs
    → block_at bs j ≡ block_at mid j ++ x ∷ [] → mid ≡ set bs j (block_at mid j) → new ≡ set mid i (x ∷ block_at mid i) → IsMoved (HaveOneMore s n) i bs new
passed_on s n i j x bs mid new is lt last p rest to onto =
    let b = block_at mid j in
    let within : i < length bs = omega (arith, is, lt, last) in
    let ne : i ≡ j → ⊥ = λ e. omega (arith, is, e) in
    let next : block_at mid i ≡ block_at bs i = ap (λ l. block_at l i) to ∙ get_or-set_other bs j i b [] ne in
    let is_new : new ≡ set (set bs j b) i (x ∷ block_at bs i) = onto ∙ ap₂ (λ l c. set l i (x ∷ c)) to next in
    let wide = length-set bs j b in
    record {
      same = ap concat is_new ∙ subst (λ k. concat (set (set bs j b) k (x ∷ block_at bs k)) ≡ concat bs) (sym is) (passed bs j x b (omega (arith, within, is)) rest);
      but = record {
        over = ap (λ l. length (block_at l i)) is_new ∙ ap length (get_or-set_same (set bs j b) i (x ∷ block_at bs i) [] (omega (arith, within, wide))) ∙ omega (arith, p.shares i ne within);
        shares = λ k ne' lt'. ap (λ l. length (block_at l k)) is_new ∙ ⊎_elim
            (λ (e : k ≡ j).
            ap (λ m. length (block_at (set (set bs j b) i (x ∷ block_at bs i)) m)) e
            ∙ ap length (get_or-set_other (set bs j b) i j (x ∷ block_at bs i) [] (λ e'. ne (sym e')) ∙ get_or-set_same bs j b [] (omega (arith, within, is)))
            ∙ omega (arith, ap length rest, length-append b (x ∷ []), p.over)
            ∙ ap (share s n) (sym e))
            (λ (other : k ≡ j → ⊥). ap length (set_twice bs j i k b (x ∷ block_at bs i) other ne') ∙ p.shares k other (omega (arith, lt', ap length is_new, length-set (set bs j b) i (x ∷ block_at bs i), wide)))
            (cases_eq k j);
      };
      count = ap length is_new ∙ length-set (set bs j b) i (x ∷ block_at bs i) ∙ wide;
    }

pub pulled_up : (s n i j x : ℕ) (bs mid new : List (List ℕ)) → i ≡ suc j → i < length bs → LackOne s n j bs
    → block_at bs i ≡ x ∷ block_at mid i → mid ≡ set bs i (block_at mid i) → new ≡ set mid j (block_at mid j ++ x ∷ []) → IsMoved (LackOne s n) i bs new
pulled_up s n i j x bs mid new is within p rest to onto =
    let b = block_at mid i in
    let ne : i ≡ j → ⊥ = λ e. omega (arith, is, e) in
    let ne_back : j ≡ i → ⊥ = λ e. omega (arith, is, e) in
    let here : block_at mid j ≡ block_at bs j = ap (λ l. block_at l j) to ∙ get_or-set_other bs i j b [] ne_back in
    let more : List ℕ = block_at bs j ++ x ∷ [] in
    let is_new : new ≡ set (set bs i b) j more = onto ∙ ap₂ (λ l c. set l j (c ++ x ∷ [])) to here in
    let wide = length-set bs i b in
    record {
      same = ap concat is_new ∙ pulled_at is within rest;
      but = record {
        lacks = ap (λ l. length (block_at l i) + 1) is_new
            ∙ ap (λ l. length l + 1) (get_or-set_other (set bs i b) j i more [] ne ∙ get_or-set_same bs i b [] within)
            ∙ omega (arith, ap length rest, p.shares i ne within);
        shares = λ k ne' lt'. ap (λ l. length (block_at l k)) is_new ∙ ⊎_elim
            (λ (e : k ≡ j).
            ap (λ m. length (block_at (set (set bs i b) j more) m)) e
            ∙ ap length (get_or-set_same (set bs i b) j more [] (omega (arith, within, is, wide)))
            ∙ length-append (block_at bs j) (x ∷ [])
            ∙ p.lacks
            ∙ ap (share s n) (sym e))
            (λ (other : k ≡ j → ⊥). ap length (set_twice bs i j k b more ne' other) ∙ p.shares k other (omega (arith, lt', ap length is_new, length-set (set bs i b) j more, wide)))
            (cases_eq k j);
      };
      count = ap length is_new ∙ length-set (set bs i b) j more ∙ wide;
    }
  where
    pulled_at : {k : ℕ} → k ≡ suc j → k < length bs → block_at bs k ≡ x ∷ block_at mid k → concat (set (set bs k (block_at mid k)) j (block_at bs j ++ x ∷ [])) ≡ concat bs
    pulled_at {k} e lt r = subst (λ m. concat (set (set bs m (block_at mid k)) j (block_at bs j ++ x ∷ [])) ≡ concat bs) (sym e) (pulled bs j x (block_at mid k) (omega (arith, lt, e)) (ap (block_at bs) (sym e) ∙ r))

-- ---- and packed again
-- which numbers lie in a block of which the number comes from a division
pub in_block : (s n j : ℕ) → 0 < s → j ≡ n / s → (j * s ≤ n) × (n < j * s + s)
in_block s n j some is = (omega (arith, there), omega (arith, there))
  where
    there : j * s ≡ s * (n / s)
    there = omega (arith, ap (λ m. m * s) is)

-- the shares of two counts elsewhere, where they differ in a block
beside : (s n j k : ℕ) → j * s ≤ n → n < j * s + s → (k ≡ j → ⊥) → share s n k ≡ share s (n + 1) k
beside s n j k le lt ne = ⊎_elim
    (λ (less : k < j). omega (arith, le, before s k j less))
    (λ (past : j ≤ k). omega (arith, lt, before s j k (omega (arith, past, ne))))
    (cases_lt k j)

pub packed_on : (s n j : ℕ) (bs : List (List ℕ)) → j * s ≤ n → n < j * s + s → j < length bs → HaveOneMore s n j bs → ArePacked s (n + 1) bs
packed_on s n j bs le less lt p = record {
  shares = λ k within. ⊎_elim
      (λ (e : k ≡ j). ap (λ m. length (block_at bs m)) e ∙ p.over ∙ here k e)
      (λ (ne : k ≡ j → ⊥). p.shares k ne within ∙ beside s n j k le less ne)
      (cases_eq k j);
  fits = omega (arith, less, before s j (length bs) lt);
}
  where
    here : (k : ℕ) → k ≡ j → share s n j + 1 ≡ share s (n + 1) k
    here k e = omega (arith, le, less, ap (λ m. m * s) e)

pub packed_back : (s n m j : ℕ) (bs : List (List ℕ)) → n ≡ m + 1 → j * s ≤ m → m < j * s + s → n ≤ s * length bs → LackOne s n j bs → ArePacked s m bs
packed_back s n m j bs one le less fit p = record {
  shares = λ k within. ⊎_elim
      (λ (e : k ≡ j). here k e (ap (λ i. length (block_at bs i) + 1) e ∙ p.lacks))
      (λ (ne : k ≡ j → ⊥). p.shares k ne within ∙ ap (λ i. share s i k) one ∙ sym (beside s m j k le less ne))
      (cases_eq k j);
  fits = omega (arith, one, fit);
}
  where
    here : (k : ℕ) → k ≡ j → length (block_at bs k) + 1 ≡ share s n j → length (block_at bs k) ≡ share s m k
    here k e h = omega (arith, one, le, less, ap (λ i. i * s) e, h)

-- blocks with room for a number have a size
pub some_size : (s n m : ℕ) → n < s * m → 0 < s
some_size zero n m lt = absurd (omega (arith, lt))
some_size (suc s) n m lt = omega arith
