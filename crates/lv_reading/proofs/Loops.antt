-- A loop that reads one after the other: from each turn on, what is still to read gives the same.
use Rattle.std.proofs.Common.{◌≡◌, ℕ, suc, ◌+◌, ◌-◌, ◌≤◌, ◌<◌, Bool, true, false, List, [], ◌∷◌, ◌++◌, length, Option, Some, None, Err, refl, sym, ap, ◌∙◌, arith}
use Rattle.lv_reading.specs.Reading.{Outcome, Reader, many_from, many_onto, times_from, until_from, until, Gives}
use Rattle.lv_reading.specs.declared.stop.Stop.{Stop}
use Rattle.lv_reading.specs.declared.stop.Stop.TheVariants.{Bad, NoMemory}

module _ {A : Type 0} (test : List ℕ → Bool) (p : Reader A) where
  -- one turn
  pub many_more : (count i : ℕ) (found : List A) (bytes : List ℕ) (a : A) (rest : List ℕ) (total : Outcome (List A)) → i < count → test bytes ≡ true → p bytes ≡ Some (a, rest)
      → many_from test p (count - i) found bytes ≡ total → many_from test p (count - (i + 1)) (found ++ a ∷ []) rest ≡ total
  unfolding many_from
  many_more count i found bytes a rest total lt s e so_far =
      let k : count - i ≡ suc (count - (i + 1)) = omega arith in
      let one : many_from test p (count - i) found bytes ≡ many_from test p (count - (i + 1)) (found ++ a ∷ []) rest = rw (k, s, e) refl in
      sym one ∙ so_far

  pub many_stop : (count i : ℕ) (found : List A) (bytes : List ℕ) (total : Outcome (List A)) → i < count → test bytes ≡ true → p bytes ≡ None
      → many_from test p (count - i) found bytes ≡ total → total ≡ None
  unfolding many_from
  many_stop count i found bytes total lt s e so_far =
      let k : count - i ≡ suc (count - (i + 1)) = omega arith in
      let one : many_from test p (count - i) found bytes ≡ None = rw (k, s, e) refl in
      sym so_far ∙ one

  pub many_done : (count i : ℕ) (found : List A) (bytes : List ℕ) (total : Outcome (List A)) → i < count → test bytes ≡ false
      → many_from test p (count - i) found bytes ≡ total → total ≡ Some (found, bytes)
  unfolding many_from
  many_done count i found bytes total lt s so_far =
      let k : count - i ≡ suc (count - (i + 1)) = omega arith in
      let one : many_from test p (count - i) found bytes ≡ Some (found, bytes) = rw (k, s) refl in
      sym so_far ∙ one

  pub many_full : (count i : ℕ) (found : List A) (bytes : List ℕ) (total : Outcome (List A)) → count ≤ i
      → many_from test p (count - i) found bytes ≡ total → total ≡ Some (found, bytes)
  unfolding many_from
  many_full count i found bytes total le so_far =
      let k : count - i ≡ 0 = omega arith in
      let one : many_from test p (count - i) found bytes ≡ Some (found, bytes) = rw k refl in
      sym so_far ∙ one

  pub many_begin : (found : List A) (bytes : List ℕ) → many_from test p (length bytes - 0) found bytes ≡ many_onto test p found bytes
  unfolding many_onto
  many_begin found bytes = let k : length bytes - 0 ≡ length bytes = omega arith in ap (λ (n : ℕ). many_from test p n found bytes) k

module _ {A : Type 0} (p : Reader A) where
  pub times_more : (count i : ℕ) (found : List A) (bytes : List ℕ) (a : A) (rest : List ℕ) (total : Outcome (List A)) → i < count → p bytes ≡ Some (a, rest)
      → times_from p (count - i) found bytes ≡ total → times_from p (count - (i + 1)) (found ++ a ∷ []) rest ≡ total
  unfolding times_from
  times_more count i found bytes a rest total lt e so_far =
      let k : count - i ≡ suc (count - (i + 1)) = omega arith in
      let one : times_from p (count - i) found bytes ≡ times_from p (count - (i + 1)) (found ++ a ∷ []) rest = rw (k, e) refl in
      sym one ∙ so_far

  pub times_stop : (count i : ℕ) (found : List A) (bytes : List ℕ) (total : Outcome (List A)) → i < count → p bytes ≡ None
      → times_from p (count - i) found bytes ≡ total → total ≡ None
  unfolding times_from
  times_stop count i found bytes total lt e so_far =
      let k : count - i ≡ suc (count - (i + 1)) = omega arith in
      let one : times_from p (count - i) found bytes ≡ None = rw (k, e) refl in
      sym so_far ∙ one

  pub times_done : (count i : ℕ) (found : List A) (bytes : List ℕ) (total : Outcome (List A)) → count ≤ i
      → times_from p (count - i) found bytes ≡ total → total ≡ Some (found, bytes)
  unfolding times_from
  times_done count i found bytes total le so_far =
      let k : count - i ≡ 0 = omega arith in
      let one : times_from p (count - i) found bytes ≡ Some (found, bytes) = rw k refl in
      sym so_far ∙ one

module _ {A : Type 0} (p : Reader (Option A)) where
  pub until_more : (count i : ℕ) (found : List A) (bytes : List ℕ) (a : A) (rest : List ℕ) (total : Outcome (List A)) → i < count → p bytes ≡ Some (Some a, rest)
      → until_from p (count - i) found bytes ≡ total → until_from p (count - (i + 1)) (found ++ a ∷ []) rest ≡ total
  unfolding until_from
  until_more count i found bytes a rest total lt e so_far =
      let k : count - i ≡ suc (count - (i + 1)) = omega arith in
      let one : until_from p (count - i) found bytes ≡ until_from p (count - (i + 1)) (found ++ a ∷ []) rest = rw (k, e) refl in
      sym one ∙ so_far

  pub until_stop : (count i : ℕ) (found : List A) (bytes : List ℕ) (total : Outcome (List A)) → i < count → p bytes ≡ None
      → until_from p (count - i) found bytes ≡ total → total ≡ None
  unfolding until_from
  until_stop count i found bytes total lt e so_far =
      let k : count - i ≡ suc (count - (i + 1)) = omega arith in
      let one : until_from p (count - i) found bytes ≡ None = rw (k, e) refl in
      sym so_far ∙ one

  pub until_done : (count i : ℕ) (found : List A) (bytes rest : List ℕ) (total : Outcome (List A)) → i < count → p bytes ≡ Some (None, rest)
      → until_from p (count - i) found bytes ≡ total → total ≡ Some (found, rest)
  unfolding until_from
  until_done count i found bytes rest total lt e so_far =
      let k : count - i ≡ suc (count - (i + 1)) = omega arith in
      let one : until_from p (count - i) found bytes ≡ Some (found, rest) = rw (k, e) refl in
      sym so_far ∙ one

  pub until_full : (count i : ℕ) (found : List A) (bytes : List ℕ) (total : Outcome (List A)) → count ≤ i
      → until_from p (count - i) found bytes ≡ total → total ≡ None
  unfolding until_from
  until_full count i found bytes total le so_far =
      let k : count - i ≡ 0 = omega arith in
      let one : until_from p (count - i) found bytes ≡ None = rw k refl in
      sym so_far ∙ one

  pub until_begin : (bytes : List ℕ) → until_from p (length bytes - 0) [] bytes ≡ until p bytes
  unfolding until
  until_begin bytes = let k : length bytes - 0 ≡ length bytes = omega arith in ap (λ (n : ℕ). until_from p n [] bytes) k

-- what a function ensures where a step of it stops
pub gives_err : {A B : Type 0} (o : Outcome A) (e : Stop) (rest : List ℕ) (o' : Outcome B) → Gives o (Err e) rest → (o ≡ None → o' ≡ None) → Gives o' (Err e) rest
gives_err o Bad rest o' h f = f h
gives_err o NoMemory rest o' h f = tt
