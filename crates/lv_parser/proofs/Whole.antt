-- From an exact reader to the answer for all tokens.
use Rattle.std.proofs.Common.{◌≡◌, ℕ, Bool, true, false, ◌&&◌, List, [], ◌∷◌, ◌⊎◌, inl, inr, Ok, Err, refl, sym, ◌∙◌, subst}
use Rattle.lv_lexer.specs.declared.terminals.Terminal.{Terminal}
use Rattle.lv_parser.specs.Rule.{Rule}
use Rattle.lv_parser.specs.Fault.{IsEnd, Stops, IsFault, byte_of}
use Rattle.lv_parser.specs.Reading.{Outcome, Reader, is_nothing}
use Rattle.lv_parser.proofs.Ends.{end_trans, end_of, end_shorter, end_refl, end_total}
use Rattle.lv_parser.proofs.Exact.{Starts, Halts, Found, Fails, Exact}
use Rattle.lv_parser.proofs.Readers.{Reads}

module _ {A : Type 0} (g : Rule A) (more : List ℕ) (all : List Terminal) where
  stops : (rest : List Terminal) → Halts g all rest → Stops g all rest
  stops rest halts = record {
    within = halts.within;
    before = λ t r h k. halts.each r h (end_trans r (t ∷ r) all (inr (end_refl r)) k);
    next = λ t r e f. end_shorter t r (end_of rest (t ∷ r) r e (halts.last r f));
  }

  not_empty : Starts more [] → ⊥
  not_empty s = cc

  other : (ends : Bool) (rest none : List Terminal) (a b : A) → none ≡ [] → (ends && is_nothing rest) ≡ false → ends ≡ true → Starts more [] ⊎ ((b ≡ a) × (none ≡ rest)) → ⊥
  other ends rest none a b n f e (inl s) = not_empty s
  other ends rest none a b n f e (inr (q, r)) = cc

  found_fault : (ends : Bool) (end : ℕ) (a : A) (rest : List Terminal) → Found g more all a rest → (ends && is_nothing rest) ≡ false → IsFault g all ends end (byte_of end rest)
  found_fault ends end a rest found f = record {
    none = λ b e h. other ends rest [] a b refl f e (found.only b [] h);
    first = (rest, stops rest found.halts, refl);
  }

  fails_fault : (ends : Bool) (end : ℕ) (rest : List Terminal) → Fails g more all rest → IsFault g all ends end (byte_of end rest)
  fails_fault ends end rest fails = record {
    none = λ a e h. not_empty (fails.none a [] h);
    first = (rest, stops rest fails.halts, refl);
  }

  one_tree : (o : Outcome A) → Exact g more all o → (a b : A) → g.reads all a [] → g.reads all b [] → a ≡ b
  one_tree (Ok (c, rest)) found a b h k = to_c a (found.only a [] h) ∙ sym (to_c b (found.only b [] k)) where
    to_c : (x : A) → Starts more [] ⊎ ((x ≡ c) × ([] ≡ rest)) → x ≡ c
    to_c x (inl s) = cc
    to_c x (inr (e, q)) = e
  one_tree (Err rest) fails a b h k = absurd (not_empty (fails.none a [] h))

-- for what the reader gives
module _ {A : Type 0} {g : Rule A} {p : Reader A} {first more : List ℕ} {empty : Bool} (x : Reads g p first more empty) (all : List Terminal) where
  at_ok : (a : A) (rest : List Terminal) → p all ≡ Ok (a, rest) → Found g more all a rest
  at_ok a rest e = let P : Outcome A → Type 0 = λ o. Exact g more all o in subst P e (x.exact all)

  at_err : (rest : List Terminal) → p all ≡ Err rest → Fails g more all rest
  at_err rest e = let P : Outcome A → Type 0 = λ o. Exact g more all o in subst P e (x.exact all)

  pub whole_reading : (ends : Bool) (a : A) (rest : List Terminal) → p all ≡ Ok (a, rest) → (ends && is_nothing rest) ≡ true → (ends ≡ true) × g.reads all a []
  whole_reading true a [] e f = (refl, (at_ok a [] e).reads)
  whole_reading true a (t ∷ rest) e f = cc
  whole_reading false a rest e f = cc

  pub rest_fault : (ends : Bool) (end : ℕ) (a : A) (rest : List Terminal) → p all ≡ Ok (a, rest) → (ends && is_nothing rest) ≡ false → IsFault g all ends end (byte_of end rest)
  rest_fault ends end a rest e f = found_fault g more all ends end a rest (at_ok a rest e) f

  pub stop_fault : (ends : Bool) (end : ℕ) (rest : List Terminal) → p all ≡ Err rest → IsFault g all ends end (byte_of end rest)
  stop_fault ends end rest e = fails_fault g more all ends end rest (at_err rest e)

  -- tokens have one reading at most
  pub one_reading : (a b : A) → g.reads all a [] → g.reads all b [] → a ≡ b
  one_reading a b h k = one_tree g more all (p all) (x.exact all) a b h k

-- tokens stop being a front at one place
module _ {A : Type 0} (g : Rule A) (all : List Terminal) where
  later : (a b : List Terminal) → Stops g all a → Stops g all b → IsEnd a b → a ≡ b ⊎ ⊥
  later a [] s t h = inl h
  later a (u ∷ b) s t (inl e) = inl e
  later a (u ∷ b) s t (inr h) = inr (t.next u b refl (s.before u b h t.within))

  or_absurd : {T : Type 0} → T ⊎ ⊥ → T
  or_absurd (inl t) = t
  or_absurd (inr n) = absurd n

  either_way : (a b : List Terminal) → Stops g all a → Stops g all b → IsEnd a b ⊎ IsEnd b a → a ≡ b
  either_way a b s t (inl h) = or_absurd (later a b s t h)
  either_way a b s t (inr h) = sym (or_absurd (later b a t s h))

  pub one_place : (a b : List Terminal) → Stops g all a → Stops g all b → a ≡ b
  one_place a b s t = either_way a b s t (end_total a b all s.within t.within)
