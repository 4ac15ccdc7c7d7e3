-- A loop that reads one part after the other: what is still to be read gives the same from each turn on.
use Rattle.std.proofs.Common.{◌≡◌, ℕ, zero, suc, ◌+◌, ◌-◌, ◌≤◌, ◌<◌, Bool, true, false, List, [], ◌∷◌, ◌++◌, length, Ok, Err, refl, sym, ap, ◌∙◌, arith}
use Rattle.lv_lexer.specs.declared.terminals.Class.{Class}
use Rattle.lv_lexer.specs.declared.terminals.Terminal.{Terminal}
use Rattle.lv_parser.specs.declared.stop.Stop.{Stop}
use Rattle.lv_parser.specs.declared.stop.Stop.TheVariants.{Syntax, NoMemory}
use Rattle.lv_parser.specs.Reading.{Outcome, Reader, sees, behind, many_from, many_more, separated, Gives}

module _ {A : Type 0} (test : List Terminal → Bool) (p : Reader A) where
  pub loop_empty : (n : ℕ) (found : List A) (all : List Terminal) → test all ≡ false → many_from test p n found all ≡ Ok (found, all)
  unfolding many_from
  loop_empty zero found all s = refl
  loop_empty (suc n) found all s = rw s refl

  pub loop_begins : (count : ℕ) (found : List A) (all : List Terminal) → count ≡ length all → many_from test p (count - 0) found all ≡ many_more test p found all
  unfolding many_more
  loop_begins count found all e = let k : count - 0 ≡ length all = omega (arith, e) in ap (λ (n : ℕ). many_from test p n found all) k

  module _ (count i : ℕ) (found : List A) (all : List Terminal) (total : Outcome (List A)) where
    pub loop_goes_on : (a : A) (rest : List Terminal) → i < count → test all ≡ true → p all ≡ Ok (a, rest)
        → many_from test p (count - i) found all ≡ total → many_from test p (count - (i + 1)) (found ++ a ∷ []) rest ≡ total
    unfolding many_from
    loop_goes_on a rest lt s e so_far =
        let k : count - i ≡ suc (count - (i + 1)) = omega arith in
        let one : many_from test p (count - i) found all ≡ many_from test p (count - (i + 1)) (found ++ a ∷ []) rest = rw (k, s, e) refl in
        sym one ∙ so_far

    pub loop_stops : (rest : List Terminal) → i < count → test all ≡ true → p all ≡ Err rest
        → many_from test p (count - i) found all ≡ total → total ≡ Err rest
    unfolding many_from
    loop_stops rest lt s e so_far =
        let k : count - i ≡ suc (count - (i + 1)) = omega arith in
        let one : many_from test p (count - i) found all ≡ Err rest = rw (k, s, e) refl in
        sym so_far ∙ one

    pub loop_done : i < count → test all ≡ false → many_from test p (count - i) found all ≡ total → total ≡ Ok (found, all)
    unfolding many_from
    loop_done lt s so_far =
        let k : count - i ≡ suc (count - (i + 1)) = omega arith in
        let one : many_from test p (count - i) found all ≡ Ok (found, all) = rw (k, s) refl in
        sym so_far ∙ one

    pub loop_full : count ≤ i → many_from test p (count - i) found all ≡ total → total ≡ Ok (found, all)
    unfolding many_from
    loop_full le so_far =
        let k : count - i ≡ 0 = omega arith in
        let one : many_from test p (count - i) found all ≡ Ok (found, all) = rw k refl in
        sym so_far ∙ one

-- a part that no other follows
pub separated_alone : {A : Type 0} (k : Class) (p : Reader A) (all rest : List Terminal) (first : A) → p all ≡ Ok (first, rest) → sees k rest ≡ false
    → separated k p all ≡ Ok (first ∷ [], rest)
unfolding separated many_more
separated_alone k p all rest first e s = rw e (loop_empty (sees k) (behind k p) (length rest) (first ∷ []) rest s)

-- what a function ensures where a step of it stops
pub gives_err : {A B : Type 0} (o : Outcome A) (e : Stop) (rest : List Terminal) (o' : Outcome B) → Gives o (Err e) rest → (o ≡ Err rest → o' ≡ Err rest) → Gives o' (Err e) rest
gives_err o Syntax rest o' h f = f h
gives_err o NoMemory rest o' h f = tt

pub at_syntax : {A : Type 0} (o : Outcome A) (e : Stop) (rest : List Terminal) → e ≡ Syntax → Gives o (Err e) rest → o ≡ Err rest
at_syntax o Syntax rest e h = h
at_syntax o NoMemory rest e h = cc
