-- Lists, read on from what was found before.
use Rattle.std.proofs.Common.{◌≡◌, ℕ, zero, suc, Bool, true, false, List, [], ◌∷◌, ◌++◌, length, refl, sym, ap, ◌∙◌, Ok, Err}
use Rattle.std.proofs.lemmas.List.{append_assoc}
use Rattle.lv_lexer.specs.declared.terminals.Class.{Class}
use Rattle.lv_lexer.specs.declared.terminals.Terminal.{Terminal}
use Rattle.lv_parser.specs.Class.{code}
use Rattle.lv_parser.specs.Rule.{Rule}
use Rattle.lv_parser.specs.Rule as rule
use Rattle.lv_parser.specs.Reading.{Outcome, Reader, and_then, choose, pure, many_from, many, many_more, separated, ◌>>=◌}
use Rattle.lv_parser.proofs.Exact.{joined}
use Rattle.lv_parser.proofs.Readers.{Reads, disjoint, then_reads, many_reads, pure_reads, as_reads, token_reads, sees_tests, Tests}

module _ {A : Type 0} (test : List Terminal → Bool) (p : Reader A) where
  -- what was found before stands in front
  abbrev before : List A → Outcome (List A) → Outcome (List A)
  before found o = and_then o (λ xs. pure (found ++ xs))

  turn_before : (n : ℕ) (front found : List A) → ((all : List Terminal) (a : A) → many_from test p n ((front ++ found) ++ a ∷ []) all ≡ before front (many_from test p n (found ++ a ∷ []) all))
      → (o : Outcome A) → and_then o (λ a. many_from test p n ((front ++ found) ++ a ∷ [])) ≡ before front (and_then o (λ a. many_from test p n (found ++ a ∷ [])))
  turn_before n front found later (Ok (a, rest)) = later rest a
  turn_before n front found later (Err rest) = refl

  choice_before : (n : ℕ) (front found : List A) (all : List Terminal)
      → and_then (p all) (λ a. many_from test p n ((front ++ found) ++ a ∷ [])) ≡ before front (and_then (p all) (λ a. many_from test p n (found ++ a ∷ [])))
      → (b : Bool) → choose b (λ x. and_then (p x) (λ a. many_from test p n ((front ++ found) ++ a ∷ []))) (pure (front ++ found)) all
      ≡ before front (choose b (λ x. and_then (p x) (λ a. many_from test p n (found ++ a ∷ []))) (pure found) all)
  choice_before n front found all e true = e
  choice_before n front found all e false = refl

  from_before : (n : ℕ) (front found : List A) (all : List Terminal) → many_from test p n (front ++ found) all ≡ before front (many_from test p n found all)
  unfolding many_from
  from_before zero front found all = refl
  from_before (suc n) front found all =
      choice_before n front found all
      (turn_before n front found
      (λ rest a. ap (λ xs. many_from test p n xs rest) (append_assoc front found (a ∷ [])) ∙ from_before n front (found ++ a ∷ []) rest) (p all))
      (test all)

  -- one, and then more
  pub more_after : (first : A) (all : List Terminal) → (many test p >>= λ more. pure (first ∷ more)) all ≡ many_more test p (first ∷ []) all
  unfolding many many_more
  more_after first all = sym (from_before (length all) (first ∷ []) [] all)

disjoint_nothing : (ks : List ℕ) → disjoint ks [] ≡ true
disjoint_nothing [] = refl
disjoint_nothing (k ∷ ks) = disjoint_nothing ks

pub more_reads : {A : Type 0} {g : Rule A} {p : Reader A} {pf pm : List ℕ} {test : List Terminal → Bool} → Tests test pf → Reads g p pf pm false → disjoint pm pf ≡ true
    → (first : A) → Reads (rule.◌>>=◌ (rule.many g) (λ more. rule.pure (first ∷ more))) (many_more test p (first ∷ [])) (joined true pf []) (joined true [] (pm ++ pf)) true
more_reads {p = p} {pf = pf} {pm = pm} {test = test} w x d first =
    as_reads (then_reads (many_reads w x d) (λ more. pure_reads (first ∷ more)) (disjoint_nothing (pm ++ pf))) (more_after test p first)

module _ {A : Type 0} {g : Rule A} {p : Reader A} {pf pm : List ℕ} where
  pub separated_reads : (k : Class) → Reads g p pf pm false → disjoint pm (code k ∷ []) ≡ true → Reads (rule.separated k g) (separated k p) pf ((pm ++ code k ∷ []) ++ pm) false
  unfolding separated
  separated_reads k x d = then_reads x (λ first. more_reads (sees_tests k) (then_reads (token_reads k) (λ _. x) refl) d first) d
