-- Two rules with the same readings and fronts.
use Rattle.std.proofs.Common.{ℕ, Bool, List, inl, inr, Ok, Err}
use Rattle.lv_lexer.specs.declared.terminals.Terminal.{Terminal}
use Rattle.lv_parser.specs.Rule.{Rule}
use Rattle.lv_parser.specs.Rule as rule
use Rattle.lv_parser.specs.Reading.{Outcome, Reader}
use Rattle.lv_parser.proofs.Exact.{Exact, Halts}
use Rattle.lv_parser.proofs.Readers.{Reads}

pub record Same {A : Type 0} (g h : Rule A) : Type 0 where
  pub reads : (all : List Terminal) (a : A) (rest : List Terminal) → g.reads all a rest → h.reads all a rest
  pub reads_back : (all : List Terminal) (a : A) (rest : List Terminal) → h.reads all a rest → g.reads all a rest
  pub front : (all rest : List Terminal) → g.front all rest → h.front all rest
  pub front_back : (all rest : List Terminal) → h.front all rest → g.front all rest

module _ {A : Type 0} (g h : Rule A) (s : Same g h) where
  same_halts : (all rest : List Terminal) → Halts h all rest → Halts g all rest
  same_halts all rest x = record { within = x.within; last = λ r f. x.last r (s.front all r f); each = λ r i j. s.front_back all r (x.each r i j) }

  same_exact : (more : List ℕ) (all : List Terminal) (o : Outcome A) → Exact h more all o → Exact g more all o
  same_exact more all (Ok (a, rest)) x = record { halts = same_halts all rest x.halts; reads = s.reads_back all a rest x.reads; only = λ b r f. x.only b r (s.reads all b r f) }
  same_exact more all (Err rest) x = record { halts = same_halts all rest x.halts; none = λ b r f. x.none b r (s.reads all b r f) }

  pub same_reads : {p : Reader A} {first more : List ℕ} {empty : Bool} → Reads h p first more empty → Reads g p first more empty
  same_reads {p} {first} {more} {empty} x = record {
    begins = record {
      front = λ all r f. x.begins.front all r (s.front all r f);
      reads = λ all a r f. x.begins.reads all a r (s.reads all a r f);
      whole = λ all a r f. s.front_back all r (x.begins.whole all a r (s.reads all a r f));
      within = λ all r f. x.begins.within all r (s.front all r f);
      takes = λ all a r e f. x.begins.takes all a r e (s.reads all a r f);
    };
    exact = λ all. same_exact more all (p all) (x.exact all);
  }

-- two rules that begin alike
module _ {A B : Type 0} (p : Rule A) (f k : A → Rule B) where
  joint_reads : (all : List Terminal) (b : B) (r : List Terminal) → (rule.◌or◌ (rule.◌>>=◌ p f) (rule.◌>>=◌ p k)).reads all b r → (rule.◌>>=◌ p (λ a. rule.◌or◌ (f a) (k a))).reads all b r
  joint_reads all b r (inl (a, m, h, x)) = (a, m, h, inl x)
  joint_reads all b r (inr (a, m, h, x)) = (a, m, h, inr x)

  joint_back : (all : List Terminal) (b : B) (r : List Terminal) → (rule.◌>>=◌ p (λ a. rule.◌or◌ (f a) (k a))).reads all b r → (rule.◌or◌ (rule.◌>>=◌ p f) (rule.◌>>=◌ p k)).reads all b r
  joint_back all b r (a, m, h, inl x) = inl (a, m, h, x)
  joint_back all b r (a, m, h, inr x) = inr (a, m, h, x)

  joint_front : (all r : List Terminal) → (rule.◌or◌ (rule.◌>>=◌ p f) (rule.◌>>=◌ p k)).front all r → (rule.◌>>=◌ p (λ a. rule.◌or◌ (f a) (k a))).front all r
  joint_front all r (inl (inl h)) = inl h
  joint_front all r (inl (inr (a, m, h, x))) = inr (a, m, h, inl x)
  joint_front all r (inr (inl h)) = inl h
  joint_front all r (inr (inr (a, m, h, x))) = inr (a, m, h, inr x)

  joint_front_back : (all r : List Terminal) → (rule.◌>>=◌ p (λ a. rule.◌or◌ (f a) (k a))).front all r → (rule.◌or◌ (rule.◌>>=◌ p f) (rule.◌>>=◌ p k)).front all r
  joint_front_back all r (inl h) = inl (inl h)
  joint_front_back all r (inr (a, m, h, inl x)) = inl (inr (a, m, h, x))
  joint_front_back all r (inr (a, m, h, inr x)) = inr (inr (a, m, h, x))

  pub joint : Same (rule.◌or◌ (rule.◌>>=◌ p f) (rule.◌>>=◌ p k)) (rule.◌>>=◌ p (λ a. rule.◌or◌ (f a) (k a)))
  joint = record { reads = joint_reads; reads_back = joint_back; front = joint_front; front_back = joint_front_back }
