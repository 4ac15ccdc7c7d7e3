-- What a unit is by its first token, and where a part of a condition stands alone.
use Rattle.std.proofs.Common.{◌≡◌, ℕ, suc, true, false, List, Result, Ok, Err, refl}
use Rattle.std.specs.Result.{is_err}
use Rattle.lv_lexer.specs.declared.terminals.Class.TheVariants.{And, Or, Not, LeftParen}
use Rattle.lv_lexer.specs.declared.terminals.Terminal.{Terminal}
use Rattle.lv_parser.specs.declared.conditions.Within.{Within}
use Rattle.lv_parser.specs.declared.stop.Stop.{Stop}
use Rattle.lv_parser.specs.declared.stop.Stop.TheVariants.{Syntax, NoMemory}
use Rattle.lv_parser.specs.declared.tree.CondTree.{CondTree}
use Rattle.lv_parser.specs.Reading.{Reader, Gives, sees, separated}
use Rattle.lv_parser.specs.Read.{unit, negation, bracketed, conj_of, cond_of, comparison}
use Rattle.lv_parser.proofs.Loops.{separated_alone}

pub unit_other : (within : Within) (d depth : ℕ) (all : List Terminal) → depth ≡ suc d → sees Not all ≡ false → sees LeftParen all ≡ false
    → unit within depth all ≡ comparison within all
unfolding unit
unit_other within d depth all e n p = rw (e, n, p) refl

pub unit_negation : (within : Within) (d depth : ℕ) (all : List Terminal) → depth ≡ suc d → sees Not all ≡ true → unit within depth all ≡ negation (unit within d) all
unfolding unit negation
unit_negation within d depth all e n = rw (e, n) refl

pub unit_bracketed : (within : Within) (d depth : ℕ) (all : List Terminal) → depth ≡ suc d → sees Not all ≡ false → sees LeftParen all ≡ true
    → unit within depth all ≡ bracketed (unit within d) all
unfolding unit bracketed
unit_bracketed within d depth all e n p = rw (e, n, p) refl

pub conj_alone : (u : Reader CondTree) (all rest : List Terminal) (first : CondTree) → u all ≡ Ok (first, rest) → sees And rest ≡ false → conj_of u all ≡ Ok (first, rest)
unfolding conj_of
conj_alone u all rest first e s = rw (separated_alone And u all rest first e s) refl

pub cond_alone : (u : Reader CondTree) (all rest : List Terminal) (first : CondTree) → conj_of u all ≡ Ok (first, rest) → sees Or rest ≡ false → cond_of u all ≡ Ok (first, rest)
unfolding cond_of
cond_alone u all rest first e s = rw (separated_alone Or (conj_of u) all rest first e s) refl

-- What reads a unit, or a conjunction, ensures of the conjunction, or the condition, that it begins: where it stopped, and where it stands alone.
module _ (u : Reader CondTree) (all rest : List Terminal) where
  pub conj_stopped : (r : Result CondTree Stop) → Gives (u all) r rest → is_err r ≡ true → Gives (conj_of u all) r rest
  unfolding conj_of separated
  conj_stopped (Ok first) g e = absurd cc
  conj_stopped (Err Syntax) g e = rw g refl
  conj_stopped (Err NoMemory) g e = tt

  pub conj_single : (r : Result CondTree Stop) → Gives (u all) r rest → is_err r ≡ false → sees And rest ≡ false → Gives (conj_of u all) r rest
  conj_single (Ok first) g e s = conj_alone u all rest first g s
  conj_single (Err stop) g e s = absurd cc

  pub cond_stopped : (r : Result CondTree Stop) → Gives (conj_of u all) r rest → is_err r ≡ true → Gives (cond_of u all) r rest
  unfolding cond_of separated
  cond_stopped (Ok first) g e = absurd cc
  cond_stopped (Err Syntax) g e = rw g refl
  cond_stopped (Err NoMemory) g e = tt

  pub cond_single : (r : Result CondTree Stop) → Gives (conj_of u all) r rest → is_err r ≡ false → sees Or rest ≡ false → Gives (cond_of u all) r rest
  cond_single (Ok first) g e s = cond_alone u all rest first g s
  cond_single (Err stop) g e s = absurd cc
