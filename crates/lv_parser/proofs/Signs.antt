-- A comparison's sign, as the code reads it.
use Rattle.std.proofs.Common.{◌≡◌, List, [], ◌∷◌, drop, Some, None, Ok, Err, refl}
use Rattle.lv_parser.specs.declared.tree.Sign.{Sign}
use Rattle.lv_lexer.specs.declared.terminals.Class.{Class}
use Rattle.lv_lexer.specs.declared.terminals.Terminal.{Terminal}
use Rattle.lv_parser.specs.Reading.{next_class}
use Rattle.lv_parser.specs.Read.{op, sign_of}

pub op_none : (all : List Terminal) → None ≡ next_class all → op all ≡ Err all
unfolding op
op_none [] e = refl
op_none (t ∷ rest) e = cc

pub op_other : (all : List Terminal) (class : Class) → Some class ≡ next_class all → None ≡ sign_of class → op all ≡ Err all
unfolding op
op_other [] class e f = cc
op_other (t ∷ rest) class e f = let q : class ≡ t.class = cc in let h : None ≡ sign_of t.class = rw (← q) f in rw (← h) refl

pub op_some : (all : List Terminal) (class : Class) (sign : Sign) → Some class ≡ next_class all → Some sign ≡ sign_of class → op all ≡ Ok (sign, drop 1 all)
unfolding op
op_some [] class sign e f = cc
op_some (t ∷ rest) class sign e f = let q : class ≡ t.class = cc in let h : Some sign ≡ sign_of t.class = rw (← q) f in rw (← h) refl
