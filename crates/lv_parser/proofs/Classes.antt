-- Classes by their numbers.
use Rattle.std.proofs.Common.{◌≡◌, true, ap, eq-eqb}
use Rattle.std.proofs.lemmas.Bool.{eqb-true}
use Rattle.lv_lexer.specs.declared.terminals.Class.{Class}
use Rattle.lv_lexer.specs.contracts.terminals.Class.{the_type}
use denote.Enum.Bare.{tag_one}
use Rattle.lv_parser.specs.Class.{code, same}

pub same_class : (a b : Class) → same a b ≡ true → a ≡ b
unfolding same
same_class a b h = tag_one the_type tt a b (eqb-true (code a) (code b) h)

pub same-refl : (a b : Class) → a ≡ b → same a b ≡ true
unfolding same
same-refl a b e = eq-eqb (code a) (code b) (ap code e)
