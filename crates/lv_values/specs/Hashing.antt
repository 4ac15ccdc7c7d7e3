-- What a value feeds a hasher: its kind, and then the number or the text. Equal values feed the same.
use Rattle.std.specs.Prelude.{◌≡◌, ◌++◌, true, refl}
use Rattle.std.proofs.Common.{ap}
use Rattle.std.specs.Hash as fed
use Rattle.std.specs.Hash.{HashWrites}
use Rattle.std.specs.Ordering.{is_eq}
use Rattle.std.specs.declared.cmp.Ordering.{Ordering}
use Rattle.std.specs.declared.cmp.Ordering.TheVariants.{Less, Equal, Greater}
use Rattle.lv_values.specs.declared.value.Value.{Value}
use Rattle.lv_values.specs.declared.value.Value.TheVariants.{Num, Text}
use Rattle.lv_values.specs.Order.{value_eq}
use Rattle.lv_values.specs.OrderLaws.{value_exact}

abbrev pub value_input : Value → HashWrites
value_input (Num n) = fed.u8 1 ++ fed.i128 n
value_input (Text t) = fed.u8 2 ++ fed.str t

tied : (o : Ordering) → is_eq o ≡ true → o ≡ Equal
tied Less h = cc
tied Equal h = refl
tied Greater h = cc

pub value_alike : (x y : Value) → value_eq x y ≡ true → value_input x ≡ value_input y
value_alike x y h = ap value_input (value_exact x y (tied _ h))
