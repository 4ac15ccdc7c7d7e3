-- What holds of the answer of a call, however it ends.
use Rattle.std.specs.Prelude.{Result, Ok, Err, IfOk, OnErr}

pub ok_both : {T E : Type 0} (r : Result T E) (P Q R : T → Type 0) → ((a : T) → P a → Q a → R a) → IfOk r P → IfOk r Q → IfOk r R
ok_both (Ok a) P Q R f p q = f a p q
ok_both (Err e) P Q R f p q = tt

pub on_err : {T E P : Type 0} (r : Result T E) → P → OnErr r P
on_err (Ok a) p = tt
on_err (Err e) p = p
