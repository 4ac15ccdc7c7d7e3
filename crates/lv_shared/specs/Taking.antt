-- What a call that hands out work answers.
use Rattle.std.specs.Prelude.{Bool, true, false, Option, Some, None, Result, Ok}
use Rattle.lv_shared.specs.declared.machine.Taken.{Taken}
use Rattle.lv_shared.specs.declared.machine.Taken.TheVariants.{Work}

-- whether an answer hands out work
abbrev pub hands_out : {W E : Type 0} → Result (Taken W) E → Bool
hands_out (Ok (Work _)) = true
hands_out _ = false

-- a machine is what calls have made of the first one, where that is named
abbrev pub HasBecome : {M : Type 0} → (M → M → Type 0) → Option M → M → Type 0
HasBecome becomes None m = Unit {0}
HasBecome becomes (Some first) m = becomes first m
