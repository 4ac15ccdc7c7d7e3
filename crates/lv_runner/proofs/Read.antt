-- A script that is read, and one that is not.
use Rattle.std.proofs.Common.{◌≡◌, ℕ, ◌<◌, Bool, true, List, length, refl, ap, arith, inl, inr}
use Rattle.std.specs.Prelude.{Result, Ok, Err, MatchResult, Option, nat_lt, if◌then◌else◌}
use Rattle.std.proofs.lemmas.Bool.Decides.{nat_tests}
use Rattle.std.specs.Io.KnownBytes.{Consumes}
use Rattle.lv_lines.specs.declared.script_fault.ScriptFault.TheVariants.{Bad}
use Rattle.lv_lines.specs.declared.script_fault.ScriptFaultKind.TheVariants.{ScriptTooLong}
use Rattle.lv_lines.specs.Script.{script_of, script_from, start as first_part}
use Rattle.lv_lines.specs.ScriptLine.{lines_of}
use Rattle.lv_runner.specs.declared.reading.Plan.{Plan}
use Rattle.lv_runner.specs.declared.reading.Unread.{Unread}
use Rattle.lv_runner.specs.declared.reading.Unread.TheVariants as why
use Rattle.lv_runner.specs.Ends.{HasRead, Refused, WhyUnread}
use Rattle.lv_runner.specs.Output.{limit}
use Rattle.lv_runner.specs.Plan.{IsCause, IsPlanOf}

-- ---- a script that is too long

pub too_long : (bytes : List ℕ) → limit < length bytes → script_of bytes ≡ Err (Bad 0 ScriptTooLong)
too_long bytes long =
    let over : nat_lt 16777216 (length bytes) ≡ true = grind (arith, nat_tests, long) in
    ap (λ (b : Bool). if b then Err (Bad 0 ScriptTooLong) else script_from first_part 1 (lines_of bytes)) over

pub past_limit : (left0 left1 : Option (List ℕ)) (bytes : List ℕ) → Consumes left0 left1 bytes → limit < length bytes → Refused left0 left1 0 2
past_limit left0 left1 bytes consumed long = record {
  bytes = bytes;
  consumed = consumed;
  ended = inr long;
  refused = record { which = ScriptTooLong; script = too_long bytes long; number = refl };
}

-- ---- what the bytes that were read give, the source gives
pub plan_read : (left0 left1 : Option (List ℕ)) (faults0 faults1 : ℕ) (bytes : List ℕ) (r : Result Plan Unread) → HasRead left0 left1 bytes
    → MatchResult r (IsPlanOf bytes) (IsCause bytes)
    → MatchResult r (λ plan. (bytes : List ℕ) × HasRead left0 left1 bytes × IsPlanOf bytes plan) (WhyUnread left0 left1 faults0 faults1)
plan_read left0 left1 faults0 faults1 bytes (Ok plan) read h = (bytes, read, h)
plan_read left0 left1 faults0 faults1 bytes (Err (why.Script line kind)) read h = record { bytes = bytes; consumed = read.consumed; ended = inl read.ended; refused = h }
plan_read left0 left1 faults0 faults1 bytes (Err why.Source) read h = absurd h
plan_read left0 left1 faults0 faults1 bytes (Err why.NoMemory) read h = tt
