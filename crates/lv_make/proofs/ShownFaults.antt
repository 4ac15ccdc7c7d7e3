-- A fault's text begins with its number.
use Rattle.std.proofs.Common.{◌≡◌, ℕ, ◌+◌, ◌/◌, ◌%◌, ◌<◌, List, ◌∷◌, ◌++◌, codes, refl, arith}
use Rattle.std.proofs.lemmas.Fmt.{decimal_digit, decimal_step}
use Rattle.std.specs.Prelude.{decimal}
use Rattle.std.specs.Fmt.{signed_decimal}
use Rattle.lv_schema.specs.declared.fault.Fault.TheVariants.{Syntax, Unknown, Ambiguous, InUse, Kinds, Limit, Profile, NotSetup, InTransaction, NoTransaction, KeyAssigned, Range, Duplicate, TableFull, Conflict, MergedFull, Store, JournalFull}
use Rattle.lv_lines.specs.Transcript.{name_of, key_text, limit_word, rule_word}
use Rattle.lv_make.specs.ShownFaults.{FaultNumbersAreShown}

one : (n : ℕ) (rest : List ℕ) → n < 10 → (48 + n) ∷ 32 ∷ rest ≡ decimal n ++ codes " " ++ rest
one n rest low = rw (decimal_digit n low) refl

ten : (d : ℕ) (rest : List ℕ) → d < 10 → 49 ∷ (48 + d) ∷ 32 ∷ rest ≡ decimal (10 + d) ++ codes " " ++ rest
ten d rest low =
    let front : (10 + d) / 10 ≡ 1 = omega arith in
    let last : (10 + d) % 10 ≡ d = omega arith in
    rw (decimal_step (10 + d) (omega arith) (omega arith), front, last, decimal_digit 1 (omega arith)) refl

pub fault_numbers_are_shown : FaultNumbersAreShown
fault_numbers_are_shown names (Syntax byte) = (codes "syntax at byte " ++ decimal byte, one 1 _ (omega arith))
fault_numbers_are_shown names (Unknown name) = (codes "unknown name " ++ name, one 2 _ (omega arith))
fault_numbers_are_shown names (Ambiguous name) = (codes "ambiguous name " ++ name, one 3 _ (omega arith))
fault_numbers_are_shown names (InUse name) = (codes "name in use " ++ name, one 4 _ (omega arith))
fault_numbers_are_shown names (Kinds byte) = (codes "kinds differ at byte " ++ decimal byte, one 5 _ (omega arith))
fault_numbers_are_shown names (Limit which most) = (codes "limit " ++ limit_word which ++ codes " " ++ decimal most, one 6 _ (omega arith))
fault_numbers_are_shown names (Profile which) = (codes "view profile " ++ rule_word which, one 7 _ (omega arith))
fault_numbers_are_shown names NotSetup = (codes "create outside setup", one 8 _ (omega arith))
fault_numbers_are_shown names InTransaction = (codes "already in a transaction", one 9 _ (omega arith))
fault_numbers_are_shown names NoTransaction = (codes "no transaction", ten 0 _ (omega arith))
fault_numbers_are_shown names (KeyAssigned name) = (codes "key column assigned " ++ name, ten 1 _ (omega arith))
fault_numbers_are_shown names (Range number) = (codes "number out of range " ++ signed_decimal number, ten 2 _ (omega arith))
fault_numbers_are_shown names (Duplicate table key) = (codes "duplicate key " ++ name_of names.tables table ++ codes " " ++ key_text key, ten 3 _ (omega arith))
fault_numbers_are_shown names (TableFull table) = (codes "table full " ++ name_of names.tables table, ten 4 _ (omega arith))
fault_numbers_are_shown names (Conflict table key commit) = (codes "write conflict " ++ name_of names.tables table ++ codes " " ++ key_text key ++ codes " commit " ++ decimal commit, ten 5 _ (omega arith))
fault_numbers_are_shown names (MergedFull table) = (codes "table full at commit " ++ name_of names.tables table, ten 6 _ (omega arith))
fault_numbers_are_shown names Store = (codes "store fault", ten 7 _ (omega arith))
fault_numbers_are_shown names (JournalFull need limit) = (codes "journal full need " ++ decimal need ++ codes " limit " ++ decimal limit, ten 8 _ (omega arith))
