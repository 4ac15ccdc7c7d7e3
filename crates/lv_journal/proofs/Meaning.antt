-- What a journal's bytes stand for: nothing behind a closed gate counts, and a whole frame counts once its gate is
-- open.
use Rattle.std.proofs.Common.{◌⊎◌, ⊎_elim, ◌≡◌, ◌≢◌, ◌≤◌, ◌+◌, ◌-◌, ℕ, zero, suc, inl, inr, List, [], ◌∷◌, ◌++◌, length, take, drop, Option, Some, None, refl, sym, ◌∙◌, ap, arith, length-append, append_assoc}
use Rattle.std.specs.Prelude.{IfSome, true, if◌then◌else◌, sum_by}
use Rattle.std.specs.Option.{option_map}
use Rattle.std.specs.Str.{bytes_eq}
use Rattle.std.specs.List.{AllByRecursion}
use Rattle.std.proofs.lemmas.Bool.{cases_eq}
use Rattle.std.proofs.lemmas.Bool.Decides.{nat_tests}
use Rattle.std.proofs.lemmas.List.{take_at, drop_at, append-nil}
use Rattle.std.proofs.lemmas.List.Sums.{sum_by-cons}
use Rattle.std.proofs.lemmas.Nat.{from_le_bytes-to_le_bytes_4}
use Rattle.lv_journal.specs.declared.found.Found.{Found}
use Rattle.lv_journal.specs.declared.found.Found.TheVariants.{Missing, Shut, Broken, Open}
use Rattle.lv_journal.specs.Bytes.{magic, frame, opened, spelled, length_with, length_of, begins_frame, found_at, payloads, bad_from, records_of, bad_place, IsJournal, IsPayload, Closed, Staged}
use Rattle.lv_journal.specs.Standing.{Keeps, RecordsOr, RecordsIn}
use Rattle.lv_journal.proofs.Bytes.{opened_closed}
use Rattle.lv_journal.proofs.Standing.{all_push}

-- the payloads, and the bad place, by what stands at the first gate
abbrev pub taken : ℕ → List ℕ → Found → List (List ℕ)
taken n bytes found = elim found [
  | Missing ↦ []
  | Shut ↦ []
  | Broken ↦ []
  | Open count ↦ take count (drop 5 bytes) ∷ payloads n (drop (5 + count) bytes)
]

abbrev pub bad_by : ℕ → ℕ → List ℕ → Found → Option ℕ
bad_by n offset bytes found = elim found [
  | Missing ↦ Some offset
  | Shut ↦ None
  | Broken ↦ Some (offset + 1)
  | Open count ↦ bad_from n (offset + (count + 5)) (drop (5 + count) bytes)
]

payloads_by : (n : ℕ) (bytes : List ℕ) (found : Found) → found_at bytes ≡ found → payloads (suc n) bytes ≡ taken n bytes found
payloads_by n bytes found is = ap (taken n bytes) is

bad_from_by : (n offset : ℕ) (bytes : List ℕ) (found : Found) → found_at bytes ≡ found → bad_from (suc n) offset bytes ≡ bad_by n offset bytes found
bad_from_by n offset bytes found is = ap (bad_by n offset bytes) is

-- a closed gate ends the payloads
pub found_shut : (gate : ℕ) (behind : List ℕ) → gate ≢ 1 → found_at (gate ∷ behind) ≡ Shut
found_shut gate behind shut = grind (arith, nat_tests)

frame_length : (p rest : List ℕ) → IsPayload p → length_of (frame p ++ rest) ≡ length p
frame_length p rest is = from_le_bytes-to_le_bytes_4 (length p) is.fits

frame_begins : (p rest : List ℕ) → IsPayload p → begins_frame (frame p ++ rest) ≡ true
frame_begins p rest is = grind (arith, nat_tests, frame_length p rest is, is.some, length-append p rest)

-- an open gate with a whole frame
found_open : (p rest : List ℕ) → IsPayload p → found_at (1 ∷ (frame p ++ rest)) ≡ Open (length p)
found_open p rest is =
    let begins : begins_frame (frame p ++ rest) ≡ true = frame_begins p rest is in
    let size : length_of (frame p ++ rest) ≡ length p = frame_length p rest is in
    rw begins (ap Open size)

after_frame : (p rest : List ℕ) → drop (5 + length p) (1 ∷ (frame p ++ rest)) ≡ rest
after_frame p rest =
    let five : 5 + length p ≡ suc (suc (suc (suc (suc (length p))))) = omega arith in
    ap (λ (k : ℕ). drop k (1 ∷ (frame p ++ rest))) five ∙ drop_at p rest (length p) refl

-- it gives its payload, and then what is behind
open_gate : (n : ℕ) (p rest : List ℕ) → IsPayload p → payloads (suc n) (1 ∷ (frame p ++ rest)) ≡ p ∷ payloads n rest
open_gate n p rest is =
    let first : take (length p) (p ++ rest) ≡ p = take_at p rest (length p) refl in
    payloads_by n (1 ∷ (frame p ++ rest)) (Open (length p)) (found_open p rest is)
    ∙ ap (λ (l : List ℕ). l ∷ payloads n (drop (5 + length p) (1 ∷ (frame p ++ rest)))) first
    ∙ ap (λ (l : List ℕ). p ∷ payloads n l) (after_frame p rest)

open_bad : (n offset : ℕ) (p rest : List ℕ) → IsPayload p → bad_from (suc n) offset (1 ∷ (frame p ++ rest)) ≡ bad_from n (offset + (length p + 5)) rest
open_bad n offset p rest is =
    bad_from_by n offset (1 ∷ (frame p ++ rest)) (Open (length p)) (found_open p rest is)
    ∙ ap (λ (l : List ℕ). bad_from n (offset + (length p + 5)) l) (after_frame p rest)

payloads_begin : (m n : ℕ) (ps : List (List ℕ)) (rest : List ℕ) → AllByRecursion IsPayload ps → m ≡ length ps + n → payloads m (opened ps ++ rest) ≡ ps ++ payloads n rest
payloads_begin m n [] rest all is =
    let same : m ≡ n = omega (arith, is) in
    ap (λ (k : ℕ). payloads k rest) same
payloads_begin zero n (p ∷ ps) rest all is = absurd (omega (arith, is))
payloads_begin (suc m) n (p ∷ ps) rest all is =
    ap (λ (l : List ℕ). payloads (suc m) (1 ∷ l)) (append_assoc (frame p) (opened ps) rest)
    ∙ open_gate m p (opened ps ++ rest) all.0
    ∙ ap (λ (l : List (List ℕ)). p ∷ l) (payloads_begin m n ps rest all.1 (omega (arith, is)))

bad_begin : (m n offset : ℕ) (ps : List (List ℕ)) (rest : List ℕ) → AllByRecursion IsPayload ps → m ≡ length ps + n → bad_from m offset (opened ps ++ rest) ≡ bad_from n (offset + length (opened ps)) rest
bad_begin m n offset [] rest all is =
    let same : m ≡ n = omega (arith, is) in
    let here : offset ≡ offset + 0 = omega arith in
    ap (λ (k : ℕ). bad_from k offset rest) same ∙ ap (λ (k : ℕ). bad_from n k rest) here
bad_begin zero n offset (p ∷ ps) rest all is = absurd (omega (arith, is))
bad_begin (suc m) n offset (p ∷ ps) rest all is =
    let place : (offset + (length p + 5)) + length (opened ps) ≡ offset + length (opened (p ∷ ps)) = omega (arith, length-append (frame p) (opened ps)) in
    ap (λ (l : List ℕ). bad_from (suc m) offset (1 ∷ l)) (append_assoc (frame p) (opened ps) rest)
    ∙ open_bad m offset p (opened ps ++ rest) all.0
    ∙ bad_begin m n (offset + (length p + 5)) ps rest all.1 (omega (arith, is))
    ∙ ap (λ (k : ℕ). bad_from n k rest) place

count_opened : (ps : List (List ℕ)) → length ps ≤ length (opened ps)
count_opened [] = omega arith
count_opened (p ∷ ps) = omega (arith, count_opened ps, length-append (frame p) (opened ps))

pub length-spelled : (ps : List (List ℕ)) → length (spelled ps) ≡ 8 + length (opened ps)
length-spelled ps = length-append magic (opened ps)

-- there are more bytes than records
long : (ps : List (List ℕ)) (c rest : List ℕ) → c ≡ spelled ps ++ rest → length ps + 8 ≤ length c
long ps c rest is = omega (arith, ap length is, length-append (spelled ps) rest, length-spelled ps, count_opened ps)

after : (ps : List (List ℕ)) (c rest : List ℕ) → c ≡ spelled ps ++ rest → (k : ℕ) × (length c ≡ length ps + suc k)
after ps c rest is = (length c - length ps - 1, omega (arith, long ps c rest is))

-- bytes that begin with these records have them, and then those behind; and they are bad where the bytes behind are
pub records_begin : (ps : List (List ℕ)) (c rest : List ℕ) (found : Found) → AllByRecursion IsPayload ps → c ≡ spelled ps ++ rest → found_at rest ≡ found → (k : ℕ) × (records_of c ≡ ps ++ taken k rest found)
records_begin ps c rest found all is at =
    let more = after ps c rest is in (
      more.0,
      ap (λ (l : List ℕ). payloads (length c) (drop 8 l)) is
          ∙ payloads_begin (length c) (suc more.0) ps rest all more.1
          ∙ ap (λ (l : List (List ℕ)). ps ++ l) (payloads_by more.0 rest found at),
    )

pub bad_begins : (ps : List (List ℕ)) (c rest : List ℕ) (found : Found) → AllByRecursion IsPayload ps → c ≡ spelled ps ++ rest → found_at rest ≡ found → (k : ℕ) × (bad_place c ≡ bad_by k (length (spelled ps)) rest found)
bad_begins ps c rest found all is at =
    let more = after ps c rest is in (
      more.0,
      ap (λ (l : List ℕ). if bytes_eq (take 8 l) magic then bad_from (length c) 8 (drop 8 l) else Some 0) is
          ∙ bad_begin (length c) (suc more.0) 8 ps rest all more.1
          ∙ ap (λ (k : ℕ). bad_from (suc more.0) k rest) (sym (length-spelled ps))
          ∙ bad_from_by more.0 (length (spelled ps)) rest found at,
    )

-- bytes with a closed gate behind these records are a journal with them, whatever stands behind the gate
pub closed_means : (ps : List (List ℕ)) (c : List ℕ) → AllByRecursion IsPayload ps → Closed ps c → IsJournal ps c
closed_means ps c all closed =
    let shut = found_shut closed.gate closed.behind closed.shut in
    let are = records_begin ps c (closed.gate ∷ closed.behind) Shut all closed.is shut in
    let good = bad_begins ps c (closed.gate ∷ closed.behind) Shut all closed.is shut in
    record { good = good.1; all = are.1 ∙ append-nil ps }

-- a whole frame behind a gate counts if the gate is open
pub staged_means : (ps : List (List ℕ)) (p c : List ℕ) → AllByRecursion IsPayload ps → IsPayload p → Staged ps p c → IsJournal ps c ⊎ IsJournal (ps ++ p ∷ []) c
staged_means ps p c all is staged = elim (cases_eq staged.gate 1) [
  | inl is_open ↦ inr (closed_means (ps ++ p ∷ []) c (all_push ps p all is) (opened_closed ps p c staged.next staged.behind staged.shut (staged.is ∙ ap (λ (g : ℕ). spelled ps ++ (g ∷ frame p ++ staged.next ∷ staged.behind)) is_open)))
  | inr shut ↦ inl (closed_means ps c all (record { gate = staged.gate; behind = frame p ++ staged.next ∷ staged.behind; shut = shut; is = staged.is }))
]

pub keeps_means : (ps : List (List ℕ)) (q : Option (List ℕ)) (p c : List ℕ) → AllByRecursion IsPayload ps → IfSome q IsPayload → Keeps ps q c → RecordsOr ps q p c
keeps_means ps None p c all is keeps = inl (closed_means ps c all keeps)
keeps_means ps (Some q) p c all is keeps = ⊎_elim (λ h. inl h) (λ h. inr (inl h)) (staged_means ps q c all is keeps)

pub keeps_in : (ps : List (List ℕ)) (q : Option (List ℕ)) (c : List ℕ) → AllByRecursion IsPayload ps → IfSome q IsPayload → Keeps ps q c → RecordsIn ps q c
keeps_in ps None c all is keeps = closed_means ps c all keeps
keeps_in ps (Some q) c all is keeps = staged_means ps q c all is keeps

pub told_in : (ps : List (List ℕ)) (q : Option (List ℕ)) (seen : Option (List ℕ)) → AllByRecursion IsPayload ps → IfSome q IsPayload → IfSome seen (Keeps ps q) → IfSome seen (RecordsIn ps q)
told_in ps q None all is keeps = tt
told_in ps q (Some c) all is keeps = keeps_in ps q c all is keeps

pub told_records : (ps : List (List ℕ)) (seen : Option (List ℕ)) → AllByRecursion IsPayload ps → IfSome seen (Keeps ps None) → IfSome (option_map records_of seen) (λ rs. rs ≡ ps)
told_records ps None all keeps = tt
told_records ps (Some c) all keeps = (closed_means ps c all keeps).all

-- the length of a journal counts its records
opened_counts : (ps : List (List ℕ)) → length (opened ps) ≡ sum_by (λ (p : List ℕ). length p + 5) ps
opened_counts [] = refl
opened_counts (p ∷ ps) = omega (arith, opened_counts ps, length-append p (opened ps), sum_by-cons (λ (p : List ℕ). length p + 5) p ps)

pub length_counts : (ps : List (List ℕ)) (gate : ℕ) → gate ≡ length (spelled ps) → gate + 1 ≡ length_with ps
length_counts ps gate is = omega (arith, is, length-spelled ps, opened_counts ps)
