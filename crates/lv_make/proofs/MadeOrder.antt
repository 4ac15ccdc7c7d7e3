-- The order line of a made script.
use Rattle.std.proofs.Common.{◌≡◌, ℕ, zero, suc, ◌+◌, ◌-◌, ◌*◌, ◌%◌, ◌≤◌, Bool, true, false, eqb, List, [], ◌∷◌, ◌++◌, length, refl, sym, ap, ◌∙◌, append_assoc, arith}
use Rattle.std.specs.Prelude.{codes, nat_lt, Option, Some, None, if◌then◌else◌}
use Rattle.std.specs.List.{flat_map, range_with_len}
use Rattle.std.proofs.lemmas.List.{append-nil, length-append}
use Rattle.lv_plain.specs.declared.program.Script.{Script}
use Rattle.lv_plain.specs.declared.program.OrderItem.{OrderItem}
use Rattle.lv_plain.specs.declared.program.OrderItem.TheVariants.{Turn, Work, Clean}
use Rattle.lv_lines.specs.ScriptLine.{order, said, words_of}
use Rattle.lv_lines.specs.OrderLine.{ends, items_from, items_of, left_after}
use Rattle.lv_lines.specs.Script.{said_fault}
use Rattle.lv_make.specs.ScriptText.{every, order_items, order_line, insert_count}
use Rattle.lv_make.specs.MadeProgram.{order_at}
use Rattle.lv_make.proofs.MadeStatements.{IsPlain, plain_append}
use Rattle.lv_make.proofs.MadeReading.{Reads, step, session_part}

-- ---- the items at one INSERT: whether a worker's step comes, and whether a clean-up

abbrev text_for : Bool → Bool → List ℕ
text_for work clean = codes " load" ++ (if work then codes " work 1" else []) ++ (if clean then codes " clean" else [])

abbrev words_for : Bool → Bool → List (List ℕ)
words_for work clean = codes "load" ∷ (if work then codes "work" ∷ codes "1" ∷ [] else []) ++ (if clean then codes "clean" ∷ [] else [])

abbrev items_for : Bool → Bool → List OrderItem
items_for work clean = Turn 1 ∷ (if work then Work 1 ∷ [] else []) ++ (if clean then Clean ∷ [] else [])

abbrev words_at : ℕ → List (List ℕ)
words_at k = words_for (eqb (k % 4) 0) (eqb (k % 8) 0)

-- ---- words

words_last : (work clean : Bool) → words_of (text_for work clean ++ []) ≡ words_for work clean ++ []
words_last false false = refl
words_last false true = refl
words_last true false = refl
words_last true true = refl

words_more : (work clean : Bool) (rest : List ℕ) → words_of (text_for work clean ++ (32 ∷ rest)) ≡ words_for work clean ++ words_of (32 ∷ rest)
words_more false false rest = refl
words_more false true rest = refl
words_more true false rest = refl
words_more true true rest = refl

words_all : (a k : ℕ) → words_of (flat_map order_items (range_with_len a k)) ≡ flat_map words_at (range_with_len a k)
words_all a zero = refl
words_all a (suc zero) = words_last (eqb (a % 4) 0) (eqb (a % 8) 0)
words_all a (suc (suc k)) =
    words_more (eqb (a % 4) 0) (eqb (a % 8) 0) _
    ∙ ap (λ (words : List (List ℕ)). words_at a ++ words) (words_all (a + 1) (suc k))

-- ---- items

module _ (load edit read : List (List ℕ)) where
  abbrev pub named : List Script
  named = record { name = codes "load"; lines = load } ∷ record { name = codes "edit"; lines = edit } ∷ record { name = codes "read"; lines = read } ∷ []

  abbrev read_on : List OrderItem → List (List ℕ) → Option (List OrderItem)
  read_on items words = items_from named (ends Clean).0 items words

  two : (items : List OrderItem) (x y : OrderItem) → ((items ++ x ∷ []) ++ []) ++ y ∷ [] ≡ items ++ (x ∷ y ∷ [])
  two items x y = ap (λ (xs : List OrderItem). xs ++ y ∷ []) (append-nil (items ++ x ∷ [])) ∙ append_assoc items (x ∷ []) (y ∷ [])

  items_step : (work clean : Bool) (items : List OrderItem) (words : List (List ℕ)) → read_on items (words_for work clean ++ words) ≡ read_on (items ++ items_for work clean) words
  items_step false false items words = refl
  items_step false true items words = ap (λ (xs : List OrderItem). read_on xs words) (append_assoc items (Turn 1 ∷ []) (Clean ∷ []))
  items_step true false items words = ap (λ (xs : List OrderItem). read_on xs words) (two items (Turn 1) (Work 1))
  items_step true true items words =
      ap (λ (xs : List OrderItem). read_on (xs ++ Clean ∷ []) words) (two items (Turn 1) (Work 1))
      ∙ ap (λ (xs : List OrderItem). read_on xs words) (append_assoc items (Turn 1 ∷ Work 1 ∷ []) (Clean ∷ []))

  items_all : (a k : ℕ) (items : List OrderItem) → read_on items (flat_map words_at (range_with_len a k)) ≡ Some (items ++ flat_map order_at (range_with_len a k))
  items_all a zero items = ap (λ (xs : List OrderItem). Some xs) (sym (append-nil items))
  items_all a (suc k) items =
      items_step (eqb (a % 4) 0) (eqb (a % 8) 0) items (flat_map words_at (range_with_len (a + 1) k))
      ∙ items_all (a + 1) k (items ++ order_at a)
      ∙ ap (λ (xs : List OrderItem). Some xs) (append_assoc items (order_at a) (flat_map order_at (range_with_len (a + 1) k)))

-- ---- what they take

some : (n : ℕ) → 1 ≤ n → eqb n 0 ≡ false
some n h = grind arith

left_step : (work clean : Bool) (n e r : ℕ) (items : List OrderItem) → 1 ≤ n → left_after (n ∷ e ∷ r ∷ []) (items_for work clean ++ items) ≡ left_after ((n - 1) ∷ e ∷ r ∷ []) items
left_step false false n e r items h = rw (some n h) refl
left_step false true n e r items h = rw (some n h) refl
left_step true false n e r items h = rw (some n h) refl
left_step true true n e r items h = rw (some n h) refl

left_all : (a k n m e r : ℕ) → k + m ≡ n → left_after (n ∷ e ∷ r ∷ []) (flat_map order_at (range_with_len a k)) ≡ Some (m ∷ e ∷ r ∷ [])
left_all a zero n m e r is = let same : n ≡ m = omega arith in ap (λ (x : ℕ). Some (x ∷ e ∷ r ∷ [])) same
left_all a (suc k) n m e r is =
    left_step (eqb (a % 4) 0) (eqb (a % 8) 0) n e r (flat_map order_at (range_with_len (a + 1) k)) (omega arith)
    ∙ left_all (a + 1) k (n - 1) m e r (omega arith)

-- ---- how long they are

plain_for : (work clean : Bool) → IsPlain 18 (text_for work clean)
plain_for false false = record { plain = refl; short = omega arith }
plain_for false true = record { plain = refl; short = omega arith }
plain_for true false = record { plain = refl; short = omega arith }
plain_for true true = record { plain = refl; short = omega arith }

items_plain : (a k : ℕ) → IsPlain (18 * k) (flat_map order_items (range_with_len a k))
items_plain a zero = record { plain = refl; short = omega arith }
items_plain a (suc k) =
    let all = plain_append 18 (18 * k) (order_items a) _ (plain_for (eqb (a % 4) 0) (eqb (a % 8) 0)) (items_plain (a + 1) k) in
    record { plain = all.plain; short = omega (arith, all.short) }

few_for : (work clean : Bool) → length (items_for work clean) ≤ 3
few_for false false = omega arith
few_for false true = omega arith
few_for true false = omega arith
few_for true true = omega arith

items_few : (a k : ℕ) → length (flat_map order_at (range_with_len a k)) ≤ 3 * k
items_few a zero = omega arith
items_few a (suc k) =
    omega (arith, length-append (order_at a) (flat_map order_at (range_with_len (a + 1) k)), few_for (eqb (a % 4) 0) (eqb (a % 8) 0), items_few (a + 1) k)

pub order_plain : (n : ℕ) → n ≤ 65536 → IsPlain 65536 (order_line n)
order_plain n most =
    let count = insert_count n in
    let all = plain_append 6 (18 * count) (codes "@order") _ (record { plain = refl; short = omega arith }) (items_plain 1 count) in
    record { plain = all.plain; short = omega (arith, all.short) }

-- ---- the line

order_says : (rest : List ℕ) → said (codes "@order" ++ (32 ∷ rest)) ≡ order (words_of (32 ∷ rest))
order_says rest = refl

line_says : (count : ℕ) → 1 ≤ count → said (codes "@order" ++ flat_map order_items (range_with_len 1 count)) ≡ order (flat_map words_at (range_with_len 1 count))
line_says zero some = absurd (omega arith)
line_says (suc count) some = order_says ((codes "load" ++ every 4 1 (codes " work 1") ++ every 8 1 (codes " clean")) ++ flat_map order_items (range_with_len 2 count)) ∙ ap order (words_all 1 (suc count))

not_too_many : (k : ℕ) → k ≤ 200000 → nat_lt 200000 k ≡ false
not_too_many k h = grind arith

-- its items are read, and they take what the first session has
pub order_reads : (n : ℕ) (setup load edit read : List (List ℕ)) (total : ℕ) → 1 ≤ n → n ≤ 65536 → length load ≡ insert_count n
    → Reads (session_part setup (named load edit read) total) (order_line n ∷ [])
    (record { setup = setup; sessions = named load edit read; order = flat_map order_at (range_with_len 1 (insert_count n)) })
order_reads n setup load edit read total least most as_many =
    let count = insert_count n in
    let words = flat_map words_at (range_with_len 1 count) in
    let items = flat_map order_at (range_with_len 1 count) in
    let part = session_part setup (named load edit read) total in
    let found : items_of (named load edit read) words ≡ Some items = items_all load edit read 1 count [] in
    let taken : left_after (length load ∷ length edit ∷ length read ∷ []) items ≡ Some (0 ∷ length edit ∷ length read ∷ []) =
    left_all 1 count (length load) 0 (length edit) (length read) (omega (arith, as_many)) in
    let some : 1 ≤ count = omega arith in
    let few : nat_lt 200000 (0 + length items) ≡ false = not_too_many (0 + length items) (omega (arith, items_few 1 count)) in
    let none : said_fault part (order_line n) (order words) ≡ None = rw (found, taken, few) refl in
    step part (order_line n) (order words) [] _ (order_plain n most) (line_says count some) none
    (λ number. rw (found, taken) refl)

pub test : ℕ
test = 0
