-- The statements of a made script: their bytes, their lengths, and that they are statements.
use Rattle.std.proofs.Common.{◌≡◌, ℕ, zero, suc, ◌+◌, ◌*◌, ◌%◌, ◌^◌, ◌<◌, ◌≤◌, Bool, true, false, ◌&&◌, List, [], ◌∷◌, ◌++◌, length, map, refl, ◌∙◌, arith}
use Rattle.std.specs.Prelude.{codes, nat_le, min, decimal, ◌-◌}
use Rattle.std.specs.Char.{is_ascii_digit}
use Rattle.std.specs.List.{flat_map, range_with_len, list_all, AllByRecursion}
use Rattle.std.proofs.lemmas.Fmt.{length-decimal-le}
use Rattle.std.proofs.lemmas.List.{length-append, length-map}
use Rattle.std.proofs.lemmas.List.Folds.{list_all-append}
use Rattle.std.proofs.lemmas.List.FromFn.{length-map-range_with_len}
use Rattle.lv_reading.proofs.Decimals.{decimal_digits}
use Rattle.lv_lines.specs.ScriptLine.{statement, said}
use Rattle.lv_make.specs.ScriptText.{tuple_text, item_row, sale_row, joined, insert_words, insert_line, items, sale_line, setup, shop, edits, reads}

-- ---- bytes between a blank and a tilde

abbrev pub is_plain : ℕ → Bool
is_plain b = nat_le 32 b && nat_le b 126

-- a text of such bytes, of at most so many
pub record IsPlain (most : ℕ) (text : List ℕ) : Type 0 where
  pub plain : list_all is_plain text ≡ true
  pub short : length text ≤ most

both : (a b : Bool) → a ≡ true → b ≡ true → (a && b) ≡ true
both a b ha hb = cc

pub first_of_both : (a b : Bool) → (a && b) ≡ true → a ≡ true
first_of_both true b e = refl
first_of_both false b e = absurd cc

pub second_of_both : (a b : Bool) → (a && b) ≡ true → b ≡ true
second_of_both true b e = e
second_of_both false b e = absurd cc

pub plain_append : (m n : ℕ) (xs ys : List ℕ) → IsPlain m xs → IsPlain n ys → IsPlain (m + n) (xs ++ ys)
plain_append m n xs ys px py = record {
  plain = list_all-append is_plain xs ys ∙ both (list_all is_plain xs) (list_all is_plain ys) px.plain py.plain;
  short = omega (arith, length-append xs ys, px.short, py.short);
}

digit_plain : (b : ℕ) → is_ascii_digit b ≡ true → is_plain b ≡ true
digit_plain b e = grind arith

digits_plain : (ds : List ℕ) → list_all is_ascii_digit ds ≡ true → list_all is_plain ds ≡ true
digits_plain [] e = refl
digits_plain (d ∷ ds) e = both (is_plain d) (list_all is_plain ds) (digit_plain d (first_of_both _ _ e)) (digits_plain ds (second_of_both (is_ascii_digit d) _ e))

decimal_plain : (n : ℕ) → n < 10 ^ 5 → IsPlain 5 (decimal n)
decimal_plain n low = record {
  plain = digits_plain (decimal n) (decimal_digits n (omega arith));
  short = length-decimal-le 5 n (omega arith) low (omega arith);
}

-- ---- rows in parentheses

pub item_plain : (k : ℕ) → k ≤ 65536 → 7 * k < 10 ^ 5 → IsPlain 14 (tuple_text (item_row k))
item_plain k low price =
    plain_append 1 13 (codes "(") _ (record { plain = refl; short = omega arith })
    (plain_append 12 1 (decimal k ++ ((codes ", " ++ (decimal (7 * k) ++ [])))) (codes ")")
    (plain_append 5 7 (decimal k) _ (decimal_plain k (omega arith))
    (plain_append 2 5 (codes ", ") _ (record { plain = refl; short = omega arith })
    (plain_append 5 0 (decimal (7 * k)) [] (decimal_plain (7 * k) price) (record { plain = refl; short = omega arith }))))
    (record { plain = refl; short = omega arith }))

pub sale_plain : (i : ℕ) → i ≤ 65536 → IsPlain 24 (tuple_text (sale_row i))
sale_plain i low =
    plain_append 1 23 (codes "(") _ (record { plain = refl; short = omega arith })
    (plain_append 22 1 (decimal i ++ (codes ", " ++ (decimal (i % 100) ++ (codes ", " ++ (decimal (i % 10) ++ []))))) (codes ")")
    (plain_append 5 17 (decimal i) _ (decimal_plain i (omega arith))
    (plain_append 2 15 (codes ", ") _ (record { plain = refl; short = omega arith })
    (plain_append 5 10 (decimal (i % 100)) _ (decimal_plain (i % 100) (omega arith))
    (plain_append 2 8 (codes ", ") _ (record { plain = refl; short = omega arith })
    (plain_append 5 3 (decimal (i % 10)) [] (decimal_plain (i % 10) (omega arith)) (record { plain = refl; short = omega arith }))))))
    (record { plain = refl; short = omega arith }))

weaker : (m n : ℕ) (text : List ℕ) → m ≤ n → IsPlain m text → IsPlain n text
weaker m n text most p = record { plain = p.plain; short = omega (arith, p.short) }

pub items_plain : (a k : ℕ) → a + k ≤ 100 → AllByRecursion (IsPlain 24) (map tuple_text (map item_row (range_with_len a k)))
items_plain a zero within = tt
items_plain a (suc k) within = (weaker 14 24 _ (omega arith) (item_plain a (omega arith) (omega arith)), items_plain (a + 1) k (omega arith))

pub sales_plain : (a k : ℕ) → a + k ≤ 65537 → AllByRecursion (IsPlain 24) (map tuple_text (map sale_row (range_with_len a k)))
sales_plain a zero within = tt
sales_plain a (suc k) within = (sale_plain a (omega arith), sales_plain (a + 1) k (omega arith))

-- ---- statements

behind_plain : (texts : List (List ℕ)) → AllByRecursion (IsPlain 24) texts → IsPlain (26 * length texts) (flat_map (λ t. codes ", " ++ t) texts)
behind_plain [] all = record { plain = refl; short = omega arith }
behind_plain (t ∷ texts) all =
    weaker (26 + 26 * length texts) (26 * suc (length texts)) _ (omega arith)
    (plain_append 26 (26 * length texts) (codes ", " ++ t) _ (plain_append 2 24 (codes ", ") t (record { plain = refl; short = omega arith }) all.0) (behind_plain texts all.1))

joined_plain : (texts : List (List ℕ)) → AllByRecursion (IsPlain 24) texts → IsPlain (26 * length texts) (joined (codes ", ") texts)
joined_plain [] all = record { plain = refl; short = omega arith }
joined_plain (t ∷ texts) all =
    weaker (24 + 26 * length texts) (26 * suc (length texts)) _ (omega arith) (plain_append 24 (26 * length texts) t _ all.0 (behind_plain texts all.1))

-- a line that is a statement, of such bytes, and not too long
pub record IsStatement (line : List ℕ) : Type 0 where
  pub plain : IsPlain 65536 line
  pub says : said line ≡ statement

insert_plain : (words : List ℕ) (texts : List (List ℕ)) → IsPlain 30 words → length texts ≤ 500 → AllByRecursion (IsPlain 24) texts → IsPlain 65536 (words ++ joined (codes ", ") texts)
insert_plain words texts first few all =
    weaker (30 + 26 * length texts) 65536 _ (omega arith) (plain_append 30 (26 * length texts) words _ first (joined_plain texts all))

item_words : IsPlain 30 (insert_words (codes "item"))
unfolding insert_words
item_words = record { plain = refl; short = omega arith }

sale_words : IsPlain 30 (insert_words (codes "sale"))
unfolding insert_words
sale_words = record { plain = refl; short = omega arith }

insert_says : (table rest : List ℕ) → said (insert_words table ++ rest) ≡ statement
unfolding insert_words
insert_says table rest = refl

item_statement : IsStatement (insert_line (codes "item") (items 100))
unfolding items
item_statement =
    let few : length (map tuple_text (map item_row (range_with_len 0 100))) ≤ 500 = omega (arith, length-map (map item_row (range_with_len 0 100)) tuple_text, length-map-range_with_len item_row 0 100) in
    record {
      plain = insert_plain (insert_words (codes "item")) (map tuple_text (map item_row (range_with_len 0 100))) item_words few (items_plain 0 100 (omega arith));
      says = insert_says (codes "item") _;
    }

sale_statement : (n k : ℕ) → n ≤ 65536 → 500 * k ≤ n → IsStatement (sale_line n k)
sale_statement n k most there =
    let first = 500 * k + 1 in
    let count = min 500 (n - 500 * k) in
    let few : length (map tuple_text (map sale_row (range_with_len first count))) ≤ 500 =
    omega (arith, length-map (map sale_row (range_with_len first count)) tuple_text, length-map-range_with_len sale_row first count) in
    record {
      plain = insert_plain (insert_words (codes "sale")) (map tuple_text (map sale_row (range_with_len first count))) sale_words few (sales_plain first count (omega arith));
      says = insert_says (codes "sale") _;
    }

pub insert_statements : (n a k : ℕ) → n ≤ 65536 → 500 * (a + k) ≤ n + 499 → AllByRecursion IsStatement (map (sale_line n) (range_with_len a k))
insert_statements n a zero most there = tt
insert_statements n a (suc k) most there = (sale_statement n a most (omega arith), insert_statements n (a + 1) k most (omega arith))

-- a line without numbers
fixed : (line : List ℕ) → list_all is_plain line ≡ true → length line ≤ 200 → said line ≡ statement → IsStatement line
fixed line plain short says = record { plain = record { plain = plain; short = omega arith }; says = says }

pub all_append : {X : Type 0} (P : X → Type 0) (xs ys : List X) → AllByRecursion P xs → AllByRecursion P ys → AllByRecursion P (xs ++ ys)
all_append P [] ys all more = more
all_append P (x ∷ xs) ys all more = (all.0, all_append P xs ys all.1 more)

shop_statements : AllByRecursion IsStatement shop
unfolding shop
shop_statements = (fixed _ refl (omega arith) refl, (fixed _ refl (omega arith) refl, (fixed _ refl (omega arith) refl, (fixed _ refl (omega arith) refl, tt))))

pub setup_statements : AllByRecursion IsStatement setup
setup_statements = all_append IsStatement shop _ shop_statements (item_statement, tt)

pub edit_statements : AllByRecursion IsStatement edits
unfolding edits
edit_statements = (fixed _ refl (omega arith) refl, (fixed _ refl (omega arith) refl, (fixed _ refl (omega arith) refl, tt)))

pub read_statements : AllByRecursion IsStatement reads
unfolding reads
read_statements = (fixed _ refl (omega arith) refl, (fixed _ refl (omega arith) refl, tt))

pub test : ℕ
test = 0
