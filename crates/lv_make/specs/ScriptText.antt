-- The text of a made script: a shop of 100 items and of n sales, with changes and two queries.
use Rattle.std.specs.Prelude.{ℕ, ◌+◌, ◌-◌, ◌*◌, ◌/◌, ◌%◌, ◌==◌, min, pos, if◌then◌else◌, List, [], ◌∷◌, ◌++◌, map, codes}
use Rattle.std.specs.List.{flat_map, range_with_len}
use Rattle.lv_values.specs.declared.value.Value.{Value}
use Rattle.lv_values.specs.declared.value.Value.TheVariants.{Num}
use Rattle.lv_values.specs.Print.{values_text}

-- ---- lines

-- lines, a line feed behind each
abbrev pub text_of : List (List ℕ) → List ℕ
text_of lines = flat_map (λ line. line ++ codes "\n") lines

-- texts, this separator between them
abbrev pub joined : List ℕ → List (List ℕ) → List ℕ
joined separator [] = []
joined separator (text ∷ texts) = text ++ flat_map (λ t. separator ++ t) texts

-- a row as a statement has it: its values in parentheses
abbrev pub tuple_text : List Value → List ℕ
tuple_text row = codes "(" ++ values_text (codes ", ") row ++ codes ")"

-- the words of an INSERT into this table, and one INSERT of these rows
unfoldable pub insert_words : List ℕ → List ℕ
insert_words table = codes "insert into " ++ table ++ codes " values "

abbrev pub insert_line : List ℕ → List (List Value) → List ℕ
insert_line table rows = insert_words table ++ joined (codes ", ") (map tuple_text rows)

-- ---- the setup: two tables, a view that groups and one that joins, and the items

unfoldable pub shop : List (List ℕ)
shop =
    codes "create table item (id int, price int, primary key (id))"
    ∷ codes "create table sale (no int, item int, qty int, primary key (no))"
    ∷ codes "create view per_item as select s.item, sum(s.qty) as total, count(*) as n from sale s, item i where s.item = i.id group by s.item"
    ∷ codes "create view lines as select s.no, i.id, i.price, s.qty from sale s, item i where s.item = i.id"
    ∷ []

-- item k, at a price of 7 k
abbrev pub item_row : ℕ → List Value
item_row k = Num (pos k) ∷ Num (pos (7 * k)) ∷ []

-- so many items, numbered from 0
unfoldable pub items : ℕ → List (List Value)
items count = map item_row (range_with_len 0 count)

abbrev pub setup : List (List ℕ)
setup = shop ++ insert_line (codes "item") (items 100) ∷ []

unfoldable pub setup_lines : List (List ℕ)
setup_lines = codes "@setup" ∷ setup

-- ---- the session that loads the sales

-- sale i, of item i mod 100, of a quantity i mod 10
abbrev pub sale_row : ℕ → List Value
sale_row i = Num (pos i) ∷ Num (pos (i % 100)) ∷ Num (pos (i % 10)) ∷ []

-- INSERT k, from 0 on, of n sales, which are numbered from 1: the next 500, or in the last INSERT what is left
abbrev pub sales : ℕ → ℕ → List (List Value)
sales n k = map sale_row (range_with_len (500 * k + 1) (min 500 (n - 500 * k)))

abbrev pub sale_line : ℕ → ℕ → List ℕ
sale_line n k = insert_line (codes "sale") (sales n k)

-- how many INSERTs of at most 500 sales there are for n sales
abbrev pub insert_count : ℕ → ℕ
insert_count n = (n + 499) / 500

abbrev pub insert_lines : ℕ → List (List ℕ)
insert_lines n = map (sale_line n) (range_with_len 0 (insert_count n))

unfoldable pub load_lines : ℕ → List (List ℕ)
load_lines n = codes "@session load" ∷ insert_lines n

-- ---- the sessions that change and that read

unfoldable pub edits : List (List ℕ)
edits =
    codes "update sale set qty = qty + 1 where item = 7"
    ∷ codes "delete from sale where item = 8"
    ∷ codes "update item set price = price + 1 where id < 50"
    ∷ []

unfoldable pub edit_lines : List (List ℕ)
edit_lines = codes "@session edit" ∷ edits

unfoldable pub reads : List (List ℕ)
reads =
    codes "select * from per_item"
    ∷ codes "select * from lines where price > 600"
    ∷ []

unfoldable pub read_lines : List (List ℕ)
read_lines = codes "@session read" ∷ reads

-- ---- the order

-- these words, where this divides the number
abbrev pub every : ℕ → ℕ → List ℕ → List ℕ
every step number words = if number % step == 0 then words else []

-- the items at INSERT k of the session that loads, from 1 on: its turn, behind each fourth a worker's step, and behind
-- each eighth then a clean-up
abbrev pub order_items : ℕ → List ℕ
order_items k = codes " load" ++ every 4 k (codes " work 1") ++ every 8 k (codes " clean")

abbrev pub order_line : ℕ → List ℕ
order_line n = codes "@order" ++ flat_map order_items (range_with_len 1 (insert_count n))

-- ---- the script

abbrev pub made_lines : ℕ → List (List ℕ)
made_lines n = setup_lines ++ load_lines n ++ edit_lines ++ read_lines ++ order_line n ∷ []

-- The script that is made for n sales.
unfoldable pub made_script : ℕ → List ℕ
made_script n = text_of (made_lines n)
