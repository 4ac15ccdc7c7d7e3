-- The rows of the INSERTs are the sales in order.
use Rattle.std.proofs.Common.{◌≡◌, ℕ, zero, suc, ◌+◌, ◌-◌, ◌*◌, ◌≤◌, List, ◌∷◌, ◌++◌, map, refl, sym, ap, ◌∙◌, arith}
use Rattle.std.specs.Prelude.{min}
use Rattle.std.specs.List.{flat_map, range_with_len}
use Rattle.std.proofs.lemmas.List.{append-nil}
use Rattle.lv_values.specs.declared.value.Value.{Value}
use Rattle.lv_make.specs.ScriptText.{sale_row, sales, insert_count}
use Rattle.lv_make.specs.MadeProgram.{SalesAreInOrder}

-- numbers from a on, and then those that follow them
rows_split : (a k b m n : ℕ) → a + k ≡ b → k + m ≡ n → map sale_row (range_with_len a n) ≡ map sale_row (range_with_len a k) ++ map sale_row (range_with_len b m)
rows_split a zero b m n at all =
    let first : a ≡ b = omega arith in
    let many : m ≡ n = omega arith in
    sym (ap (λ (x : ℕ). map sale_row (range_with_len x m)) (sym first) ∙ ap (λ (x : ℕ). map sale_row (range_with_len a x)) many)
rows_split a (suc k) b m n at all =
    let more : n ≡ suc (k + m) = omega arith in
    rw more (ap (λ (rows : List (List Value)). sale_row a ∷ rows) (rows_split (a + 1) k b m (k + m) (omega arith) refl))

-- the INSERTs from k on, of which there are c
sales_from : (c k n : ℕ) → n ≤ 500 * (k + c) → flat_map (sales n) (range_with_len k c) ≡ map sale_row (range_with_len (500 * k + 1) (n - 500 * k))
sales_from zero k n covers =
    let none : n - 500 * k ≡ 0 = omega arith in
    rw none refl
sales_from (suc c) k n covers =
    ap (λ (rows : List (List Value)). sales n k ++ rows) (sales_from c (k + 1) n (omega arith))
    ∙ sym (by (min 500 (n - 500 * k)) (n - 500 * (k + 1)) (n - 500 * k) refl refl refl)
  where
    by : (here more rest : ℕ) → here ≡ min 500 (n - 500 * k) → more ≡ n - 500 * (k + 1) → rest ≡ n - 500 * k
        → map sale_row (range_with_len (500 * k + 1) rest) ≡ map sale_row (range_with_len (500 * k + 1) here) ++ map sale_row (range_with_len (500 * (k + 1) + 1) more)
    by here zero rest h m r =
        let same : rest ≡ here = omega arith in
        ap (λ (x : ℕ). map sale_row (range_with_len (500 * k + 1) x)) same ∙ sym (append-nil (map sale_row (range_with_len (500 * k + 1) here)))
    by here (suc more) rest h m r = rows_split (500 * k + 1) here (500 * (k + 1) + 1) (suc more) rest (omega arith) (omega arith)

pub sales_are_in_order : SalesAreInOrder
sales_are_in_order n =
    let all : n - 500 * 0 ≡ n = omega arith in
    sales_from (insert_count n) 0 n (omega arith) ∙ ap (λ (x : ℕ). map sale_row (range_with_len 1 x)) all
