-- Signed rows added up, one entry after another, without a word on those whose numbers are all 0.
use Rattle.std.specs.Prelude.{◌≡◌, ℕ, zero, suc, ℤ, pos, ◌+ℤ◌, Bool, true, false, Option, Some, None, List, [], ◌∷◌, map, length, slice_index_or}
use Rattle.std.specs.List.{range_with_len, AllByRecursion}
use Rattle.std.specs.Int.{int_wrap, w128}
use Rattle.std.specs.FinMap.Entries.{by_order}
use Rattle.std.specs.Ordering.{is_gt}
use Rattle.lv_values.specs.declared.value.Value.{Value}
use Rattle.lv_values.specs.Order.{row_cmp, row_eq}
use Rattle.lv_schema.specs.declared.signed.SignedRow.{SignedRow}
use Rattle.lv_schema.specs.Groups.{total}
use Rattle.lv_schema.specs.Once.{Ascends, once}
use Rattle.lv_schema.specs.SignedRows.{entries_of}

-- sums added place by place, modulo 2 ^ 128
abbrev pub sums_added : List ℤ → List ℤ → List ℤ
sums_added [] ys = ys
sums_added (x ∷ xs) [] = x ∷ xs
sums_added (x ∷ xs) (y ∷ ys) = int_wrap w128 (x +ℤ y) ∷ sums_added xs ys

-- two entries of one row as one
abbrev pub both_of : SignedRow → SignedRow → SignedRow
both_of s r = record { row = s.row; count = int_wrap w128 (s.count +ℤ r.count); sums = sums_added s.sums r.sums }

-- an entry in its place among entries that ascend: on that of its row, where there is one
abbrev pub put : SignedRow → List SignedRow → List SignedRow
put s [] = s ∷ []
put s (r ∷ rs) = by_order (row_cmp s.row r.row) (s ∷ r ∷ rs) (both_of s r ∷ rs) (r ∷ put s rs)

-- entries of one row added up, each number modulo 2 ^ 128
abbrev pub wrapped : ℕ → List Value → List SignedRow → SignedRow
wrapped n row entries = record {
  row = row;
  count = int_wrap w128 (total (λ s. s.count) entries);
  sums = map (λ j. int_wrap w128 (total (λ s. slice_index_or s.sums j (pos 0)) entries)) (range_with_len 0 n);
}

-- each row once, in ascending order, with its entries added up
abbrev pub tallied : ℕ → List SignedRow → List SignedRow
tallied n list = map (λ row. wrapped n row (entries_of row list)) (once row_cmp (map (λ s. s.row) list))

-- an entry with n sums, whose numbers are of 128 bits
pub record IsEntry (n : ℕ) (s : SignedRow) : Type 0 where
  pub wide : length s.sums ≡ n
  pub count : int_wrap w128 s.count ≡ s.count
  pub sums : AllByRecursion (λ x. int_wrap w128 x ≡ x) s.sums

-- entries whose rows ascend
abbrev pub Rising : List SignedRow → Type 0
Rising list = Ascends (λ (a b : SignedRow). row_cmp a.row b.row) list

-- no entry has a row above this one
abbrev pub AtMost : List Value → List SignedRow → Type 0
AtMost row list = AllByRecursion (λ r. is_gt (row_cmp r.row row) ≡ false) list

-- so many entries have rows below this one, and no later one has
abbrev pub IsPlace : List Value → ℕ → List SignedRow → Type 0
IsPlace row zero list = AllByRecursion (λ r. is_gt (row_cmp row r.row) ≡ false) list
IsPlace row (suc n) [] = ⊥
IsPlace row (suc n) (r ∷ list) = (is_gt (row_cmp row r.row) ≡ true) × IsPlace row n list

-- whether an entry, if there is one, is of this row
abbrev pub is_of : List Value → Option SignedRow → Bool
is_of row None = false
is_of row (Some r) = row_eq row r.row
