-- Signed rows added up: for each row the sums of its counts and of its signed sums, each row once and in order, none
-- whose numbers are all 0.
use Rattle.std.specs.Prelude.{ℕ, pos, List, map, filter, slice_index_or}
use Rattle.std.specs.List.{range_with_len}
use Rattle.std.specs.Int.{int_wrap, w128}
use Rattle.lv_values.specs.declared.value.Value.{Value}
use Rattle.lv_values.specs.Order.{row_eq}
use Rattle.lv_schema.specs.declared.signed.SignedRow.{SignedRow}
use Rattle.lv_schema.specs.Differences.{changes}
use Rattle.lv_schema.specs.Groups.{total}

-- the entries of one row
abbrev pub entries_of : List Value → List SignedRow → List SignedRow
entries_of row list = filter (λ s. row_eq row s.row) list

-- the entries of one row added up: counts exactly, each of its n sums modulo 2 ^ 128
abbrev pub summed : ℕ → List SignedRow → List Value → SignedRow
summed n list row = record {
  row = row;
  count = total (λ s. s.count) (entries_of row list);
  sums = map (λ j. int_wrap w128 (total (λ s. slice_index_or s.sums j (pos 0)) (entries_of row list))) (range_with_len 0 n);
}

-- the list added up, where each entry has n sums
abbrev pub netted : ℕ → List SignedRow → List SignedRow
netted n list = changes (summed n list) (map (λ s. s.row) list)
