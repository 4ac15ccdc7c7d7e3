-- What calls on signed rows ask of them and give.
use Rattle.std.specs.Prelude.{◌≡◌, ℕ, neg_ℤ, List, [], ◌∷◌, map, length, FitsSigned}
use Rattle.std.specs.List.{AllByRecursion}
use Rattle.std.specs.Int.{int_wrap, w128}
use Rattle.lv_values.specs.declared.value.Value.{Value}
use Rattle.lv_schema.specs.declared.signed.SignedRow.{SignedRow}
use Rattle.lv_schema.specs.Groups.{total}
use Rattle.lv_schema.specs.SignedRows.{entries_of}

-- an entry with its count turned round, and each of its sums, modulo 2 ^ 128
abbrev pub negated : SignedRow → SignedRow
negated s = record { row = s.row; count = neg_ℤ s.count; sums = map (λ n. int_wrap w128 (neg_ℤ n)) s.sums }

-- the same, its count modulo 2 ^ 128 too
abbrev pub turned : SignedRow → SignedRow
turned s = record { row = s.row; count = int_wrap w128 (neg_ℤ s.count); sums = map (λ n. int_wrap w128 (neg_ℤ n)) s.sums }

-- each count turned round is a number of 128 bits
abbrev pub CanBeNegated : List SignedRow → Type 0
CanBeNegated list = AllByRecursion (λ s. FitsSigned w128 (neg_ℤ s.count)) list

-- how many sums each entry has, where all have equally many
abbrev pub width : List SignedRow → ℕ
width [] = 0
width (s ∷ list) = length s.sums

abbrev pub HaveSums : ℕ → List SignedRow → Type 0
HaveSums n list = AllByRecursion (λ s. length s.sums ≡ n) list

-- for each row the sum of its counts is a number of 128 bits
abbrev pub CountsFit : List SignedRow → Type 0
CountsFit list = (row : List Value) → FitsSigned w128 (total (λ s. s.count) (entries_of row list))
