-- Tuples to be grouped, each with the columns that tell groups apart.
use Rattle.std.specs.Prelude.{pos, List, map, filter, length}
use Rattle.std.specs.Int.{int_wrap, w128}
use Rattle.std.specs.Ordering.{on}
use Rattle.std.specs.declared.cmp.Ordering.{Ordering}
use Rattle.std.specs.Cmp.{IsTotalOrder}
use Rattle.std.proofs.lemmas.Cmp.{on_total}
use Rattle.lv_values.specs.declared.value.Value.{Value}
use Rattle.lv_values.specs.Order.{row_cmp, row_eq}
use Rattle.lv_values.specs.OrderLaws.{row_total}
use Rattle.lv_schema.specs.declared.cond.Col.{Col}
use Rattle.lv_schema.specs.declared.signed.SignedRow.{SignedRow}
use Rattle.lv_schema.specs.Groups.{total, number_at}
use Rattle.lv_schema.specs.Once.{once}
use Rattle.lv_schema.specs.Tuples.{Tuple, listed}

abbrev pub AnEntry : Type 0
AnEntry = List Col × Tuple

-- the group of an entry
abbrev pub group_of : AnEntry → List Value
group_of entry = listed entry.0 entry.1

-- entries by their groups
abbrev pub entry_cmp : AnEntry → AnEntry → Ordering
entry_cmp = on group_of row_cmp

pub entry_total : IsTotalOrder entry_cmp
entry_total = on_total group_of row_total

-- the numbers of a group that has these entries
abbrev pub numbers_of : List Col → List Value → List AnEntry → SignedRow
numbers_of sums group entries = record {
  row = group;
  count = pos (length entries);
  sums = map (λ col. int_wrap w128 (total (λ entry. number_at col entry.1) entries)) sums;
}

-- the entries of one group
abbrev pub entries_of : List Value → List AnEntry → List AnEntry
entries_of group entries = filter (λ entry. row_eq group (group_of entry)) entries

-- the groups of these entries with their numbers, each once, in ascending order
abbrev pub gathered : List Col → List AnEntry → List SignedRow
gathered sums entries = map (λ group. numbers_of sums group (entries_of group entries)) (once row_cmp (map group_of entries))
