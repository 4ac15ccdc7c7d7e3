-- The entries of the commits that are kept, and what is found among them.
use Rattle.std.specs.Prelude.{ℕ, ◌≤◌, ◌-◌, Bool, ◌==◌, ◌&&◌, nat_lt, nat_le, List, [], ◌∷◌, filter, map, Option, None}
use Rattle.std.specs.List.{last_or, AllByRecursion}
use Rattle.lv_values.specs.declared.value.Value.{Value}
use Rattle.lv_values.specs.Order.{row_eq}
use Rattle.lv_values.specs.Rows.{values_at}
use Rattle.lv_schema.specs.declared.action.DeltaEntry.{DeltaEntry}
use Rattle.lv_schema.specs.declared.table.TableDef.{TableDef}

-- the entries, how many more go in without memory, the number that was appended last, and the floor of the last
-- clean-up
pub record DeltasKept : Type 0 where
  pub entries : List DeltaEntry
  pub spare : ℕ
  pub last : ℕ
  pub floor : ℕ

-- the numbers of the entries do not fall
abbrev pub AreRising : List DeltaEntry → Type 0
AreRising [] = Unit {0}
AreRising (e ∷ entries) = AllByRecursion (λ (later : DeltaEntry). e.number ≤ later.number) entries × AreRising entries

-- entries in their order, none above the number that was appended last
pub record AreInOrder (last : ℕ) (entries : List DeltaEntry) : Type 0 where
  pub rising : AreRising entries
  pub up_to : AllByRecursion (λ (e : DeltaEntry). e.number ≤ last) entries

-- those that lie behind are fewer than those that are kept, or none, of so many in all
abbrev pub AreFewBehind : ℕ → ℕ → Type 0
AreFewBehind behind all = behind ≤ all - behind - 1

-- an entry above a number, one up to a number, and one above a number and up to another
abbrev pub is_above : ℕ → DeltaEntry → Bool
is_above n e = nat_lt n e.number

abbrev pub is_up_to : ℕ → DeltaEntry → Bool
is_up_to n e = nat_le e.number n

abbrev pub is_between : ℕ → ℕ → DeltaEntry → Bool
is_between lo hi e = nat_lt lo e.number && nat_le e.number hi

-- one of them on a table
abbrev pub in_range : ℕ → ℕ → ℕ → DeltaEntry → Bool
in_range table lo hi e = is_between lo hi e && (table == e.action.table)

-- an entry that writes a key of a table
abbrev pub writes_key : TableDef → List Value → DeltaEntry → Bool
writes_key def key e = (def.no == e.action.table) && row_eq key (values_at def.key e.action.row)

-- the greatest number above a state at which a key is written
abbrev pub writer_after : TableDef → ℕ → List Value → List DeltaEntry → Option ℕ
writer_after def s key entries = last_or None (map (λ (e : DeltaEntry). e.number) (filter (λ e. is_above s e && writes_key def key e) entries))
