-- The writes that actions make, and the later writers of the places that are written.
use Rattle.std.specs.Prelude.{◌≡◌, ℕ, ◌<◌, Bool, false, nat_lt, cond, List, [], ◌∷◌, filter, map, length, slice_index_or, Option, Some, None}
use Rattle.std.specs.List.{AllByRecursion, last_or}
use Rattle.std.specs.Ordering.{is_eq, is_gt, is_lt}
use Rattle.lv_values.specs.declared.value.Value.{Value}
use Rattle.lv_values.specs.Rows.{values_at}
use Rattle.lv_schema.specs.declared.action.Action.{Action}
use Rattle.lv_schema.specs.declared.action.DeltaEntry.{DeltaEntry}
use Rattle.lv_schema.specs.declared.conflict.Conflict.{Conflict}
use Rattle.lv_schema.specs.declared.fault.Fault.{Fault}
use Rattle.lv_schema.specs.declared.fault.Fault.TheVariants as fault
use Rattle.lv_schema.specs.declared.table.TableDef.{TableDef}
use Rattle.lv_schema.specs.Commits.{Place, place_cmp, same_place, written_place}
use Rattle.lv_schema.specs.Keys.{left_by}
use Rattle.lv_schema.specs.World.{table_at}
use Rattle.lv_overlay.specs.declared.put.Put.{Put}
use Rattle.lv_txn.specs.declared.conflicts.Found.{Found}

-- the write of an action
abbrev pub put_of : List TableDef → Action → Put
put_of tables a = record { table = a.table; key = values_at (table_at tables a.table).key a.row; row = left_by a.kind a.row }

-- whether the next write, if there is one, is of the same place
abbrev pub is_overwritten : Put → List Put → Bool
is_overwritten q [] = false
is_overwritten q (r ∷ puts) = same_place (q.table, q.key) (r.table, r.key)

-- the writes without those that the next one overwrites
abbrev pub kept_puts : List Put → List Put
kept_puts [] = []
kept_puts (q ∷ puts) = cond (is_overwritten q puts) (kept_puts puts) (q ∷ kept_puts puts)

-- what writes in their order leave at a place, over what was there
abbrev pub left_at : List Put → Place → Option (Option (List Value)) → Option (Option (List Value))
left_at [] p row = row
left_at (q ∷ puts) p row = left_at puts p (cond (same_place p (q.table, q.key)) (Some q.row) row)

-- the last of some entries that writes a place
abbrev pub writer_among : List TableDef → List DeltaEntry → Place → Option ℕ
writer_among tables entries p = last_or None (map (λ (e : DeltaEntry). e.number) (filter (λ (e : DeltaEntry). same_place p (written_place tables e.action)) entries))

-- the same with one entry more
abbrev pub or_writer : List TableDef → DeltaEntry → (Place → Option ℕ) → Place → Option ℕ
or_writer tables e writer p = cond (same_place p (written_place tables e.action)) (Some e.number) (writer p)

-- no place is above a later one
abbrev pub AreInOrder : List Place → Type 0
AreInOrder [] = Unit {0}
AreInOrder (p ∷ places) = AllByRecursion (λ q. is_gt (place_cmp p q) ≡ false) places × AreInOrder places

abbrev pub is_before : Place → Place → Bool
is_before p q = is_lt (place_cmp q p)

-- whether a place, if there is one, is the other one
abbrev pub is_there : Place → Option Place → Bool
is_there p None = false
is_there p (Some q) = is_eq (place_cmp q p)

-- a place and its writer, unless one before it was found
abbrev pub sooner : ℕ → ℕ → Option Found → Option Found
sooner at number None = Some (record { at = at; number = number })
sooner at number (Some f) = cond (nat_lt f.at at) (Some f) (Some (record { at = at; number = number }))

-- the first of the places that has a writer, and that writer
abbrev pub IsFirst : List Place → (Place → Option ℕ) → Option Found → Type 0
IsFirst places writer None = AllByRecursion (λ p. writer p ≡ None) places
IsFirst places writer (Some f) =
    (f.at < length places)
    × ((k : ℕ) (d : Place) → k < f.at → writer (slice_index_or places k d) ≡ None)
    × ((d : Place) → writer (slice_index_or places f.at d) ≡ Some f.number)

-- the fault that a conflict is
abbrev pub conflict_fault : Conflict → Fault
conflict_fault c = fault.Conflict c.table c.key c.commit
