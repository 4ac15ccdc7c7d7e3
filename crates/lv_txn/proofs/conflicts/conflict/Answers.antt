use Rattle.std.proofs.Common.{ℕ, List, map, Some, sym, ap₂, subst, ◌∙◌}
use Rattle.lv_values.specs.declared.value.Value.{Value}
use Rattle.lv_schema.specs.declared.fault.Fault.TheVariants.{Conflict}
use Rattle.lv_schema.specs.Commits.{Place, written_place}
use Rattle.lv_txn.specs.Written.{writer_among, AreInOrder, IsFirst}
use Rattle.lv_txn.proofs.FirstWritten.{conflict_empty, conflict_none, conflict_some}
use Rattle.lv_txn.proofs.PlaceSearch.{ascending_in_order}
use Rattle.lv_txn.proofs.conflicts.conflict.Goals as goal

pub returns-then-is_empty : goal.returns-then-is_empty
returns-then-is_empty c = conflict_empty c.args.schema.now.tables c.args.entries.now c.args.actions.now (sym c.is_empty.ensures ∙ c.if-is_empty.true)

pub first_found-requires : goal.first_found-requires
first_found-requires c = subst AreInOrder (sym (c.as_slice.ensures ∙ c.in_ok-places.ensures)) (ascending_in_order (map (written_place c.args.schema.now.tables) c.args.actions.now))

pub returns-in-None : goal.returns-in-None
returns-in-None c =
    let tables = c.args.schema.now.tables in
    conflict_none tables (writer_among tables c.args.entries.now) c.args.actions.now c.as_slice.result.now (c.as_slice.ensures ∙ c.in_ok-places.ensures) c.in-None.ensures

pub returns : goal.returns
returns c =
    let tables = c.args.schema.now.tables in
    let writer = writer_among tables c.args.entries.now in
    let f = c.in-Some.found in
    ap₂ (λ (t : ℕ) (k : List Value). Some (Conflict t k f.number)) c.table.ensures (c.in_ok-copy-in-Some.ensures ∙ c.key.ensures)
    ∙ conflict_some tables writer c.args.actions.now c.in_ok-places.places f c.get-place.result.now c.in_ok-places.ensures
    (subst (λ (ps : List Place). IsFirst ps writer (Some f)) c.as_slice.ensures c.in-Some.ensures) c.get-place.ensures
