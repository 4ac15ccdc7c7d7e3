use Rattle.std.proofs.Common.{◌≡◌, ℕ, List, true, false, sym, subst, ap, ◌∙◌}
use Rattle.std.specs.Prelude.{slice_get}
use Rattle.std.specs.List.Sorted.{IsPartitionPoint}
use Rattle.lv_values.specs.Rows.{values_at}
use Rattle.lv_schema.specs.Commits.{Place}
use Rattle.lv_txn.specs.Written.{is_before, is_there, or_writer, IsFirst}
use Rattle.lv_txn.proofs.FirstWritten.{not_there, there}
use Rattle.lv_txn.proofs.conflicts.after.Goals as goal

pub returns-then-is_there : goal.returns-then-is_there
returns-then-is_there c = λ writer first.
    let t = c.args.entry.now.action.table in
    let row = c.args.entry.now.action.row in
    let places = c.args.places.now in
    let at = c.cut-at.result in
    let cut = subst (λ (k : List ℕ). IsPartitionPoint (λ (q : Place). is_before (t, values_at k row) q ≡ true) (λ (q : Place). is_before (t, values_at k row) q ≡ false) places at) c.key-key.ensures c.cut-at.ensures.cut in
    let present = ap (λ (k : List ℕ). is_there (t, values_at k row) (slice_get places at)) (sym c.key-key.ensures) ∙ sym c.is_there.ensures ∙ c.if-is_there.true in
    subst (IsFirst places (or_writer c.args.schema.now.tables c.args.entry.now writer)) (sym c.sooner.ensures)
    (there c.args.schema.now.tables c.args.entry.now places at c.requires cut writer c.args.found present first)

pub returns-else-is_there : goal.returns-else-is_there
returns-else-is_there c = λ writer first.
    let t = c.args.entry.now.action.table in
    let row = c.args.entry.now.action.row in
    let places = c.args.places.now in
    let at = c.cut-at.result in
    let cut = subst (λ (k : List ℕ). IsPartitionPoint (λ (q : Place). is_before (t, values_at k row) q ≡ true) (λ (q : Place). is_before (t, values_at k row) q ≡ false) places at) c.key-key.ensures c.cut-at.ensures.cut in
    let absent = ap (λ (k : List ℕ). is_there (t, values_at k row) (slice_get places at)) (sym c.key-key.ensures) ∙ sym c.is_there.ensures ∙ c.if-is_there.false in
    not_there c.args.schema.now.tables c.args.entry.now places at c.requires cut writer c.args.found absent first
