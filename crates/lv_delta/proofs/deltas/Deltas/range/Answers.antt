use Rattle.std.proofs.Common.{◌≡◌, ◌∙◌, ap, filter, List, subst}
use Rattle.std.specs.Prelude.{◌==◌, IfOk}
use Rattle.lv_schema.specs.declared.action.DeltaEntry.{DeltaEntry}
use Rattle.lv_delta.proofs.Searched.{range_is}
use Rattle.lv_delta.proofs.deltas.Deltas.range.Goals as goal

pub returns : goal.returns
returns c =
    subst (λ (l : List DeltaEntry). IfOk c.copy_of_table.result (λ entries. entries ≡ l))
    (ap (filter (λ (e : DeltaEntry). c.args.table == e.action.table)) c.between.ensures ∙ range_is c.args.table c.args.lo c.args.hi c.args.self.now.entries)
    c.copy_of_table.ensures
