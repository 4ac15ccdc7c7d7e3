use Rattle.std.proofs.Common.{◌≡◌, List, true, sym, subst}
use Rattle.std.specs.Prelude.{IfOk}
use Rattle.lv_values.specs.declared.value.Value.{Value}
use Rattle.lv_schema.specs.declared.query.Rel.{Rel}
use Rattle.lv_store.specs.Querying.{has_written, reads_kept, rel_rows_in}
use Rattle.lv_store.proofs.TriedRows.{each_passes, not_written}
use Rattle.lv_store.proofs.store.Store.rel_rows.Goals as goal

pub returns-in-View-clause-rows : goal.returns-in-View-clause-rows
returns-in-View-clause-rows g c = λ floor last take.
    let p = c.args.self.now in
    let session = c.args.session in
    subst (λ (rel : Rel). IfOk c.view_rows.result (λ (rows : List (List Value)). rows ≡ rel_rows_in p session last rel)) (sym c.in-View.is)
    (each_passes p session c.in-View.view last (λ _. true) c.view_rows.result (c.view_rows.ensures.rows floor last take))

pub returns-in-View-clause-cost : goal.returns-in-View-clause-cost
returns-in-View-clause-cost g c = λ kept.
    c.view_rows.ensures.cost (not_written (has_written c.args.self.now c.args.session c.in-View.view) (subst (λ (rel : Rel). reads_kept c.args.self.now c.args.session rel ≡ true) c.in-View.is kept))
