use Rattle.std.proofs.Common.{◌≡◌, List, true, sym, subst}
use Rattle.std.specs.Prelude.{IfOk}
use Rattle.lv_values.specs.declared.value.Value.{Value}
use Rattle.lv_schema.specs.declared.query.Rel.{Rel}
use Rattle.lv_schema.specs.Effects.{matching}
use Rattle.lv_store.specs.Querying.{reads_kept, rel_rows_in}
use Rattle.lv_store.proofs.FirstValues.{not_so}
use Rattle.lv_store.proofs.store.Store.rel_rows_to_try.Goals as goal

pub view_rows-requires-clause-low : goal.view_rows-requires-clause-low
view_rows-requires-clause-low g c kept e = c.in_ok-range-in-View.ensures.low kept e

pub view_rows-requires-clause-high : goal.view_rows-requires-clause-high
view_rows-requires-clause-high g c kept e = c.in_ok-range-in-View.ensures.high kept e

pub returns-in_ok-range-in-View-clause-rows : goal.returns-in_ok-range-in-View-clause-rows
returns-in_ok-range-in-View-clause-rows g c = λ floor last take.
    subst (λ (rel : Rel). IfOk c.view_rows.result (λ (tried : List (List Value)). matching c.args.cond.now tried ≡ matching c.args.cond.now (rel_rows_in c.args.self.now c.args.session last rel)))
    (sym c.in-View.is) (c.view_rows.ensures.rows floor last take)

pub returns-in_ok-range-in-View-clause-cost : goal.returns-in_ok-range-in-View-clause-cost
returns-in_ok-range-in-View-clause-cost g c e = c.view_rows.ensures.cost (not_so _ (subst (λ rel. reads_kept c.args.self.now c.args.session rel ≡ true) c.in-View.is e))
