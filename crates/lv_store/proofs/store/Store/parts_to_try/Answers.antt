use Rattle.std.proofs.Common.{◌≡◌, ◌++◌, ◌∷◌, [], List, Result, Ok, Err, map, sym, ap, ◌∙◌, subst}
use Rattle.std.specs.Prelude.{IfOk}
use Rattle.lv_values.specs.declared.value.Value.{Value}
use Rattle.lv_schema.specs.declared.cond.Cond.{Cond}
use Rattle.lv_schema.specs.declared.query.Rel.{Rel}
use Rattle.lv_schema.specs.JoinViews.{selected}
use Rattle.lv_store.specs.Querying.{rel_rows_in}
use Rattle.lv_store.proofs.Rels.{tried_one}
use Rattle.lv_store.proofs.store.Store.parts_to_try.Goals as goal

pub returns-clause-parts : goal.returns-clause-parts
returns-clause-parts g c = λ floor last take.
    let part = c.in_ok-rel_rows_to_try.field-0 in
    tried_one c.args.query.now.cond (rel_rows_in c.args.self.now c.args.session last) c.args.query.now.rels c.in-Some.rel part c.push.new.self (sym c.as_slice.ensures ∙ c.in-Some.ensures)
    (c.in_ok-push.ensures.added ∙ ap (λ l. l ++ part ∷ []) c.new-parts.ensures) (c.in_ok-rel_rows_to_try.ensures.rows floor last take)

-- parts that are the same select the same
same_selected : {E : Type 0} (cond : Cond) (r : Result (List (List (List Value))) E) (all : List (List (List Value))) → IfOk r (λ parts. parts ≡ all) → IfOk r (λ parts. selected cond parts ≡ selected cond all)
same_selected cond (Ok parts) all h = ap (selected cond) h
same_selected cond (Err e) all h = tt

pub returns-in_default-clause-parts : goal.returns-in_default-clause-parts
returns-in_default-clause-parts g c = λ floor last take.
    let read = rel_rows_in c.args.self.now c.args.session last in
    same_selected c.args.query.now.cond c.query_parts.result (map read c.args.query.now.rels)
    (subst (λ (rels : List Rel). IfOk c.query_parts.result (λ (parts : List (List (List Value))). parts ≡ map read rels)) c.as_slice-in_default.ensures (c.query_parts.ensures.parts floor last take))
