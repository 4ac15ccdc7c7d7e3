use Rattle.std.proofs.Common.{◌++◌, ◌∷◌, [], length-append, map, ◌∙◌, ap, sym, append_assoc, arith}
use Rattle.std.proofs.lemmas.List.{map-append}
use Rattle.lv_schema.specs.Versions.{delta_entry}
use Rattle.lv_delta.proofs.deltas.push_actions.Goals as goal

pub loop-action-preserved : goal.loop-action-preserved
loop-action-preserved c =
    let f = delta_entry c.args.number in
    let done = c.loop-action.yielded in
    let action = c.in-Some.action in
    record {
      can_next = tt;
      is_finite = tt;
      room = omega (arith, c.push_reserved.ensures.len, c.push_reserved.ensures.capacity, c.loop-action.invariant.room, c.in-Some.ensures.steps.1);
      capacity = c.push_reserved.ensures.capacity ∙ c.loop-action.invariant.capacity;
      len = omega (arith, c.push_reserved.ensures.len, c.loop-action.invariant.len, length-append done (action ∷ []));
      added = c.push_reserved.ensures.items
          ∙ ap (λ l. l ++ f action ∷ []) c.loop-action.invariant.added
          ∙ append_assoc c.args.items.now.items (map f done) (f action ∷ [])
          ∙ ap (λ l. c.args.items.now.items ++ l) (sym (map-append f done (action ∷ [])));
    }
