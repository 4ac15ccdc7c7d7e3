use Rattle.std.proofs.Common.{◌≡◌, Option, Some, None, get_or, set, sym, ap, ◌∙◌}
use Rattle.std.proofs.lemmas.List.{get_or_default, set-set}
use Rattle.lv_shelf.proofs.Shelved.{taken_in}
use Rattle.lv_shelf.proofs.slots.edit_slot.Goals as goal

same_some : {T : Type 0} (x y : T) (o : Option T) → o ≡ Some x → o ≡ Some y → x ≡ y
same_some x y o e f = cc

pub returns : goal.returns
returns g c =
    let slots = c.args.slots.now.items in
    let slot = c.args.slot in
    let within = taken_in slots slot c.requires in
    record {
      edited = λ item e.
          let read : get_or slots slot None ≡ c.take.result = get_or_default slots slot None c.index_mut.result.now within ∙ sym c.index_mut.ensures.value ∙ sym c.take.ensures.value in
          let is : c.unwrap-item.result ≡ item = same_some c.unwrap-item.result item (get_or slots slot None) (read ∙ c.unwrap-item.ensures) e in
          set-set slots slot c.take.new.self (Some c.edit.new.item) ∙ ap (λ x. set slots slot (Some x)) (c.edit.ensures ∙ ap (g.E.Edit.edited c.args.edit.now) is);
    }
