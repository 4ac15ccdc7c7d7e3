use Rattle.std.proofs.Common.{None, sym, ◌∙◌}
use Rattle.std.proofs.lemmas.List.{get_or_default}
use Rattle.lv_shelf.proofs.Shelved.{taken_in}
use Rattle.lv_shelf.proofs.slots.exchange_slot.Goals as goal

pub returns-clause-taken : goal.returns-clause-taken
returns-clause-taken g c =
    let slots = c.args.slots.now.items in
    let slot = c.args.slot in
    get_or_default slots slot None c.index_mut.result.now (taken_in slots slot c.requires) ∙ sym c.index_mut.ensures.value ∙ sym c.replace.ensures.value ∙ c.unwrap.ensures
