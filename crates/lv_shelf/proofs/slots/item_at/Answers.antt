use Rattle.std.proofs.Common.{sym, ap, ◌∙◌, subst}
use Rattle.std.proofs.lemmas.List.{get_or_read}
use Rattle.lv_shelf.specs.Shelves.{IsHeld, slot_of}
use Rattle.lv_shelf.proofs.Cutting.{all_at}
use Rattle.lv_shelf.proofs.Shelved.{get_items}
use Rattle.lv_shelf.proofs.slots.item_at.Goals as goal

pub in_slot-requires : goal.in_slot-requires
in_slot-requires g c =
    let slots = c.args.slots.now in
    let places = c.args.places.now.list in
    let read = get_or_read places c.args.at c.at.result c.requires.place c.at.ensures 0 in
    subst (IsHeld slots) (sym read) (all_at (IsHeld slots) places c.args.at 0 c.requires.place c.requires.held)

pub returns : goal.returns
returns g c =
    let slots = c.args.slots.now in
    let places = c.args.places.now.list in
    let read = get_or_read places c.args.at c.at.result c.requires.place c.at.ensures 0 in
    get_items slots places c.args.at c.requires.held c.requires.place ∙ ap (slot_of slots) (sym read) ∙ c.in_slot.ensures
