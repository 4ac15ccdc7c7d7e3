use Rattle.std.proofs.Common.{◌∙◌, sym, ap}
use Rattle.lv_shelf.specs.Shelves.{slot_of}
use Rattle.lv_shelf.proofs.ChainShelves.{newest_is}
use Rattle.lv_shelf.proofs.chain_shelf.ChainShelf.newest.Goals as goal

pub in_slot-requires : goal.in_slot-requires
in_slot-requires g c =
    let s = c.self.inside in
    let slots = s.slots.items in
    let slot = newest_is slots s.chains.chains c.args.self.now.chains c.args.chain c.newest_in.result c.self.invariant.own.held c.self.invariant.some (ap (λ r. r.chains) c.self.view_is) c.requires c.newest_in.ensures in
    rw c.as_slice.ensures.value slot.held

pub returns : goal.returns
returns g c =
    let s = c.self.inside in
    let slots = s.slots.items in
    let slot = newest_is slots s.chains.chains c.args.self.now.chains c.args.chain c.newest_in.result c.self.invariant.own.held c.self.invariant.some (ap (λ r. r.chains) c.self.view_is) c.requires c.newest_in.ensures in
    slot.seen ∙ sym slot.there ∙ ap (λ l. slot_of l c.newest_in.result) (sym c.as_slice.ensures.value) ∙ c.in_slot.ensures
