use Rattle.std.proofs.Common.{◌+◌, ◌<◌, ◌∙◌, ap, length, length-append, vec_capacity, arith}
use Rattle.std.specs.Prelude.{◌^◌}
use Rattle.lv_shelf.specs.Shelves.{falling}
use Rattle.lv_shelf.proofs.ChainShelves.{grown_chains, grown_view, roomier_chains}
use Rattle.lv_shelf.proofs.Orders.{others_grown}
use Rattle.lv_shelf.proofs.Shelved.{length_falling}
use Rattle.lv_shelf.proofs.chain_shelf.ChainShelf.add_slots.Goals as goal

pub invariant_of-self-in_err-make_room_beside : goal.invariant_of-self-in_err-make_room_beside
invariant_of-self-in_err-make_room_beside g c =
    let s = c.self.inside in
    let e = c.make_room_beside.ensures in
    let r = c.reserve.ensures in
    let after = c.reserve.new.self in
    rw (e.slots, e.free, r.same)
    (roomier_chains s.slots.items s.chains.chains s.free.items s.chains.room s.chains.links (vec_capacity s.free) after.room after.links (vec_capacity c.make_room_beside.new.free) s.count s.others.items c.make_room_beside.new.others.items
    r.room_kept r.links_kept e.free_kept e.others e.others_kept c.self.invariant)

pub invariant_of-self-2 : goal.invariant_of-self-2
invariant_of-self-2 g c =
    let s = c.self.inside in
    let e = c.make_room_beside.ensures in
    let ok = c.in_ok-make_room_beside.ensures in
    let r = c.reserve.ensures in
    let rok = c.in_ok-reserve.ensures in
    let after = c.reserve.new.self in
    let n = c.min-count.result in
    let most : length s.slots.items + n < 2 ^ 32 = omega (arith, c.self.inside.slots.ok.0, c.len-slots.ensures, c.in-Some.ensures, c.min-count.ensures) in
    rw (c.push_slots.ensures.slots, c.push_slots.ensures.free, e.slots, e.free, r.same)
    (grown_chains s.slots.items s.chains.chains s.free.items n s.chains.room s.chains.links (vec_capacity s.free) after.room after.links (vec_capacity c.push_slots.new.free) s.count s.others.items c.make_room_beside.new.others.items
    (omega (arith, rok.room, c.len-slots.ensures, c.self.inside.slots.ok.0)) (omega (arith, rok.links, c.len-slots.ensures, c.self.inside.slots.ok.0)) (omega (arith, ok.free_room, c.push_slots.ensures.capacity)) e.others ok.others_room most c.self.invariant)

pub returns-clause-same : goal.returns-clause-same
returns-clause-same g c =
    let s = c.self.inside in
    let e = c.make_room_beside.ensures in
    rw (c.push_slots.ensures.slots, e.slots, c.reserve.ensures.same) (grown_view s.slots.items c.min-count.result s.chains.chains ∙ ap (λ r. r.chains) c.self.view_is)

pub returns-clause-others : goal.returns-clause-others
returns-clause-others g c =
    let s = c.self.inside in
    let e = c.make_room_beside.ensures in
    rw (c.push_slots.ensures.slots, e.slots, e.others) (others_grown s.slots.items c.min-count.result _ ∙ ap (λ r. r.others) c.self.view_is)

pub returns-clause-room : goal.returns-clause-room
returns-clause-room g c =
    let s = c.self.inside in
    let n = c.min-count.result in
    let first = length c.make_room_beside.new.slots.items in
    omega (arith, ap length c.push_slots.ensures.free, length-append c.make_room_beside.new.free.items (falling first n), length_falling first n, ap length c.make_room_beside.ensures.free, ap (λ r. r.spare) c.self.view_is, c.min-count.ensures, c.if-missing-left.false)
