use Rattle.std.proofs.Common.{[], ◌∙◌, sym, ap, subst, length, get_or, arith}
use Rattle.std.specs.List.{remove}
use Rattle.lv_shelf.specs.Shelves.{IsOrder, items_at}
use Rattle.lv_shelf.proofs.Orders.{lists_set, order_left, room_set, value_set}
use Rattle.lv_shelf.proofs.ChainShelves.{other_among}
use Rattle.lv_shelf.proofs.Shelved.{remove_items}
use Rattle.lv_shelf.proofs.chain_shelf.ChainShelf.leave.Goals as goal

pub remove-requires : goal.remove-requires
remove-requires g c =
    let s = c.self.inside in
    let slots = s.slots.items in
    let others = c.args.self.now.others in
    let x = c.index_mut.result.now in
    let o = other_among slots s.others.items others c.args.order x c.self.invariant.lists (ap (λ r. r.others) c.self.view_is) c.requires.order c.index_mut.ensures.value in
    omega (arith, c.requires.place, o.long)

pub invariant_of-self : goal.invariant_of-self
invariant_of-self g c =
    let s = c.self.inside in
    let slots = s.slots.items in
    let others = c.args.self.now.others in
    let x = c.index_mut.result.now in
    let o = other_among slots s.others.items others c.args.order x c.self.invariant.lists (ap (λ r. r.others) c.self.view_is) c.requires.order c.index_mut.ensures.value in
    let y = c.remove.new.self in
    record {
      own = c.self.invariant.own;
      lists = lists_set slots s.others.items c.args.order y (subst (IsOrder slots) (sym c.remove.ensures.rest) (order_left slots x.list c.args.place o.order)) c.self.invariant.lists;
      rooms = room_set (length slots) s.others.items c.args.order x y o.read o.within (omega (arith, c.remove.ensures.room)) c.self.invariant.rooms;
      links = c.self.invariant.links;
      some = c.self.invariant.some;
      counted = c.self.invariant.counted;
      most = c.self.invariant.most;
    }

pub returns-clause-left : goal.returns-clause-left
returns-clause-left g c =
    let s = c.self.inside in
    let slots = s.slots.items in
    let others = c.args.self.now.others in
    let x = c.index_mut.result.now in
    let o = other_among slots s.others.items others c.args.order x c.self.invariant.lists (ap (λ r. r.others) c.self.view_is) c.requires.order c.index_mut.ensures.value in
    value_set slots s.others.items others c.args.order c.remove.new.self (remove (get_or others c.args.order []) c.args.place) (ap (λ r. r.others) c.self.view_is)
    (ap (items_at slots) c.remove.ensures.rest ∙ remove_items slots x.list c.args.place o.order.held ∙ ap (λ l. remove l c.args.place) o.seen)
