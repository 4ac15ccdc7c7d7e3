use Rattle.std.proofs.Common.{◌≡◌, ◌<◌, ◌∙◌, ap, length, get_or, arith}
use Rattle.std.proofs.lemmas.List.{get_or_default, length-map}
use Rattle.lv_shelf.specs.Shelves.{Roomed}
use Rattle.lv_shelf.proofs.Orders.{lists_same, no_list, room_more, room_set}
use Rattle.lv_shelf.proofs.order.reserve_each.Goals as goal

pub loop-i-preserved : goal.loop-i-preserved
loop-i-preserved c =
    let os = c.loop-i.orders.items in
    let start = c.args.orders.now.items in
    let j = c.loop-i.i in
    let x = c.index_mut.result.now in
    let y = c.reserve.new.self in
    let lt : j < length os =
    omega (arith, c.loop-i-test.true, c.len-i-end.ensures, c.args.orders.now.ok.0, ap length c.loop-i.invariant.same, length-map os (λ (o : Roomed). o.list), length-map start (λ (o : Roomed). o.list))
    in
    let at : x ≡ get_or os j no_list = c.index_mut.ensures.value ∙ get_or_default os j x no_list lt in
    record {
      same = lists_same os j x y at c.reserve.ensures.same ∙ c.loop-i.invariant.same;
      room = room_more c.args.room os j y lt c.in_ok-reserve.ensures.room c.loop-i.invariant.room;
      kept = λ n h. room_set n os j x y at lt c.reserve.ensures.kept (c.loop-i.invariant.kept n h);
    }

pub returns-in_err-reserve-clause-same : goal.returns-in_err-reserve-clause-same
returns-in_err-reserve-clause-same c =
    let os = c.loop-i.orders.items in
    let start = c.args.orders.now.items in
    let j = c.loop-i.i in
    let x = c.index_mut.result.now in
    let y = c.reserve.new.self in
    let lt : j < length os =
    omega (arith, c.loop-i-test.true, c.len-i-end.ensures, c.args.orders.now.ok.0, ap length c.loop-i.invariant.same, length-map os (λ (o : Roomed). o.list), length-map start (λ (o : Roomed). o.list))
    in
    let at : x ≡ get_or os j no_list = c.index_mut.ensures.value ∙ get_or_default os j x no_list lt in
    lists_same os j x y at c.reserve.ensures.same ∙ c.loop-i.invariant.same

pub returns-in_err-reserve-clause-kept : goal.returns-in_err-reserve-clause-kept
returns-in_err-reserve-clause-kept c = λ n h.
    let os = c.loop-i.orders.items in
    let start = c.args.orders.now.items in
    let j = c.loop-i.i in
    let x = c.index_mut.result.now in
    let y = c.reserve.new.self in
    let lt : j < length os =
    omega (arith, c.loop-i-test.true, c.len-i-end.ensures, c.args.orders.now.ok.0, ap length c.loop-i.invariant.same, length-map os (λ (o : Roomed). o.list), length-map start (λ (o : Roomed). o.list))
    in
    let at : x ≡ get_or os j no_list = c.index_mut.ensures.value ∙ get_or_default os j x no_list lt in
    room_set n os j x y at lt c.reserve.ensures.kept (c.loop-i.invariant.kept n h)
