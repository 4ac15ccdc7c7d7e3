use Rattle.std.proofs.Common.{◌≡◌, ◌<◌, ◌∙◌, ap, length, get_or, filter, arith}
use Rattle.std.proofs.lemmas.List.{get_or_default, length-map}
use Rattle.lv_shelf.specs.Shelves.{Roomed, lists_of, passes_in}
use Rattle.lv_shelf.proofs.Orders.{done_all, length_done, lists_kept, no_list, room_set}
use Rattle.lv_shelf.proofs.order.keep_each.Goals as goal

pub loop-i-preserved : goal.loop-i-preserved
loop-i-preserved g c =
    let f = filter (passes_in (g.P.Test.passed c.args.test.now) c.args.slots.now) in
    let os = c.loop-i.orders.items in
    let start = c.args.orders.now.items in
    let j = c.loop-i.i in
    let x = c.index_mut.result.now in
    let y = c.keep_passing.new.order in
    let lt : j < length os =
    omega (arith, c.loop-i-test.true, c.len-i-end.ensures, c.args.orders.now.ok.0, ap length c.loop-i.invariant.kept, length_done f j (lists_of start), length-map os (λ (o : Roomed). o.list), length-map start (λ (o : Roomed). o.list))
    in
    let at : x ≡ get_or os j no_list = c.index_mut.ensures.value ∙ get_or_default os j x no_list lt in
    record {
      kept = lists_kept f os (lists_of start) j x y c.loop-i.invariant.kept lt at c.keep_passing.ensures.kept;
      room = λ n h. room_set n os j x y at lt (omega (arith, c.keep_passing.ensures.room)) (c.loop-i.invariant.room n h);
    }

pub returns-clause-kept : goal.returns-clause-kept
returns-clause-kept g c =
    let f = filter (passes_in (g.P.Test.passed c.args.test.now) c.args.slots.now) in
    let start = c.args.orders.now.items in
    let all : c.loop-i.i ≡ length (lists_of start) = omega (arith, c.loop-i-test.false, c.loop-i.auto.i-end, c.len-i-end.ensures, c.args.orders.now.ok.0, length-map start (λ (o : Roomed). o.list)) in
    c.loop-i.invariant.kept ∙ done_all f c.loop-i.i (lists_of start) all
