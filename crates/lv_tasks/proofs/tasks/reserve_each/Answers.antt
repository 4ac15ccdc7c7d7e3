use Rattle.std.proofs.Common.{◌<◌, ◌∙◌, length, arith}
use Rattle.std.proofs.Math.Seq.{map-set_same}
use Rattle.std.proofs.lemmas.List.{length-set}
use Rattle.lv_values.specs.Room.{Roomy}
use Rattle.lv_tasks.specs.declared.task.Task.{Task}
use Rattle.lv_tasks.proofs.Lists.{room_kept, room_more}
use Rattle.lv_tasks.proofs.tasks.reserve_each.Goals as goal

pub returns-in_err-reserve-clause-same : goal.returns-in_err-reserve-clause-same
returns-in_err-reserve-clause-same c = map-set_same (λ (q : Roomy Task). q.list) c.loop-at.queues c.loop-at.at c.reserve.new.self c.index-queues-at.result c.reserve.ensures.same ∙ c.loop-at.invariant.same

pub returns-in_err-reserve-clause-kept : goal.returns-in_err-reserve-clause-kept
returns-in_err-reserve-clause-kept c = λ n room.
    let there : c.loop-at.at < length c.loop-at.queues = omega (arith, c.loop-at.invariant.long, c.loop-at-test.true) in
    room_kept n c.loop-at.queues c.loop-at.at c.reserve.new.self c.index-queues-at.result there c.reserve.ensures.kept (c.loop-at.invariant.kept n room)

pub loop-at-preserved : goal.loop-at-preserved
loop-at-preserved c =
    let there : c.loop-at.at < length c.loop-at.queues = omega (arith, c.loop-at.invariant.long, c.loop-at-test.true) in
    record {
      same = map-set_same (λ (q : Roomy Task). q.list) c.loop-at.queues c.loop-at.at c.reserve.new.self c.index-queues-at.result c.reserve.ensures.same ∙ c.loop-at.invariant.same;
      long = length-set c.loop-at.queues c.loop-at.at c.reserve.new.self ∙ c.loop-at.invariant.long;
      room = room_more c.args.more c.loop-at.queues c.loop-at.at c.reserve.new.self there c.in_ok-reserve.ensures.room c.loop-at.invariant.room;
      kept = λ n room. room_kept n c.loop-at.queues c.loop-at.at c.reserve.new.self c.index-queues-at.result there c.reserve.ensures.kept (c.loop-at.invariant.kept n room);
    }
