use Rattle.lv_store.specs.Querying.{OnlyRoom}
use Rattle.lv_store.proofs.PendingRows.{RoomBelow}
use Rattle.lv_store.proofs.pending.reserve_each.Given as goal

abbrev pub invariant-loop-view : goal.invariant-loop-view
invariant-loop-view l = record {
  same : OnlyRoom l.initial.views l.views;
  room : RoomBelow l.view l.pending l.views;
}
