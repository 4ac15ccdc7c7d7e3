use Rattle.lv_replay.proofs.Replays.{durable_steady, durable_numbered, replayed_steady, replayed_stopped, state_steady}
use Rattle.lv_replay.proofs.laws.records_make_steady_worlds.Goals as goal

pub returns-clause-stop : goal.returns-clause-stop
returns-clause-stop c = durable_steady

pub returns-clause-next : goal.returns-clause-next
returns-clause-next c = λ r w steady stopped kept h. (replayed_steady r w steady stopped kept h, replayed_stopped r w stopped)

pub returns-clause-all : goal.returns-clause-all
returns-clause-all c = state_steady

pub returns-clause-numbered : goal.returns-clause-numbered
returns-clause-numbered c = durable_numbered
