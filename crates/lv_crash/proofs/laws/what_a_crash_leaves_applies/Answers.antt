use Rattle.lv_replay.proofs.Replays.{durable_numbered}
use Rattle.lv_schema.specs.Steady.{IsSteady}
use Rattle.lv_plain.specs.declared.event.Event.{Event}
use Rattle.lv_plain.specs.Machine.{State, give}
use Rattle.std.proofs.Common.{Bool}
use Rattle.lv_crash.proofs.Applying.{left_apply, run_makes}
use Rattle.lv_crash.proofs.laws.what_a_crash_leaves_applies.Goals as goal

pub returns-clause-run : goal.returns-clause-run
returns-clause-run c = λ rules recs es binds limits apply steady stopped.
    let keeps : (fails : Bool) (event : Event) (s : State) → IsSteady s.world → IsSteady (give rules fails event s).next.world = λ fails event s is. c.runs_keep_worlds_steady.ensures.event rules fails event s binds limits is in
    let makes = run_makes rules binds limits keeps recs _ es (record { apply = apply; made = stopped; steady = steady; numbered = durable_numbered _ stopped }) in
    (makes.apply, makes.made)

pub returns-clause-crash : goal.returns-clause-crash
returns-clause-crash c = λ rules recs es binds limits apply steady stopped more stays.
    let keeps : (fails : Bool) (event : Event) (s : State) → IsSteady s.world → IsSteady (give rules fails event s).next.world = λ fails event s is. c.runs_keep_worlds_steady.ensures.event rules fails event s binds limits is in
    left_apply rules binds limits keeps recs _ es (record { apply = apply; made = stopped; steady = steady; numbered = durable_numbered _ stopped }) more stays
