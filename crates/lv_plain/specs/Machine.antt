-- The plain machine: what each event gives, its entry and the state after it.
use Rattle.std.specs.Prelude.{ℕ, ◌+◌, Bool, List, [], slice_index, slice_set, Option, Some, None, Result, Ok, Err}
use Rattle.lv_schema.specs.declared.bound.Bound.{Bound}
use Rattle.lv_schema.specs.declared.bound.Bound.TheVariants as bound
use Rattle.lv_schema.specs.declared.fault.Fault.{Fault}
use Rattle.lv_schema.specs.declared.forced.Forced.{Forced}
use Rattle.lv_schema.specs.Catalog.{view_named}
use Rattle.lv_schema.specs.Tasks.{pending_tasks}
use Rattle.lv_schema.specs.UpkeepCases.{outcome_of, with_record, with_steps, forced_by, Fetched, Installed, busy, idle, fetched, empty, installed, moved, fetching, installing, released, marking, cleaning}
use Rattle.lv_schema.specs.World.{Upkeep, World, Settings}
use Rattle.lv_plain.specs.declared.entry.Entry.{Entry}
use Rattle.lv_plain.specs.declared.entry.Entry.TheVariants as entry
use Rattle.lv_plain.specs.declared.entry.MarkOutcome.{MarkOutcome}
use Rattle.lv_plain.specs.declared.entry.MarkOutcome.TheVariants.{Upto, Already, Refused}
use Rattle.lv_plain.specs.declared.event.Event.{Event}
use Rattle.lv_plain.specs.declared.event.Event.TheVariants.{Turn as turn_of, Fetch as fetch_of, Install as install_of, Release as release_of, Mark as mark_of, Clean as clean_up}
use Rattle.lv_plain.specs.Programs.{Places, next_line}
use Rattle.lv_plain.specs.Rules.{Rules}
use Rattle.lv_plain.specs.Turns.{bound_line, read_turn}

-- the world, and how many statements of each session are answered
pub record State : Type 0 where
  pub world : World
  pub places : Places

-- what an event gives
pub record Given : Type 0 where
  pub entry : Entry
  pub next : State

abbrev pub with_upkeep : State → Upkeep → State
with_upkeep s u = record s { world = record s.world { upkeep = u } }

-- the steps that a statement forces: those of a query, and of no other
abbrev pub steps_of : Settings → ℕ → Result Bound Fault → World → List Forced
steps_of settings session (Err fault) w = []
steps_of settings session (Ok (bound.Table def)) w = []
steps_of settings session (Ok (bound.View def)) w = []
steps_of settings session (Ok (bound.Change change)) w = []
steps_of settings session (Ok (bound.Query query)) w = forced_by settings session query w
steps_of settings session (Ok (bound.Begin)) w = []
steps_of settings session (Ok (bound.Commit)) w = []
steps_of settings session (Ok (bound.Rollback)) w = []
steps_of settings session (Ok (bound.Tasks)) w = []

module _ (rules : Rules) (fails : Bool) where
  -- a turn: the session's next statement is answered
  abbrev pub turn_given : ℕ → State → Given
  turn_given session s =
      let w = s.world in
      let place = slice_index s.places session in
      let line = bound_line rules.reading session (next_line rules.program s.places session) w.visible in
      let steps = steps_of rules.settings session line w in
      let turn = read_turn (outcome_of rules.settings fails w.upkeep) (pending_tasks w) session line w.visible in
      record {
        entry = entry.Session session (place + 1) steps turn.reply;
        next = record {
          world = record { visible = turn.next; upkeep = with_record turn.written (with_steps steps w.upkeep) };
          places = slice_set s.places session (place + 1);
        };
      }

  -- a fetch
  abbrev pub fetch_entry : ℕ → Fetched → Entry
  fetch_entry worker busy = entry.Busy worker
  fetch_entry worker idle = entry.Idle worker
  fetch_entry worker (fetched f) = entry.Fetched worker f.view f.lo f.hi

  abbrev pub fetch_given : ℕ → State → Given
  fetch_given worker s = let done = fetching rules.settings worker s.world in record { entry = fetch_entry worker done.0; next = with_upkeep s done.1 }

  -- an install
  abbrev pub install_entry : ℕ → Installed → Entry
  install_entry worker empty = entry.Empty worker
  install_entry worker (installed f) = entry.Installed worker f.view f.lo f.hi
  install_entry worker (moved f point) = entry.Moved worker f.view f.lo f.hi point

  abbrev pub install_given : ℕ → State → Given
  install_given worker s = let done = installing worker s.world.upkeep in record { entry = install_entry worker done.0; next = with_upkeep s done.1 }

  -- a mark of the view with this name, if there is one
  abbrev pub mark_outcome : Result (Option ℕ) Fault → MarkOutcome
  mark_outcome (Ok None) = Already
  mark_outcome (Ok (Some upto)) = Upto upto
  mark_outcome (Err fault) = Refused fault

  abbrev pub mark_by : Option ℕ → List ℕ → State → Given
  mark_by None name s = record { entry = entry.MarkUnknown name; next = s }
  mark_by (Some v) name s =
      let done = marking (outcome_of rules.settings fails s.world.upkeep) v s.world.upkeep in
      record { entry = entry.Marked v (mark_outcome done.answer); next = with_upkeep s done.next }

  -- a clean-up
  abbrev pub clean_given : State → Given
  clean_given s = let done = cleaning s.world in record { entry = entry.Cleaned done.0.floor done.0.versions done.0.deltas; next = with_upkeep s done.1 }

  -- any event; whether the disk fails, where it is asked to keep a record, is an argument
  abbrev pub give : Event → State → Given
  give (turn_of session) s = turn_given session s
  give (fetch_of worker) s = fetch_given worker s
  give (install_of worker) s = install_given worker s
  give (release_of worker) s = record { entry = entry.Released worker; next = with_upkeep s (released worker s.world.upkeep) }
  give (mark_of name) s = mark_by (view_named s.world.visible.views name) name s
  give clean_up s = clean_given s
