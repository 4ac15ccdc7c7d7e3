-- The records that a run writes: what each event of the plain machine writes, beside the entry and the state that it gives.
use Rattle.std.specs.Prelude.{ℕ, Bool, List, [], ◌∷◌, Option, Some, None, Result, Ok, Err}
use Rattle.std.specs.List.{cons_option}
use Rattle.lv_schema.specs.declared.fault.Fault.{Fault}
use Rattle.lv_schema.specs.declared.rec.Rec.{Rec}
use Rattle.lv_schema.specs.Catalog.{view_named}
use Rattle.lv_schema.specs.Tasks.{pending_tasks}
use Rattle.lv_schema.specs.UpkeepCases.{outcome_of, mark_record, marking}
use Rattle.lv_schema.specs.World.{Upkeep}
use Rattle.lv_plain.specs.declared.entry.Entry.{Entry}
use Rattle.lv_plain.specs.declared.event.Event.{Event}
use Rattle.lv_plain.specs.declared.event.Event.TheVariants.{Turn as turn_of, Fetch as fetch_of, Install as install_of, Release as release_of, Mark as mark_of, Clean as clean_up}
use Rattle.lv_plain.specs.Legal.{after_entry, event_of, shows_failure}
use Rattle.lv_plain.specs.Machine.{State}
use Rattle.lv_plain.specs.Programs.{next_line}
use Rattle.lv_plain.specs.Rules.{Rules}
use Rattle.lv_plain.specs.Turns.{bound_line, read_turn}

module _ (rules : Rules) (fails : Bool) where
  -- the record that a turn writes
  abbrev pub turn_record : ℕ → State → Option Rec
  turn_record session s =
      let w = s.world in
      let line = bound_line rules.reading session (next_line rules.program s.places session) w.visible in
      (read_turn (outcome_of rules.settings fails w.upkeep) (pending_tasks w) session line w.visible).written

  -- the record that a mark writes, where it is answered with how far the view is maintained
  abbrev pub answered_record : Result (Option ℕ) Fault → ℕ → Upkeep → Option Rec
  answered_record (Ok None) v u = None
  answered_record (Ok (Some upto)) v u = Some (mark_record v u)
  answered_record (Err fault) v u = None

  abbrev pub marked_record : Option ℕ → State → Option Rec
  marked_record None s = None
  marked_record (Some v) s = answered_record (marking (outcome_of rules.settings fails s.world.upkeep) v s.world.upkeep).answer v s.world.upkeep

  -- the record that any event writes; whether the disk fails, where it is asked to keep a record, is an argument
  abbrev pub written_by : Event → State → Option Rec
  written_by (turn_of session) s = turn_record session s
  written_by (fetch_of worker) s = None
  written_by (install_of worker) s = None
  written_by (release_of worker) s = None
  written_by (mark_of name) s = marked_record (view_named s.world.visible.views name) s
  written_by clean_up s = None

module _ (rules : Rules) where
  -- the record of an entry: that of its event, where the disk fails if the entry shows it
  abbrev pub record_by : Option Event → State → Entry → Option Rec
  record_by None s e = None
  record_by (Some event) s e = written_by rules (shows_failure e) event s

  abbrev pub entry_record : State → Entry → Option Rec
  entry_record s e = record_by (event_of s e) s e

  -- the records of entries, in their order
  abbrev pub records_of : State → List Entry → List Rec
  records_of s [] = []
  records_of s (e ∷ es) = cons_option (entry_record s e) (records_of (after_entry rules s e) es)
