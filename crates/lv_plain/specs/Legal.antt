-- Which lists of entries a program may give: each entry is that of its own event, with the outcome that it shows.
use Rattle.std.specs.Prelude.{◌≡◌, ℕ, ◌≤◌, ◌<◌, Bool, true, false, List, [], ◌∷◌, length, nat_lt, if◌then◌else◌, Option, Some, None, IsSome}
use Rattle.lv_values.specs.Names.{is_lower_name}
use Rattle.lv_schema.specs.declared.fault.Fault.{Fault}
use Rattle.lv_schema.specs.declared.fault.Fault.TheVariants.{Store}
use Rattle.lv_schema.specs.UpkeepCases.{claim_of}
use Rattle.lv_schema.specs.World.{World, view_at}
use Rattle.lv_plain.specs.declared.entry.Entry.{Entry}
use Rattle.lv_plain.specs.declared.entry.Entry.TheVariants as entry
use Rattle.lv_plain.specs.declared.entry.MarkOutcome.{MarkOutcome}
use Rattle.lv_plain.specs.declared.entry.MarkOutcome.TheVariants as outcome
use Rattle.lv_plain.specs.declared.entry.Reply.{Reply}
use Rattle.lv_plain.specs.declared.entry.Reply.TheVariants as reply
use Rattle.lv_plain.specs.declared.program.Program.{Program}
use Rattle.lv_plain.specs.declared.event.Event.{Event}
use Rattle.lv_plain.specs.declared.event.Event.TheVariants.{Turn as turn_of, Fetch as fetch_of, Install as install_of, Release as release_of, Mark as mark_of, Clean as clean_up}
use Rattle.lv_plain.specs.Machine.{State, give}
use Rattle.lv_plain.specs.Rules.{Rules}
use Rattle.lv_plain.specs.Programs.{first_places, may_turn, setup_answered, all_answered}

-- whether an entry shows that the disk failed
abbrev pub is_store : Fault → Bool
is_store Store = true
is_store fault = false

abbrev pub reply_fails : Reply → Bool
reply_fails (reply.Refused fault) = is_store fault
reply_fails answer = false

abbrev pub mark_fails : MarkOutcome → Bool
mark_fails (outcome.Refused fault) = is_store fault
mark_fails answer = false

abbrev pub shows_failure : Entry → Bool
shows_failure (entry.Session session place forced answer) = reply_fails answer
shows_failure (entry.Marked view answer) = mark_fails answer
shows_failure e = false

-- the event of an entry, which is read from it; that of a mark is of the view's name in the state before it, and a
-- mark of a number that is no view's has none
abbrev pub event_of : State → Entry → Option Event
event_of s (entry.Session session place forced answer) = Some (turn_of session)
event_of s (entry.Fetched worker view lo hi) = Some (fetch_of worker)
event_of s (entry.Idle worker) = Some (fetch_of worker)
event_of s (entry.Busy worker) = Some (fetch_of worker)
event_of s (entry.Installed worker view lo hi) = Some (install_of worker)
event_of s (entry.Moved worker view lo hi point) = Some (install_of worker)
event_of s (entry.Empty worker) = Some (install_of worker)
event_of s (entry.Released worker) = Some (release_of worker)
event_of s (entry.Marked view answer) =
    let views = s.world.visible.views in if nat_lt view (length views) then Some (mark_of (view_at views view).name) else None
event_of s (entry.MarkUnknown name) = Some (mark_of name)
event_of s (entry.Cleaned floor versions deltas) = Some clean_up

-- an event may come: a turn of a session with a statement left, and everything else once the setup is answered; workers
-- are 1 to 8, one that gives up has a claim, and a mark is of a name
abbrev pub IsWorker : ℕ → Type 0
IsWorker worker = (0 < worker) × (worker ≤ 8)

abbrev pub MayHappen : Program → State → Event → Type 0
MayHappen p s (turn_of session) = may_turn p s.places session ≡ true
MayHappen p s (fetch_of worker) = IsWorker worker × (setup_answered p s.places ≡ true)
MayHappen p s (install_of worker) = IsWorker worker × (setup_answered p s.places ≡ true)
MayHappen p s (release_of worker) = IsWorker worker × (setup_answered p s.places ≡ true) × IsSome (claim_of s.world.upkeep worker)
MayHappen p s (mark_of name) = (is_lower_name name ≡ true) × (setup_answered p s.places ≡ true)
MayHappen p s clean_up = setup_answered p s.places ≡ true

module _ (rules : Rules) where
  -- an entry may come: it is that of its event, which may happen, with the outcome that it shows
  abbrev pub MayComeBy : Option Event → State → Entry → Type 0
  MayComeBy None s e = ⊥
  MayComeBy (Some event) s e = MayHappen rules.program s event × ((give rules (shows_failure e) event s).entry ≡ e)

  abbrev pub MayCome : State → Entry → Type 0
  MayCome s e = MayComeBy (event_of s e) s e

  abbrev pub after_by : Option Event → State → Entry → State
  after_by None s e = s
  after_by (Some event) s e = (give rules (shows_failure e) event s).next

  abbrev pub after_entry : State → Entry → State
  after_entry s e = after_by (event_of s e) s e

  abbrev pub Legal : State → List Entry → Type 0
  Legal s [] = Unit {0}
  Legal s (e ∷ es) = MayCome s e × Legal (after_entry s e) es

  -- the state after entries, and their events
  abbrev pub after : State → List Entry → State
  after s [] = s
  after s (e ∷ es) = after (after_entry s e) es

  abbrev pub events_by : Option Event → List Event → List Event
  events_by None events = events
  events_by (Some event) events = event ∷ events

  abbrev pub events_of : State → List Entry → List Event
  events_of s [] = []
  events_of s (e ∷ es) = events_by (event_of s e) (events_of (after_entry s e) es)

  -- a program begins in a world with each session at its first statement
  abbrev pub begun : World → State
  begun w = record { world = w; places = first_places rules.program }

  -- entries of the whole program from a world: they are legal, and no statement is left
  pub record Whole (opened : World) (es : List Entry) : Type 0 where
    pub legal : Legal (begun opened) es
    pub answered : all_answered rules.program (after (begun opened) es).places ≡ true
