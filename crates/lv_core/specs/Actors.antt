-- The actors over a core: what each of them finds, and what their calls add to the run. Actors 1 to 16 are the sessions of
-- these numbers, and actors 17 to 24 are workers 1 to 8.
use Rattle.std.specs.Prelude.{◌≡◌, ◌⊎◌, ◌-◌, ◌<◌, ◌≤◌, ℕ, Bool, true, false, List, [], map, Option, Some, None, Result, Ok, Err}
use Rattle.std.specs.List.{AllZip}
use Rattle.lv_schema.specs.declared.forced.Forced.{Forced as Step}
use Rattle.lv_schema.specs.declared.pending.Pending.{Pending}
use Rattle.lv_schema.specs.Policies.{unclaimed}
use Rattle.lv_schema.specs.UpkeepCases.{claim_of, fetched, fetching, released}
use Rattle.lv_schema.specs.WholeWorld.{with_upkeep}
use Rattle.lv_schema.specs.World.{World}
use Rattle.lv_maint.specs.Inputs.{Input, Outcome}
use Rattle.lv_plain.specs.declared.entry.Entry.{Entry}
use Rattle.lv_plain.specs.declared.entry.Entry.TheVariants as entry
use Rattle.lv_plain.specs.declared.event.Event.TheVariants.{Turn as turn_of, Fetch as fetch_of, Install as install_of, Release as release_of, Clean as clean_up}
use Rattle.lv_plain.specs.declared.program.Program.{Program}
use Rattle.lv_plain.specs.Machine.{give}
use Rattle.lv_plain.specs.Programs.{Places, all_answered, may_turn, setup_answered}
use Rattle.lv_store.specs.Answering.{IsInputBetween}
use Rattle.lv_shared.specs.declared.machine.Taken.{Taken}
use Rattle.lv_shared.specs.declared.machine.Taken.TheVariants.{Work, Idle, Ended}
use Rattle.lv_core.specs.declared.jobs.Assignment.{Assignment}
use Rattle.lv_core.specs.declared.jobs.Jobs.{Jobs}
use Rattle.lv_core.specs.declared.jobs.Jobs.TheVariants.{Forced, Fetched}
use Rattle.lv_core.specs.declared.jobs.Results.{Results}
use Rattle.lv_core.specs.declared.jobs.Results.TheVariants as results
use Rattle.lv_core.specs.Answering.{IsUndone}
use Rattle.lv_core.specs.Run.{CoreView, Gave, IsSame, next_steps, rules_of, state_of}
use Rattle.lv_core.specs.Slots.{SlotsKept, slot_of}

-- ---- what a worker finds, by the views that it may be given
-- nothing now, but a statement is left whose answer may change that
pub record IsWaiting (p : Program) (places : Places) (views : List Pending) : Type 0 where
  pub setup : setup_answered p places ≡ true
  pub left : all_answered p places ≡ false
  pub none : views ≡ []

-- nothing any more
pub record IsDone (p : Program) (places : Places) (views : List Pending) : Type 0 where
  pub all : all_answered p places ≡ true
  pub none : views ≡ []

-- no turn: all is done, or the setup is not answered yet
abbrev pub HasEnded : Program → Places → List Pending → Type 0
HasEnded p places views = (setup_answered p places ≡ false) ⊎ IsDone p places views

-- what a worker's take tells, by the views that it may be given
abbrev pub Tells : {W E : Type 0} → Program → Places → List Pending → Result (Taken W) E → Type 0
Tells p places views (Ok (Work a)) = (setup_answered p places ≡ true) × (views ≡ [] → ⊥)
Tells p places views (Ok Idle) = IsWaiting p places views
Tells p places views (Ok Ended) = HasEnded p places views
Tells p places views (Err e) = Unit {0}

-- the views that a worker may be given once the claim that it may have has ended: nobody has claimed them, and they have
-- pending tasks
abbrev pub views_for : ℕ → World → List Pending
views_for worker w = unclaimed (with_upkeep (released worker w.upkeep) w)

-- ---- what an actor finds
module _ {D : Type 0} (c : CoreView D) (actor : ℕ) where
  -- it has nothing to do now: a session never waits
  abbrev pub Waits : Type 0
  Waits = (16 < actor) × IsWaiting c.program c.places (views_for (actor - 16) (state_of c).world)

  -- it has come to its end: a session where it has no statement to be answered now
  pub record Ends : Type 0 where
    pub session : actor ≤ 16 → may_turn c.program c.places actor ≡ false
    pub worker : 16 < actor → HasEnded c.program c.places (views_for (actor - 16) (state_of c).world)

  -- it holds nothing: a worker has no claim
  abbrev pub HoldsNothing : Type 0
  HoldsNothing = 16 < actor → claim_of (state_of c).world.upkeep (actor - 16) ≡ None

-- and nothing lies in its slot
abbrev pub IsFree : {D : Type 0} → CoreView D → SlotsKept → ℕ → Type 0
IsFree c slots actor = HoldsNothing c actor × (16 < actor → slot_of slots (actor - 16) ≡ None)

-- ---- work
-- a session is handed out what the steps are computed from that its next statement would force now
abbrev pub HandsForced : {D E : Type 0} → ℕ → CoreView D → Result (Taken Assignment) E → Type 0
HandsForced session c (Ok (Work a)) = (inputs : List Input) × (a.jobs ≡ Forced inputs) × AllZip (IsInputBetween (state_of c).world.visible) (next_steps c session) inputs
HandsForced session c other = Unit {0}

-- results are those of jobs: each has its job's input
abbrev pub AreOf : Jobs → Results → Type 0
AreOf (Forced inputs) (results.Forced outcomes) = map (λ (o : Outcome). o.input) outcomes ≡ inputs
AreOf (Fetched input) (results.Fetched outcome) = outcome.input ≡ input
AreOf jobs other = ⊥

-- the offers of a session, and the offer of a worker: results of the other kind are none
abbrev pub offers_of : Results → List Outcome
offers_of (results.Forced outcomes) = outcomes
offers_of (results.Fetched outcome) = []

abbrev pub offer_of : Results → Option Outcome
offer_of (results.Forced outcomes) = None
offer_of (results.Fetched outcome) = Some outcome

-- whether an entry shows that a step was installed
abbrev pub shows_install : Entry → Bool
shows_install (entry.Installed worker view lo hi) = true
shows_install other = false

-- ---- what the calls add
module _ {D : Type 0} (seen : D → Option (List ℕ)) (may_leave : D → List ℕ → Type 0) (moment : D → ℕ) (left_since : D → ℕ → List ℕ → Type 0) (failures : D → ℕ) where
  -- a worker's claim ends, if it has one
  abbrev pub FreesBy : Option Step → ℕ → CoreView D → CoreView D → Type 0
  FreesBy None worker old new = new ≡ old
  FreesBy (Some claim) worker old new = Gave seen may_leave moment left_since failures (release_of worker) old new

  abbrev pub Frees : ℕ → CoreView D → CoreView D → Type 0
  Frees worker old new = FreesBy (claim_of (state_of old).world.upkeep worker) worker old new

  -- a worker has fetched a step, which is computed from this
  pub record HasFetched (worker : ℕ) (old new : CoreView D) (input : Input) : Type 0 where
    pub gave : Gave seen may_leave moment left_since failures (fetch_of worker) old new
    pub step : Step
    pub fetches : (fetching old.settings worker (state_of old).world).0 ≡ fetched step
    pub input_is : IsInputBetween (state_of old).world.visible step input

  -- a worker without a claim fetches a step exactly where it is handed out one
  abbrev pub Fetches : {E : Type 0} → ℕ → CoreView D → CoreView D → Result (Taken Assignment) E → Type 0
  Fetches worker old new (Ok (Work a)) = (input : Input) × (a.jobs ≡ Fetched input) × HasFetched worker old new input
  Fetches worker old new other = new ≡ old

  -- a worker's take: first the claim ends that it may have
  pub record Takes {E : Type 0} (worker : ℕ) (old new : CoreView D) (taken : Result (Taken Assignment) E) : Type 0 where
    pub freed : CoreView D
    pub frees : Frees worker old freed
    pub fetches : Fetches worker freed new taken

  -- a session's give answers its next statement, if that may be answered now
  abbrev pub TurnsBy : {E : Type 0} → Bool → ℕ → CoreView D → CoreView D → Result (Unit {0}) E → Type 0
  TurnsBy true session old new (Ok done) = Gave seen may_leave moment left_since failures (turn_of session) old new
  TurnsBy true session old new (Err e) = IsSame old new × IsUndone seen may_leave moment left_since failures old.engine new.engine
  TurnsBy false session old new (Ok done) = new ≡ old
  TurnsBy false session old new (Err e) = ⊥

  abbrev pub Turns : {E : Type 0} → ℕ → CoreView D → CoreView D → Result (Unit {0}) E → Type 0
  Turns session old new result = TurnsBy (may_turn old.program old.places session) session old new result

  -- an entry that shows that a step was installed is followed by a clean-up
  abbrev pub CleansIf : Bool → CoreView D → CoreView D → Type 0
  CleansIf true old new = Gave seen may_leave moment left_since failures clean_up old new
  CleansIf false old new = new ≡ old

  pub record Installs (worker : ℕ) (old new : CoreView D) : Type 0 where
    pub mid : CoreView D
    pub gave : Gave seen may_leave moment left_since failures (install_of worker) old mid
    pub cleans : CleansIf (shows_install (give (rules_of old.settings old.program) false (install_of worker) (state_of old)).entry) mid new

  -- a worker's give installs, once the setup is answered
  abbrev pub GivesBy : {E : Type 0} → Bool → ℕ → CoreView D → CoreView D → Result (Unit {0}) E → Type 0
  GivesBy true worker old new (Ok done) = Installs worker old new
  GivesBy true worker old new (Err e) = new ≡ old
  GivesBy false worker old new (Ok done) = new ≡ old
  GivesBy false worker old new (Err e) = ⊥

  abbrev pub Gives : {E : Type 0} → ℕ → CoreView D → CoreView D → Result (Unit {0}) E → Type 0
  Gives worker old new result = GivesBy (setup_answered old.program old.places) worker old new result
