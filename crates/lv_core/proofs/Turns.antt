-- What the core keeps gives what a turn needs, and a turn gives what the plain machine gives.
use Rattle.std.proofs.Common.{◌≡◌, ℕ, zero, suc, ◌+◌, ◌<◌, Bool, true, false, List, [], ◌∷◌, ◌++◌, length, Option, None, refl, sym, ap, ◌∙◌, subst, arith}
use Rattle.std.specs.Prelude.{◌==◌, ◌&&◌, not, replicate, slice_index, slice_index_or, slice_set, Result}
use Rattle.std.proofs.lemmas.Bool.Decides.{nat_tests}
use Rattle.lv_schema.specs.declared.bound.Bound.{Bound}
use Rattle.lv_schema.specs.declared.fault.Fault.{Fault}
use Rattle.lv_schema.specs.declared.forced.Forced.{Forced}
use Rattle.lv_schema.specs.declared.open.Open.{Open}
use Rattle.lv_schema.specs.declared.rec.Rec.{Rec}
use Rattle.lv_schema.specs.Tasks.{pending_tasks}
use Rattle.lv_schema.specs.UpkeepCases.{outcome_of}
use Rattle.lv_schema.specs.World.{Settings, World}
use Rattle.lv_bind.specs.Reads.{reads}
use Rattle.lv_plain.specs.declared.entry.Entry.{Entry}
use Rattle.lv_plain.specs.declared.entry.Entry.TheVariants.{Session}
use Rattle.lv_plain.specs.declared.program.Program.{Program}
use Rattle.lv_plain.specs.declared.event.Event.TheVariants.{Turn as turn_of}
use Rattle.lv_plain.specs.Machine.{State, steps_of}
use Rattle.lv_plain.specs.Programs.{Places, has_more, lines_of, may_turn, next_line, setup_answered}
use Rattle.lv_plain.specs.Turns.{Turn, bound_line, read_turn}
use Rattle.lv_plain.proofs.SessionsKept.{few_lines, place_in, runs_change_little, runs_count, session_in, setups_come_first}
use Rattle.lv_txn.specs.Kept.{transaction_of}
use Rattle.lv_engine.specs.Kept.{EngineView, Stands}
use Rattle.lv_core.specs.declared.answered.Answered.{Answered}
use Rattle.lv_core.specs.Answering.{GivesTurn, IsNext}
use Rattle.lv_core.specs.Run.{CoreView, Gave, IsRun, next_bound, state_of, view_of, world_of}
use Rattle.lv_core.proofs.Happened.{Comes, given_by, happened, its_rules}
use Rattle.lv_core.proofs.RecordsGo.{Goes, goes, turn_asks, turn_follows}
use Rattle.lv_core.proofs.Standing.{changes_are, free_here}

-- nobody is live in the world of an engine over which a run begins
pub nobody_live : (n k : ℕ) → ◌≡◌ {A = Option Open} (slice_index_or (replicate n None) k None) None
nobody_live zero k = refl
nobody_live (suc n) zero = refl
nobody_live (suc n) (suc k) = nobody_live n k

-- ---- what a turn needs
module _ {D : Type 0} (seen : D → Option (List ℕ)) (may_leave : D → List ℕ → Type 0) (moment : D → ℕ) (left_since : D → ℕ → List ℕ → Type 0) (failures : D → ℕ) where
  abbrev Gives : World → EngineView D → EngineView D → List Forced → (Bool → Turn) → Answered → Type 0
  Gives w old new steps turn_if a = GivesTurn seen may_leave moment left_since failures w old new steps turn_if a

  module _ (c : CoreView D) (session : ℕ) (held : IsRun seen may_leave moment left_since failures c) (may : may_turn c.program c.places session ≡ true) where
    abbrev now : State
    now = state_of c

    pub may_now : may_turn c.program now.places session ≡ true
    may_now = subst (λ ps. may_turn c.program ps session ≡ true) held.places_are may

    pub place_there : session < length c.places
    place_there =
        let count = runs_count (its_rules c) (world_of c.opened) c.entries in
        omega (arith, ap length held.places_are, count, session_in c.program c.places session may)

    pub place_left : slice_index c.places session < length (lines_of c.program session)
    place_left = place_in c.program c.places session may

    pub place_small : slice_index c.places session < 100000
    place_small = omega (arith, place_left, few_lines c.program session held.within)

    session_few : session < 17
    session_few = omega (arith, held.within.sessions, session_in c.program c.places session may)

    changes_few : (transaction_of c.engine.store.sessions session).changes < 4294967295
    changes_few =
        let little = runs_change_little (its_rules c) (world_of c.opened) c.entries session (nobody_live 17) held.legal in
        let same : slice_index c.places session ≡ slice_index now.places session = ap (λ ps. slice_index ps session) held.places_are in
        omega (arith, changes_are now.world c.engine session held.stands, little, same, place_small)

    setup_open : (session == 0) ≡ true → setup_answered c.program now.places ≡ false
    setup_open e = by session may_now e
      where
        first_of : (a b : Bool) → (a && b) ≡ true → not a ≡ false
        first_of true b h = refl
        first_of false b h = cc

        by : (n : ℕ) → may_turn c.program now.places n ≡ true → (n == 0) ≡ true → setup_answered c.program now.places ≡ false
        by zero h e = first_of (has_more c.program now.places 0) _ h
        by (suc n) h e = absurd (grind (arith, nat_tests))

    pub next_ready : IsNext c.engine session
    next_ready = record {
      known = session_few;
      few = changes_few;
      first = λ e other pos. free_here now.world c.engine other held.stands (setups_come_first (its_rules c) (world_of c.opened) c.entries other (nobody_live 17) held.legal (setup_open e) pos);
    }

    -- ---- what it gives, told by what was computed on the way
    abbrev line_at : Places → Result Bound Fault
    line_at places = bound_line reads session (next_line c.program places session) now.world.visible

    abbrev steps_at : Places → List Forced
    steps_at places = steps_of c.settings session (line_at places) now.world

    abbrev turn_at : Places → Bool → Turn
    turn_at places fails = read_turn (outcome_of c.settings fails now.world.upkeep) (pending_tasks now.world) session (line_at places) now.world.visible

    abbrev given_turn : EngineView D → Answered → Places → Type 0
    given_turn new a places = Gives now.world c.engine new (steps_at places) (turn_at places) a

    module _ (new : EngineView D) (a : Answered) (kept : new.store.settings ≡ c.engine.store.settings) (h : given_turn new a now.places) where
      pub turn_comes : Comes seen may_leave moment left_since failures c (turn_of session) h.fails new
      turn_comes = record {
        stands = h.stands;
        settings = kept;
        goes = subst (λ (asked : Option Rec). Goes seen may_leave moment left_since asked (turn_at now.places h.fails).written c.engine.journal new.journal)
            (turn_asks c.settings now.world.upkeep h.fails (pending_tasks now.world) session (line_at now.places) now.world.visible)
            (goes seen may_leave moment left_since (turn_at now.places h.fails).attempted (turn_at now.places h.fails).written c.engine.journal new.journal
            (turn_follows (outcome_of c.settings h.fails now.world.upkeep) (pending_tasks now.world) session (line_at now.places) now.world.visible) h.journal.logs);
        later = h.journal.later;
        cause = h.cause;
      }

      pub turn_entry : (place : ℕ) → place ≡ slice_index now.places session → Session session (place + 1) a.forced a.reply ≡ (given_by h.fails c (turn_of session)).entry
      turn_entry place at = λ i. Session session (at i + 1) (h.forced i) (h.reply i)

    pub turn_counts : (fails : Bool) (next : Places) (place : ℕ) → place ≡ slice_index c.places session → next ≡ slice_set c.places session (place + 1) → next ≡ (given_by fails c (turn_of session)).next.places
    turn_counts fails next place at counted = counted ∙ λ i. slice_set (held.places_are i) session ((at ∙ ap (λ ps. slice_index ps session) held.places_are) i + 1)

-- ---- what was read of the program
pub next_line_is : (p : Program) (places slice : Places) (session place : ℕ) (line : List ℕ) → slice ≡ places → place ≡ slice_index slice session → line ≡ slice_index_or (lines_of p session) place []
    → line ≡ next_line p places session
next_line_is p places slice session place line same at is = is ∙ ap (λ k. slice_index_or (lines_of p session) k []) (at ∙ ap (λ ps. slice_index ps session) same)

module _ {D : Type 0} (seen : D → Option (List ℕ)) (may_leave : D → List ℕ → Type 0) (moment : D → ℕ) (left_since : D → ℕ → List ℕ → Type 0) (failures : D → ℕ) where
  abbrev TurnOf : Settings → World → EngineView D → EngineView D → ℕ → List ℕ → Answered → Type 0
  TurnOf settings w old new session line a = GivesTurn seen may_leave moment left_since failures w old new (steps_of settings session (bound_line reads session line w.visible) w)
      (λ fails. read_turn (outcome_of settings fails w.upkeep) (pending_tasks w) session (bound_line reads session line w.visible) w.visible) a

  abbrev pub AnswersLine : EngineView D → EngineView D → ℕ → List ℕ → Answered → Type 0
  AnswersLine old new session line a = (w : World) (settings : Settings) → settings.combine ≡ old.store.settings.combine → settings.limit ≡ old.store.settings.log_limit → Stands w old → TurnOf settings w old new session line a

  -- ---- one turn more
  pub turn_taken : (policy : ℕ) (p : Program) (old new opened : EngineView D) (places next : Places) (es later more : List Entry) (c : CoreView D) (session place : ℕ) (line : List ℕ) (a : Answered)
      → view_of policy p old opened places es ≡ c → IsRun seen may_leave moment left_since failures c → may_turn c.program c.places session ≡ true → place ≡ slice_index places session → line ≡ next_line p places session
      → later ≡ es → next ≡ slice_set places session (place + 1) → more ≡ later ++ Session session (place + 1) a.forced a.reply ∷ [] → new.store.settings ≡ old.store.settings
      → AnswersLine old new session line a → Gave seen may_leave moment left_since failures (turn_of session) c (view_of policy p new opened next more)
  turn_taken policy p old new opened places next es later more c session place line a is held may at line_is same counted added kept answers =
      let s : State = state_of c in
      let w : World = s.world in
      let at_is : place ≡ slice_index c.places session = at ∙ ap (λ (v : CoreView D). slice_index v.places session) is in
      let next_is : line ≡ next_line c.program s.places session = line_is ∙ ap (λ (v : CoreView D). next_line v.program v.places session) is ∙ ap (λ ps. next_line c.program ps session) held.places_are in
      let counted_is : next ≡ slice_set c.places session (place + 1) = counted ∙ ap (λ (v : CoreView D). slice_set v.places session (place + 1)) is in
      let engine_is : old ≡ c.engine = ap (λ (v : CoreView D). v.engine) is in
      let stands : Stands w old = subst (λ (e : EngineView D). Stands w e) (sym engine_is) held.stands in
      let told = answers w c.settings (sym (ap (λ (v : CoreView D). v.settings.combine) is)) (sym (ap (λ (v : CoreView D). v.settings.limit) is)) stands in
      let from_now : TurnOf c.settings w c.engine new session line a = subst (λ (e : EngineView D). TurnOf c.settings w e new session line a) engine_is told in
      let turn : TurnOf c.settings w c.engine new session (next_line c.program s.places session) a = subst (λ (l : List ℕ). TurnOf c.settings w c.engine new session l a) next_is from_now in
      let kept_is : new.store.settings ≡ c.engine.store.settings = kept ∙ ap (λ (e : EngineView D). e.store.settings) engine_is in
      happened seen may_leave moment left_since failures policy p old new opened places next es later more c (turn_of session) turn.fails (Session session (place + 1) a.forced a.reply) is held (may_now seen may_leave moment left_since failures c session held may) same added
      (turn_counts seen may_leave moment left_since failures c session held may turn.fails next place at_is counted_is)
      (turn_entry seen may_leave moment left_since failures c session held may new a kept_is turn place (at_is ∙ ap (λ ps. slice_index ps session) held.places_are))
      (turn_comes seen may_leave moment left_since failures c session held may new a kept_is turn)

  -- ---- before a turn
  module _ (policy : ℕ) (p : Program) (old opened : EngineView D) (places : Places) (es : List Entry) (c : CoreView D) (held : IsRun seen may_leave moment left_since failures (view_of policy p old opened places es)) (is : view_of policy p old opened places es ≡ c)
      (session : ℕ) (may : may_turn c.program c.places session ≡ true) where
    held_here : IsRun seen may_leave moment left_since failures c
    held_here = subst (λ (v : CoreView D). IsRun seen may_leave moment left_since failures v) is held

    pub place_held : session < length places
    place_held = subst (λ (v : CoreView D). session < length v.places) (sym is) (place_there seen may_leave moment left_since failures c session held_here may)

    pub small_held : slice_index places session < 100000
    small_held = subst (λ (v : CoreView D). slice_index v.places session < 100000) (sym is) (place_small seen may_leave moment left_since failures c session held_here may)

    pub next_held : IsNext old session
    next_held = subst (λ (v : CoreView D). IsNext v.engine session) (sym is) (next_ready seen may_leave moment left_since failures c session held_here may)

  -- the next statement, by what was read of it
  pub bound_here : (policy : ℕ) (p : Program) (old opened : EngineView D) (places : Places) (es : List Entry) (c : CoreView D) → view_of policy p old opened places es ≡ c → (session : ℕ) (line : List ℕ) → line ≡ next_line p places session
      → bound_line reads session line (state_of c).world.visible ≡ next_bound c session
  bound_here policy p old opened places es c is session line at = ap (λ (l : List ℕ). bound_line reads session l (state_of c).world.visible) (at ∙ ap (λ (v : CoreView D). next_line v.program v.places session) is)
