-- An event that may happen, with the entry that the plain machine gives for it: the run goes on, and its room is kept.
use Rattle.std.proofs.Common.{◌≡◌, ℕ, ◌+◌, ◌<◌, ◌≤◌, Bool, true, false, List, [], ◌∷◌, ◌++◌, length, Option, None, refl, sym, ap, ◌∙◌, subst, arith}
use Rattle.std.specs.Prelude.{◌-◌, ◌^◌, min, cond, is_some, slice_index_or, slice_set, OnErr, Result, Ok, Err}
use Rattle.std.specs.List.{cons_option}
use Rattle.std.proofs.lemmas.List.Sums.{sum_by-append, sum_by-cons}
use Rattle.lv_outside.specs.Causes.{Rose}
use Rattle.lv_schema.specs.declared.forced.Forced.{Forced}
use Rattle.lv_schema.specs.declared.rec.Rec.{Rec}
use Rattle.lv_schema.specs.UpkeepCases.{claim_of}
use Rattle.lv_plain.specs.declared.entry.Entry.{Entry}
use Rattle.lv_plain.specs.declared.program.Program.{Program}
use Rattle.lv_plain.specs.declared.event.Event.{Event}
use Rattle.lv_plain.specs.declared.event.Event.TheVariants.{Release as release_of}
use Rattle.lv_plain.specs.Legal.{IsWorker, MayCome, MayHappen, after_entry, shows_failure}
use Rattle.lv_plain.specs.Machine.{Given, State, give}
use Rattle.lv_plain.specs.Programs.{Places}
use Rattle.lv_plain.specs.Rules.{Rules}
use Rattle.lv_plain.specs.WrittenRecords.{written_by}
use Rattle.lv_plain.proofs.GivenEntries.{given_comes, shown}
use Rattle.lv_plain.proofs.LegalLaws.{Legal-snoc, after-append}
use Rattle.lv_plain.proofs.WrittenEntries.{given_record, records_of-append}
use Rattle.lv_upkeep.specs.Kept.{claim_kept}
use Rattle.lv_crash.specs.Attempts.{Attempt, as_attempt}
use Rattle.lv_crash.proofs.Follows.{event_follows}
use Rattle.lv_crash.proofs.Staying.{attempts_append}
use Rattle.lv_engine.specs.Kept.{EngineView, Stands}
use Rattle.lv_engine.specs.Records.{HasRecords}
use Rattle.lv_core.specs.Run.{AreClaims, CoreView, Gave, IsLogged, IsRoomy, IsRun, asked_of, claim_count, failures_shown, first_state, rules_of, settings_of, state_of, view_of, written_of}
use Rattle.lv_core.proofs.Binds.{reads_blames_no_disk}
use Rattle.lv_core.proofs.Logged.{given_attempt, logged_on}
use Rattle.lv_core.proofs.RecordsGo.{Goes}
use Rattle.lv_core.proofs.Claims.{claims_are, claims_kept, counted, few_claims}

-- the rules of a run, and what the plain machine gives for an event after it
abbrev pub its_rules : {D : Type 0} → CoreView D → Rules
its_rules c = rules_of c.settings c.program

abbrev pub given_by : {D : Type 0} → Bool → CoreView D → Event → Given
given_by fails c event = give (its_rules c) fails event (state_of c)

-- one entry more is at most one failure more that is shown
shown_more : (es : List Entry) (e : Entry) → failures_shown (es ++ e ∷ []) ≡ failures_shown es + cond (shows_failure e) 1 0
shown_more es e =
    let one : Entry → ℕ = λ (x : Entry). cond (shows_failure x) 1 0 in
    let sum = sum_by-append one es (e ∷ []) in
    let last = sum_by-cons one e [] in
    omega (arith, sum, last)

caused_more : (opened shows old new : ℕ) (b : Bool) → min (opened + shows) (2 ^ 64 - 1) ≤ old → old ≤ new → (b ≡ true → Rose old new) → min (opened + (shows + cond b 1 0)) (2 ^ 64 - 1) ≤ new
caused_more opened shows old new false le later rose = grind arith
caused_more opened shows old new true le later rose = let more = rose refl in grind arith

module _ {D : Type 0} (seen : D → Option (List ℕ)) (may_leave : D → List ℕ → Type 0) (moment : D → ℕ) (left_since : D → ℕ → List ℕ → Type 0) (failures : D → ℕ) where
  abbrev pub IsHeld : CoreView D → Type 0
  IsHeld c = IsRun seen may_leave moment left_since failures c

  -- what comes of an event
  pub record Comes (c : CoreView D) (event : Event) (fails : Bool) (new : EngineView D) : Type 0 where
    pub stands : Stands (given_by fails c event).next.world new
    pub settings : new.store.settings ≡ c.engine.store.settings
    pub goes : Goes seen may_leave moment left_since (written_by (its_rules c) false event (state_of c)) (written_by (its_rules c) fails event (state_of c)) c.engine.journal new.journal
    pub later : failures c.engine.journal.disk ≤ failures new.journal.disk
    pub cause : fails ≡ true → Rose (failures c.engine.journal.disk) (failures new.journal.disk)

  module _ (c : CoreView D) (event : Event) (fails : Bool) (held : IsHeld c) (may : MayHappen c.program (state_of c) event) where
    abbrev given : Given
    given = given_by fails c event

    abbrev rules : Rules
    rules = its_rules c

    comes : MayCome rules (state_of c) given.entry × (after_entry rules (state_of c) given.entry ≡ given.next)
    comes = given_comes rules reads_blames_no_disk fails event (state_of c) may

    abbrev gone : EngineView D → CoreView D
    gone new = record { settings = c.settings; program = c.program; places = given.next.places; entries = c.entries ++ given.entry ∷ []; engine = new; opened = c.opened }

    state_gone : (new : EngineView D) → state_of (gone new) ≡ given.next
    state_gone new = after-append rules (first_state c) c.entries (given.entry ∷ []) ∙ comes.1

    written_gone : (new : EngineView D) → written_of c ++ cons_option (written_by rules fails event (state_of c)) [] ≡ written_of (gone new)
    written_gone new =
        sym (records_of-append rules (first_state c) c.entries (given.entry ∷ []) ∙ ap (λ (o : Option Rec). written_of c ++ cons_option o []) (given_record rules fails event (state_of c)))

    module _ (new : EngineView D) (came : Comes c event fails new) where
      asked_gone : asked_of c ++ as_attempt (written_by rules false event (state_of c)) (written_by rules fails event (state_of c)) ≡ asked_of (gone new)
      asked_gone = sym (attempts_append rules (first_state c) c.entries (given.entry ∷ []) ∙ ap (λ (l : List Attempt). asked_of c ++ l) (given_attempt rules fails event (state_of c)))

      records_gone : (recs : List Rec) → HasRecords seen may_leave recs None c.opened.journal → IsLogged seen may_leave moment left_since failures recs (gone new)
      records_gone recs has =
          logged_on seen may_leave moment left_since failures c (gone new) recs (written_by rules false event (state_of c)) (written_by rules fails event (state_of c)) (held.records recs has) refl (written_gone new) asked_gone (event_follows rules fails event (state_of c)) came.goes

      shows_cause : shows_failure given.entry ≡ true → Rose (failures c.engine.journal.disk) (failures new.journal.disk)
      shows_cause = by fails refl
        where
          by : (b : Bool) → fails ≡ b → shows_failure given.entry ≡ true → Rose (failures c.engine.journal.disk) (failures new.journal.disk)
          by true is e = came.cause is
          by false is e = absurd (let none : shows_failure given.entry ≡ false = ap (λ (b : Bool). shows_failure (give rules b event (state_of c)).entry) is ∙ shown rules reads_blames_no_disk event (state_of c) in cc)

      caused_gone : min (failures c.opened.journal.disk + failures_shown (c.entries ++ given.entry ∷ [])) (2 ^ 64 - 1) ≤ failures new.journal.disk
      caused_gone =
          subst (λ n. min (failures c.opened.journal.disk + n) (2 ^ 64 - 1) ≤ failures new.journal.disk) (sym (shown_more c.entries given.entry))
          (caused_more (failures c.opened.journal.disk) (failures_shown c.entries) (failures c.engine.journal.disk) (failures new.journal.disk) (shows_failure given.entry) held.caused came.later shows_cause)

      gone_gave : Gave seen may_leave moment left_since failures event c (gone new)
      gone_gave = record {
        run = record {
          within = held.within;
          settings_are = held.settings_are ∙ ap (λ s. settings_of s c.settings.policy) (sym came.settings);
          opening = held.opening;
          recs = held.recs;
          opened_by = held.opened_by;
          begins = held.begins;
          legal = Legal-snoc rules (first_state c) c.entries given.entry held.legal comes.0;
          places_are = ap (λ (s : State). s.places) (sym (state_gone new));
          claims = subst (λ (s : State). AreClaims c.program s) (sym (state_gone new)) (claims_kept rules fails event (state_of c) may held.claims);
          stands = subst (λ (s : State). Stands s.world new) (sym (state_gone new)) came.stands;
          records = records_gone;
          caused = caused_gone;
        };
        settings = refl;
        program = refl;
        opened = refl;
        fails = fails;
        entry = refl;
        state = state_gone new;
        later = came.later;
        cause = shows_cause;
      }

  -- the same of what a run keeps, by the entry that was added
  pub happened : (policy : ℕ) (p : Program) (old new opened : EngineView D) (places next : Places) (es later more : List Entry) (c : CoreView D) (event : Event) (fails : Bool) (e : Entry) → view_of policy p old opened places es ≡ c
      → IsHeld c → MayHappen c.program (state_of c) event → later ≡ es → more ≡ later ++ e ∷ [] → next ≡ (given_by fails c event).next.places → e ≡ (given_by fails c event).entry → Comes c event fails new
      → Gave seen may_leave moment left_since failures event c (view_of policy p new opened next more)
  happened policy p old new opened places next es later more c event fails e is held may same added counted entry came =
      let settings_is : settings_of new.store.settings policy ≡ c.settings = ap (λ s. settings_of s policy) (came.settings ∙ ap (λ (v : CoreView D). v.engine.store.settings) (sym is)) ∙ ap (λ (v : CoreView D). v.settings) is in
      let program_is : p ≡ c.program = ap (λ (v : CoreView D). v.program) is in
      let opened_is : opened ≡ c.opened = ap (λ (v : CoreView D). v.opened) is in
      let entries_is : more ≡ c.entries ++ (given_by fails c event).entry ∷ [] = added ∙ λ i. (same ∙ ap (λ (v : CoreView D). v.entries) is) i ++ entry i ∷ [] in
      let gone_is : view_of policy p new opened next more ≡ gone c event fails held may new =
      λ i. record { settings = settings_is i; program = program_is i; places = counted i; entries = entries_is i; engine = new; opened = opened_is i } in
      subst (Gave seen may_leave moment left_since failures event c) (sym gone_is) (gone_gave c event fails held may new came)

  -- nothing has happened
  pub unchanged : (policy : ℕ) (p : Program) (old new opened : EngineView D) (places : Places) (es later : List Entry) (c : CoreView D) → view_of policy p old opened places es ≡ c → later ≡ es → new ≡ old
      → view_of policy p new opened places later ≡ c
  unchanged policy p old new opened places es later c is same kept = (λ i. view_of policy p (kept i) opened places (same i)) ∙ is

  -- ---- room for entries
  few_held : (c : CoreView D) → IsHeld c → claim_count c.engine.store.upkeep.claims ≤ 8
  few_held c held = few_claims (state_of c).world c.engine held.stands held.claims.nobody

  -- a call has made room for nine, and its entry has taken one
  pub roomy : (c : CoreView D) (spare left : ℕ) → IsHeld c → 9 ≤ spare → left + 1 ≡ spare → IsRoomy seen may_leave moment left_since failures c left
  roomy c spare left held made taken = record { run = held; room = omega (arith, few_held c held, made, taken) }

  pub roomy_again : (c d : CoreView D) (spare more : ℕ) → d ≡ c → IsRoomy seen may_leave moment left_since failures c spare → spare ≤ more → IsRoomy seen may_leave moment left_since failures d more
  roomy_again c d spare more same held le = subst (λ (v : CoreView D). IsRoomy seen may_leave moment left_since failures v more) (sym same) (record { run = held.run; room = omega (arith, held.room, le) })

  -- ---- a worker gives its claim up
  module _ (c : CoreView D) (worker : ℕ) (spare : ℕ) (roomy : IsRoomy seen may_leave moment left_since failures c spare) (is : IsWorker worker) (some : is_some (claim_kept c.engine.store.upkeep worker) ≡ true) where
    same_claims : c.engine.store.upkeep.claims ≡ (state_of c).world.upkeep.claims
    same_claims = claims_are (state_of c).world c.engine roomy.run.stands

    claimed : is_some (claim_of (state_of c).world.upkeep worker) ≡ true
    claimed = subst (λ (claims : List (Option Forced)). is_some (slice_index_or claims worker None) ≡ true) same_claims some

    pub may_release : MayHappen c.program (state_of c) (release_of worker)
    may_release = (is, roomy.run.claims.answered worker claimed, claimed)

    fewer : claim_count (slice_set c.engine.store.upkeep.claims worker None) + 1 ≡ claim_count c.engine.store.upkeep.claims
    fewer = counted c.engine.store.upkeep.claims worker (omega (arith, is.1, ap length same_claims, roomy.run.stands.store_stands.steady.workers)) some

    pub room_to_release : 0 < spare
    room_to_release = omega (arith, fewer, roomy.room)

    pub roomy_released : (d : CoreView D) (left : ℕ) → Gave seen may_leave moment left_since failures (release_of worker) c d → left + 1 ≡ spare → IsRoomy seen may_leave moment left_since failures d left
    roomy_released d left gave taken =
        let same : d.engine.store.upkeep.claims ≡ slice_set c.engine.store.upkeep.claims worker None =
        claims_are (state_of d).world d.engine gave.run.stands ∙ ap (λ (s : State). s.world.upkeep.claims) gave.state ∙ ap (λ (claims : List (Option Forced)). slice_set claims worker None) (sym same_claims) in
        record { run = gave.run; room = omega (arith, ap claim_count same, fewer, roomy.room, taken) }

pub on_err : {A E : Type 0} (r : Result A E) (P : Type 0) → P → OnErr r P
on_err (Ok a) P h = tt
on_err (Err e) P h = h
