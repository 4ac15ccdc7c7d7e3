-- What was written is the output of the script, or a part of it.
use Rattle.std.proofs.Common.{◌≡◌, ℕ, Bool, true, false, List, [], ◌++◌, map, take, drop, inl, inr, refl, sym, ap, ◌∙◌, subst, arith}
use Rattle.std.specs.Prelude.{◌⊎◌, ◌||◌, Option, Some, None, IfSome, is_some, Ok}
use Rattle.std.specs.Io.KnownBytes.{Appends, Keeps}
use Rattle.std.proofs.KnownBytes.{Appends-nil, Keeps-refl}
use Rattle.std.proofs.lemmas.List.{append-nil, take-append-drop}
use Rattle.lv_core.specs.Run.{CoreView, IsOpening, IsRun, first_state, rules_of, world_of}
use Rattle.lv_engine.specs.Kept.{EngineView}
use Rattle.lv_lines.specs.Script.{script_of}
use Rattle.lv_lines.specs.Transcript.{text_of}
use Rattle.lv_order.specs.Places.{places_after}
use Rattle.lv_outside.specs.Causes.{AppendsFront}
use Rattle.lv_plain.specs.declared.entry.Entry.{Entry}
use Rattle.lv_plain.specs.declared.event.Event.{Event}
use Rattle.lv_plain.specs.declared.program.Program.{Program}
use Rattle.lv_plain.specs.Events.{schedule}
use Rattle.lv_plain.specs.Following.{IsFollowable}
use Rattle.lv_plain.specs.Legal.{Legal, after, begun, events_of}
use Rattle.lv_plain.specs.Programs.{Places, all_answered}
use Rattle.lv_plain.specs.Rules.{Rules}
use Rattle.lv_journal.specs.Standing.{RecordsIn}
use Rattle.lv_journal.proofs.Meaning.{told_in}
use Rattle.lv_record.specs.Spelling.{spelling}
use Rattle.lv_recover.specs.Opening.{OpensAs}
use Rattle.lv_replay.specs.Replayed as replay
use Rattle.lv_schema.specs.declared.rec.Rec.{Rec}
use Rattle.lv_schema.specs.World.{World}
use Rattle.lv_words.specs.declared.words.Words.{Words as SaidWords}
use Rattle.lv_runner.specs.declared.status.Status.{Status}
use Rattle.lv_runner.specs.declared.status.Status.TheVariants.{Done, Words, Script, SourceFault, SinkFault, BadJournal, OpenFault, NoMemory}
use Rattle.lv_runner.specs.Begun.{EndsOver, HasBegun}
use Rattle.lv_runner.specs.Following.{EndsAt, GoesOn, HasCome, HasFollowed, HasRun, HasStopped, names_now}
use Rattle.lv_runner.specs.Late.{EndsSummed, EndsThreaded, HasRunBy, HasSummed, HasThreaded, IsAnswered, output_now}
use Rattle.lv_runner.specs.Opened.{IsOpened}
use Rattle.lv_runner.specs.Output.{AreInOrder, begin_state, end_state, failures_in, names_after, names_of, output_by, output_of, run_rules, settings_in}
use Rattle.lv_runner.specs.Written.{AreFirst, HasPart, HasWritten, HasWrittenPart, is_at_end}
use Rattle.lv_runner.proofs.Crashes.{CrashLaw, leaves_none}
use Rattle.lv_runner.proofs.LateRuns.{on_and_on}
use Rattle.lv_runner.proofs.Worlds.{IsFrom, first_is, from_opened, has_entries, rules_are}

abbrev pub PlacesLaw : Type 0
PlacesLaw = (rules : Rules) (w : World) (es : List Entry) → (after rules (begun rules w) es).places ≡ places_after rules.program (events_of rules (begun rules w) es)

abbrev pub AnsweredLaw : Type 0
AnsweredLaw = (p : Program) → IsFollowable p → all_answered p (places_after p (schedule p)) ≡ true

-- ---- when the output is written
at_end_with : (w : SaidWords) (threads : Bool) (made : Option ℕ) → w.threads ≡ threads → w.make ≡ made → is_at_end w ≡ threads || is_some made
at_end_with w threads made t m i = t i || is_some (m i)

module _ {D : Type 0} (seen : D → Option (List ℕ)) (may_leave : D → List ℕ → Type 0) (moment : D → ℕ) (left_since : D → ℕ → List ℕ → Type 0) (failures : D → ℕ) where
  module _ (w : SaidWords) (told : Option (List ℕ)) (bytes : List ℕ) (p : Program) (script : script_of bytes ≡ Ok p) (recs : List Rec) (count : ℕ) (c : CoreView D)
      (run : IsRun seen may_leave moment left_since failures c) (from : IsFrom seen may_leave moment left_since failures w p recs count c) (opens : IfSome told (λ f. OpensAs f recs)) where
    abbrev opened : World
    opened = replay.state_of recs

    abbrev opened_is : IsOpened told opened
    opened_is = record { recs = recs; opens = opens; apply = from.apply; is = refl }

    rules : rules_of c.settings c.program ≡ run_rules w p
    rules = rules_are seen may_leave moment left_since failures w p recs count c run from

    first : first_state c ≡ begin_state w p opened
    first = first_is seen may_leave moment left_since failures w p recs count c run from

    legal : Legal (run_rules w p) (begin_state w p opened) c.entries
    legal =
        subst (λ v. Legal (run_rules w p) (begun (run_rules w p) v) c.entries) from.world
        (subst (λ r. Legal r (begun r (world_of c.opened)) c.entries) rules run.legal)

    pub events_are : events_of (rules_of c.settings c.program) (first_state c) c.entries ≡ events_of (run_rules w p) (begin_state w p opened) c.entries
    events_are i = events_of (rules i) (first i) c.entries

    names : names_now c ≡ names_after w p opened c.entries
    names i = names_of (from.program i) (after (rules i) (first i) c.entries).world.visible

    output_is : (made : Option ℕ) → w.make ≡ made → output_now made c ≡ output_of w p opened c.entries
    output_is made m i = output_by (sym m i) (names i) (from.program i) c.entries

    -- no statement is left where the core has none left, or where the whole schedule has come
    pub left_none : IsAnswered c → all_answered p (end_state w p opened c.entries).places ≡ true
    left_none answered =
        let places : c.places ≡ (end_state w p opened c.entries).places = run.places_are ∙ (λ i. (after (rules i) (first i) c.entries).places) in
        subst (λ (q : Places). all_answered p q ≡ true) places (subst (λ (q : Program). all_answered q c.places ≡ true) from.program answered)

    pub all_came : PlacesLaw → AnsweredLaw → IsFollowable p → HasFollowed c (schedule p) → all_answered p (end_state w p opened c.entries).places ≡ true
    all_came places answered followable followed =
        let events : events_of (run_rules w p) (begin_state w p opened) c.entries ≡ schedule p = sym events_are ∙ followed.events_are in
        subst (λ (q : Places). all_answered p q ≡ true) (sym (places (run_rules w p) opened c.entries ∙ ap (places_after p) events)) (answered p followable)

    pub wrote_all : (made : Option ℕ) → w.make ≡ made → all_answered p (end_state w p opened c.entries).places ≡ true
        → AreInOrder w.threads p (events_of (run_rules w p) (begin_state w p opened) c.entries)
        → (written0 written1 : Option (List ℕ)) → Appends written0 written1 (output_now made c) → HasWritten seen may_leave moment left_since failures w told bytes written0 written1 count c.engine.journal.disk
    wrote_all made m answered order written0 written1 wrote = record {
      opened = opened;
      opens = opened_is;
      failures = failures_in c.entries;
      text = output_of w p opened c.entries;
      gives = record {
        program = p;
        script = script;
        entries = c.entries;
        whole = record { legal = legal; answered = answered };
        order = order;
        failures_are = refl;
        text_is = refl;
      };
      wrote = subst (Appends written0 written1) (output_is made m) wrote;
      has = has_entries seen may_leave moment left_since failures w p recs count c run from;
    }

    pub wrote_part : AreFirst w.threads p (events_of (run_rules w p) (begin_state w p opened) c.entries)
        → (written0 written1 : Option (List ℕ)) → HasPart (is_at_end w) w p opened c.entries written0 written1 → HasWrittenPart seen may_leave moment left_since failures w told bytes written0 written1 count c.engine.journal.disk
    wrote_part order written0 written1 wrote = record {
      program = p;
      script = script;
      opened = opened;
      opens = opened_is;
      entries = c.entries;
      legal = legal;
      order = order;
      wrote = wrote;
      has = has_entries seen may_leave moment left_since failures w p recs count c run from;
    }

    -- a front of the whole output
    pub front_of_all : (made : Option ℕ) → w.make ≡ made → is_at_end w ≡ true → all_answered p (end_state w p opened c.entries).places ≡ true
        → (written0 written1 : Option (List ℕ)) → AppendsFront written0 written1 (output_now made c) → HasPart (is_at_end w) w p opened c.entries written0 written1
    front_of_all made m late answered written0 written1 wrote =
        subst (λ b. HasPart b w p opened c.entries written0 written1) (sym late)
        (inr (record { answered = answered; wrote = subst (AppendsFront written0 written1) (output_is made m) wrote }))

    pub nothing_yet : is_at_end w ≡ true → (written0 written1 : Option (List ℕ)) → Keeps written0 written1 → HasPart (is_at_end w) w p opened c.entries written0 written1
    nothing_yet late written0 written1 kept = subst (λ b. HasPart b w p opened c.entries written0 written1) (sym late) (inl kept)

    -- whole texts, and a front of one more
    pub front_of_next : is_at_end w ≡ false → (written0 written1 : Option (List ℕ)) → HasStopped c (schedule p) written0 written1 → HasPart (is_at_end w) w p opened c.entries written0 written1
    front_of_next late written0 written1 stopped =
        subst (λ b. HasPart b w p opened c.entries written0 written1) (sym late)
        (record {
          whole = stopped.entries;
          next = stopped.next;
          are = sym stopped.are;
          one = stopped.one;
          front = stopped.front;
          wrote = subst (Appends written0 written1) (λ i. text_of (names i) stopped.entries ++ take stopped.front (text_of (names i) stopped.next)) stopped.wrote;
        })

    -- without threads the events are those of the schedule, or the first of them
    pub in_order : w.threads ≡ false → HasFollowed c (schedule p) → AreInOrder w.threads p (events_of (run_rules w p) (begin_state w p opened) c.entries)
    in_order t followed = subst (λ b. AreInOrder b p (events_of (run_rules w p) (begin_state w p opened) c.entries)) (sym t) (sym events_are ∙ followed.events_are)

    pub are_first : w.threads ≡ false → (k : ℕ) → HasFollowed c (take k (schedule p)) → AreFirst w.threads p (events_of (run_rules w p) (begin_state w p opened) c.entries)
    are_first t k followed =
        subst (λ b. AreFirst b p (events_of (run_rules w p) (begin_state w p opened) c.entries)) (sym t)
        (drop k (schedule p), ap (λ events. events ++ drop k (schedule p)) (sym events_are ∙ followed.events_are) ∙ take-append-drop k (schedule p))

    pub all_first : w.threads ≡ false → HasFollowed c (schedule p) → AreFirst w.threads p (events_of (run_rules w p) (begin_state w p opened) c.entries)
    all_first t followed =
        subst (λ b. AreFirst b p (events_of (run_rules w p) (begin_state w p opened) c.entries)) (sym t)
        ([], append-nil (events_of (run_rules w p) (begin_state w p opened) c.entries) ∙ (sym events_are ∙ followed.events_are))

    pub in_threads : w.threads ≡ true → AreInOrder w.threads p (events_of (run_rules w p) (begin_state w p opened) c.entries)
    in_threads t = subst (λ b. AreInOrder b p (events_of (run_rules w p) (begin_state w p opened) c.entries)) (sym t) tt

    pub first_in_threads : w.threads ≡ true → AreFirst w.threads p (events_of (run_rules w p) (begin_state w p opened) c.entries)
    first_in_threads t = subst (λ b. AreFirst b p (events_of (run_rules w p) (begin_state w p opened) c.entries)) (sym t) tt

  -- ---- how a run ends over the engine that it began with
  module _ (w : SaidWords) (told : Option (List ℕ)) (bytes : List ℕ) (p : Program) (count : ℕ) (e : EngineView D) (begun_ : HasBegun seen may_leave moment left_since failures told bytes p count e)
      (crash_law : CrashLaw) (fresh : IsOpening e) (written0 written1 : Option (List ℕ)) (is_flushed : Bool) (faults0 faults1 : ℕ) where
    abbrev Over : Status → Option D → Type 0
    Over status back = EndsOver seen may_leave moment left_since failures w told bytes count written0 written1 is_flushed faults0 faults1 status back

    abbrev opens : IfSome told (λ f. OpensAs f begun_.recs)
    opens = begun_.reopened.opens

    -- a core that was just made, and goes on
    later : (old new : CoreView D) → old.program ≡ p → old.settings ≡ settings_in w → old.opened ≡ e → GoesOn old new → IsFrom seen may_leave moment left_since failures w p begun_.recs count new
    later old new program settings opened_ same =
        from_opened seen may_leave moment left_since failures w told bytes p count e begun_ crash_law fresh new (same.program ∙ program) (same.settings ∙ settings) (same.opened ∙ opened_)

    -- ---- without threads
    module _ (places : PlacesLaw) (answered : AnsweredLaw) (followable : IsFollowable p) (alone : w.threads ≡ false) where
      module _ (c : CoreView D) (run : IsRun seen may_leave moment left_since failures c) (from : IsFrom seen may_leave moment left_since failures w p begun_.recs count c) where
        part : (k : ℕ) → HasFollowed c (take k (schedule p)) → HasPart (is_at_end w) w p (replay.state_of begun_.recs) c.entries written0 written1
            → HasWrittenPart seen may_leave moment left_since failures w told bytes written0 written1 count c.engine.journal.disk
        part k followed wrote =
            wrote_part w told bytes p begun_.script begun_.recs count c run from opens (are_first w told bytes p begun_.script begun_.recs count c run from opens alone k followed) written0 written1 wrote

        stopped_part : w.make ≡ None → HasStopped c (schedule p) written0 written1 → HasWrittenPart seen may_leave moment left_since failures w told bytes written0 written1 count c.engine.journal.disk
        stopped_part m stopped =
            part stopped.count stopped.followed (front_of_next w told bytes p begun_.script begun_.recs count c run from opens (at_end_with w false None alone m) written0 written1 stopped)

        ordered_at : w.make ≡ None → (status : Status) → EndsAt seen may_leave moment left_since failures c (schedule p) written0 written1 is_flushed faults0 faults1 status → Over status (Some c.engine.journal.disk)
        ordered_at m Done ends = (
          wrote_all w told bytes p begun_.script begun_.recs count c run from opens None m
              (all_came w told bytes p begun_.script begun_.recs count c run from opens places answered followable ends.0)
              (in_order w told bytes p begun_.script begun_.recs count c run from opens alone ends.0) written0 written1 ends.1,
          ends.2,
        )
        ordered_at m Words ends = absurd ends
        ordered_at m (Script line kind) ends = absurd ends
        ordered_at m SourceFault ends = absurd ends
        ordered_at m SinkFault ends = (stopped_part m ends.0, ends.1)
        ordered_at m (BadJournal offset) ends = absurd ends
        ordered_at m OpenFault ends = absurd ends
        ordered_at m NoMemory ends = stopped_part m ends

        front_part : (n : ℕ) → w.make ≡ Some n → HasFollowed c (schedule p) → AppendsFront written0 written1 (output_now (Some n) c) → HasWrittenPart seen may_leave moment left_since failures w told bytes written0 written1 count c.engine.journal.disk
        front_part n m followed wrote =
            wrote_part w told bytes p begun_.script begun_.recs count c run from opens (all_first w told bytes p begun_.script begun_.recs count c run from opens alone followed) written0 written1
            (front_of_all w told bytes p begun_.script begun_.recs count c run from opens (Some n) m (at_end_with w false (Some n) alone m)
            (all_came w told bytes p begun_.script begun_.recs count c run from opens places answered followable followed) written0 written1 wrote)

        short_summed : (n : ℕ) → w.make ≡ Some n → (HasCome c (schedule p) × Keeps written0 written1) ⊎ (HasFollowed c (schedule p) × AppendsFront written0 written1 (output_now (Some n) c))
            → HasWrittenPart seen may_leave moment left_since failures w told bytes written0 written1 count c.engine.journal.disk
        short_summed n m (inl h) =
            part h.0.count h.0.followed (nothing_yet w told bytes p begun_.script begun_.recs count c run from opens (at_end_with w false (Some n) alone m) written0 written1 h.1)
        short_summed n m (inr h) = front_part n m h.0 h.1

        summed_at : (n : ℕ) → w.make ≡ Some n → (status : Status) → EndsSummed seen may_leave moment left_since failures (Some n) c (schedule p) written0 written1 is_flushed faults0 faults1 status
            → Over status (Some c.engine.journal.disk)
        summed_at n m Done ends = (
          wrote_all w told bytes p begun_.script begun_.recs count c run from opens (Some n) m
              (all_came w told bytes p begun_.script begun_.recs count c run from opens places answered followable ends.0)
              (in_order w told bytes p begun_.script begun_.recs count c run from opens alone ends.0) written0 written1 ends.1,
          ends.2,
        )
        summed_at n m Words ends = absurd ends
        summed_at n m (Script line kind) ends = absurd ends
        summed_at n m SourceFault ends = absurd ends
        summed_at n m SinkFault ends = (front_part n m ends.0 ends.1, ends.2)
        summed_at n m (BadJournal offset) ends = absurd ends
        summed_at n m OpenFault ends = absurd ends
        summed_at n m NoMemory ends = short_summed n m ends

      module _ (old : CoreView D) (events : List Event) (status : Status) (back : Option D) (program : old.program ≡ p) (settings : old.settings ≡ settings_in w) (opened_ : old.opened ≡ e)
          (are : events ≡ schedule p) where
        ends_ordered : w.make ≡ None → HasRun seen may_leave moment left_since failures old events written0 written1 is_flushed faults0 faults1 status back → Over status back
        ends_ordered m ran =
            let ends = subst (λ es. EndsAt seen may_leave moment left_since failures ran.new es written0 written1 is_flushed faults0 faults1 status) are ran.ends in
            subst (Over status) (sym ran.disk) (ordered_at ran.new ran.run (later old ran.new program settings opened_ ran.same) m status ends)

        ends_summed : (n : ℕ) → w.make ≡ Some n → HasSummed seen may_leave moment left_since failures (Some n) old events written0 written1 is_flushed faults0 faults1 status back → Over status back
        ends_summed n m ran =
            let ends = subst (λ es. EndsSummed seen may_leave moment left_since failures (Some n) ran.new es written0 written1 is_flushed faults0 faults1 status) are ran.ends in
            subst (Over status) (sym ran.disk) (summed_at ran.new ran.run (later old ran.new program settings opened_ ran.same) n m status ends)

        ends_by : (made : Option ℕ) → w.make ≡ made → HasRunBy seen may_leave moment left_since failures made old events written0 written1 is_flushed faults0 faults1 status back → Over status back
        ends_by None m ran = ends_ordered m ran
        ends_by (Some n) m ran = ends_summed n m ran

        pub ends_alone : HasRunBy seen may_leave moment left_since failures w.make old events written0 written1 is_flushed faults0 faults1 status back → Over status back
        ends_alone ran = ends_by w.make refl ran

    -- ---- in threads
    module _ (beside : w.threads ≡ true) (m : w.make ≡ None) where
      module _ (c : CoreView D) (run : IsRun seen may_leave moment left_since failures c) (from : IsFrom seen may_leave moment left_since failures w p begun_.recs count c) where
        beside_part : HasPart (is_at_end w) w p (replay.state_of begun_.recs) c.entries written0 written1 → HasWrittenPart seen may_leave moment left_since failures w told bytes written0 written1 count c.engine.journal.disk
        beside_part wrote =
            wrote_part w told bytes p begun_.script begun_.recs count c run from opens (first_in_threads w told bytes p begun_.script begun_.recs count c run from opens beside) written0 written1 wrote

        beside_front : IsAnswered c → AppendsFront written0 written1 (output_now None c) → HasWrittenPart seen may_leave moment left_since failures w told bytes written0 written1 count c.engine.journal.disk
        beside_front none wrote =
            beside_part
            (front_of_all w told bytes p begun_.script begun_.recs count c run from opens None m (at_end_with w true None beside m)
            (left_none w told bytes p begun_.script begun_.recs count c run from opens none) written0 written1 wrote)

        beside_all : IsAnswered c → Appends written0 written1 (output_now None c) → HasWritten seen may_leave moment left_since failures w told bytes written0 written1 count c.engine.journal.disk
        beside_all none wrote =
            wrote_all w told bytes p begun_.script begun_.recs count c run from opens None m (left_none w told bytes p begun_.script begun_.recs count c run from opens none)
            (in_threads w told bytes p begun_.script begun_.recs count c run from opens beside) written0 written1 wrote

        beside_short : Keeps written0 written1 ⊎ (IsAnswered c × AppendsFront written0 written1 (output_now None c)) → HasWrittenPart seen may_leave moment left_since failures w told bytes written0 written1 count c.engine.journal.disk
        beside_short (inl kept) = beside_part (nothing_yet w told bytes p begun_.script begun_.recs count c run from opens (at_end_with w true None beside m) written0 written1 kept)
        beside_short (inr h) = beside_front h.0 h.1

        threaded_at : (status : Status) → EndsThreaded seen may_leave moment left_since failures c written0 written1 is_flushed faults0 faults1 status → Over status (Some c.engine.journal.disk)
        threaded_at Done ends = (beside_all ends.0 ends.1, ends.2)
        threaded_at Words ends = absurd ends
        threaded_at (Script line kind) ends = absurd ends
        threaded_at SourceFault ends = absurd ends
        threaded_at SinkFault ends = (beside_front ends.0 ends.1, ends.2)
        threaded_at (BadJournal offset) ends = absurd ends
        threaded_at OpenFault ends = absurd ends
        threaded_at NoMemory ends = beside_short ends

      pub ends_beside : (old : CoreView D) (status : Status) (back : Option D) → old.program ≡ p → old.settings ≡ settings_in w → old.opened ≡ e
          → HasThreaded seen may_leave moment left_since failures old written0 written1 is_flushed faults0 faults1 status back → Over status back
      ends_beside old status back program settings opened_ ran = subst (Over status) (sym ran.disk) (threaded_at ran.new ran.run (later old ran.new program settings opened_ ran.same) status ran.ends)

  -- where no core was made
  module _ (w : SaidWords) (told : Option (List ℕ)) (bytes : List ℕ) (p : Program) (count : ℕ) (e : EngineView D) (begun_ : HasBegun seen may_leave moment left_since failures told bytes p count e) (only_now : (disk : D) (image : List ℕ) → left_since disk (moment disk) image → may_leave disk image) (written : Option (List ℕ)) where
    at_once_part : (b : Bool) → HasPart b w p (replay.state_of begun_.recs) [] written written
    at_once_part false = record { whole = []; next = []; are = refl; one = omega arith; front = 0; wrote = Appends-nil written }
    at_once_part true = inl (Keeps-refl written)

    none_first : (b : Bool) → AreFirst b p []
    none_first false = (schedule p, refl)
    none_first true = tt

    pub ends_at_once : HasWrittenPart seen may_leave moment left_since failures w told bytes written written count e.journal.disk
    ends_at_once =
        let stands = begun_.reopened.records.stands in
        record {
          program = p;
          script = begun_.script;
          opened = replay.state_of begun_.recs;
          opens = record { recs = begun_.recs; opens = begun_.reopened.opens; apply = begun_.reopened.apply; is = refl };
          entries = [];
          legal = tt;
          order = none_first w.threads;
          wrote = at_once_part (is_at_end w);
          has = record {
            records = record {
              doubt = None;
              has = subst (λ rs. IfSome (seen e.journal.disk) (RecordsIn (map spelling rs) None)) (sym (append-nil begun_.recs))
                  (told_in (map spelling begun_.recs) None (seen e.journal.disk) stands.payloads stands.doubtful stands.told);
              images = λ image left. subst (λ rs. RecordsIn (map spelling rs) None image) (sym (append-nil begun_.recs))
                  (told_in (map spelling begun_.recs) None (Some image) stands.payloads stands.doubtful (stands.images image left));
            };
            left = leaves_none seen may_leave moment left_since failures only_now e begun_.recs begun_.reopened.records begun_.reopened.apply;
            caused = omega (arith, begun_.counted);
          };
        }

  -- ---- how a run over a core ends
  module _ (old new : CoreView D) (events : List Event) (written0 written1 : Option (List ℕ)) (is_flushed : Bool) (faults0 faults1 : ℕ) (status : Status) (back : Option D) where
    pub has_run : IsRun seen may_leave moment left_since failures new → GoesOn old new → back ≡ Some new.engine.journal.disk → (s : Status) → status ≡ s
        → EndsAt seen may_leave moment left_since failures new events written0 written1 is_flushed faults0 faults1 s → HasRun seen may_leave moment left_since failures old events written0 written1 is_flushed faults0 faults1 status back
    has_run run same disk s is ends = record {
      new = new;
      run = run;
      same = same;
      disk = disk;
      ends = subst (EndsAt seen may_leave moment left_since failures new events written0 written1 is_flushed faults0 faults1) (sym is) ends;
    }

    pub has_summed : (made : Option ℕ) → IsRun seen may_leave moment left_since failures new → GoesOn old new → back ≡ Some new.engine.journal.disk → (s : Status) → status ≡ s
        → EndsSummed seen may_leave moment left_since failures made new events written0 written1 is_flushed faults0 faults1 s → HasSummed seen may_leave moment left_since failures made old events written0 written1 is_flushed faults0 faults1 status back
    has_summed made run same disk s is ends = record {
      new = new;
      run = run;
      same = same;
      disk = disk;
      ends = subst (EndsSummed seen may_leave moment left_since failures made new events written0 written1 is_flushed faults0 faults1) (sym is) ends;
    }

  pub has_threaded : (old new : CoreView D) (written0 written1 : Option (List ℕ)) (is_flushed : Bool) (faults0 faults1 : ℕ) (status : Status) (back : Option D)
      → IsRun seen may_leave moment left_since failures new → GoesOn old new → back ≡ Some new.engine.journal.disk → (s : Status) → status ≡ s
      → EndsThreaded seen may_leave moment left_since failures new written0 written1 is_flushed faults0 faults1 s → HasThreaded seen may_leave moment left_since failures old written0 written1 is_flushed faults0 faults1 status back
  has_threaded old new written0 written1 is_flushed faults0 faults1 status back run same disk s is ends = record {
    new = new;
    run = run;
    same = same;
    disk = disk;
    ends = subst (EndsThreaded seen may_leave moment left_since failures new written0 written1 is_flushed faults0 faults1) (sym is) ends;
  }

  -- a run that goes on from a later core goes on from an earlier one
  pub threaded_from : (old mid : CoreView D) (written0 written1 : Option (List ℕ)) (is_flushed : Bool) (faults0 faults1 : ℕ) (status : Status) (back : Option D) → GoesOn old mid
      → HasThreaded seen may_leave moment left_since failures mid written0 written1 is_flushed faults0 faults1 status back → HasThreaded seen may_leave moment left_since failures old written0 written1 is_flushed faults0 faults1 status back
  threaded_from old mid written0 written1 is_flushed faults0 faults1 status back on h = record { new = h.new; run = h.run; same = on_and_on old mid h.new on h.same; disk = h.disk; ends = h.ends }
