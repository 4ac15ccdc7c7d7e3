-- The text of a run, entry by entry.
use Rattle.std.proofs.Common.{◌≡◌, ℕ, ◌+◌, ◌<◌, List, [], ◌∷◌, ◌++◌, length, get_or, take, sym, ap, ◌∙◌, subst, arith, inl, inr}
use Rattle.std.specs.Prelude.{Option, Result, Ok, Err, OnErr, OnOk}
use Rattle.std.specs.Io.KnownBytes.{Appends, Keeps}
use Rattle.std.proofs.KnownBytes.{Appends-kept, Appends-nil, Appends-trans}
use Rattle.std.proofs.lemmas.List.{append-nil, take_all}
use Rattle.lv_core.specs.Run.{CoreView, Gave, IsRun, IsSame, rules_of, state_of}
use Rattle.lv_lines.specs.declared.names.Names.{Names}
use Rattle.lv_lines.specs.Entries.{numbers_in_use}
use Rattle.lv_lines.specs.Transcript.{entry_text, text_of}
use Rattle.lv_outside.specs.Causes.{AppendsFront}
use Rattle.lv_plain.specs.declared.entry.Entry.{Entry}
use Rattle.lv_plain.specs.declared.event.Event.{Event}
use Rattle.lv_plain.specs.declared.program.Program.{Program}
use Rattle.lv_plain.specs.Fronts.{IsFront}
use Rattle.lv_plain.specs.Machine.{State, give}
use Rattle.lv_plain.specs.Named.{AreNamed}
use Rattle.lv_plain.proofs.Fronts.{given_grows}
use Rattle.lv_runner.specs.Following.{GoesOn, HasAnswered, HasBrokenOff, HasFollowed, HasStopped, HasStoppedAt, names_now, text_now}
use Rattle.lv_runner.specs.Output.{names_of}
use Rattle.lv_runner.proofs.Followed.{followed_next, followed_none, followed_same}
use Rattle.lv_runner.proofs.Named.{front_map, run_has_names}

-- ---- what is known of texts under more names, and of texts one behind another
abbrev pub MoreNamesLaw : Type 0
MoreNamesLaw = (names more : Names) (es : List Entry) → AreNamed (numbers_in_use names) es → names.sessions ≡ more.sessions
    → IsFront names.tables more.tables → IsFront names.views more.views → text_of names es ≡ text_of more es

abbrev pub JoinedLaw : Type 0
JoinedLaw = (names : Names) (es fs : List Entry) → text_of names (es ++ fs) ≡ text_of names es ++ text_of names fs

abbrev pub OneLaw : Type 0
OneLaw = (names : Names) (e : Entry) → text_of names (e ∷ []) ≡ entry_text names e

-- ---- after want of memory
module _ {D : Type 0} (old new : CoreView D) (same : IsSame old new) where
  state_same : state_of new ≡ state_of old
  state_same i = state_of (record old { settings = same.settings i; program = same.program i; opened = same.opened i; entries = same.entries i })

  pub names_same : names_now new ≡ names_now old
  names_same i = names_of (same.program i) (state_same i).world.visible

  pub text_same : text_now new ≡ text_now old
  text_same i = text_of (names_same i) (same.entries i)

  pub goes_on_same : GoesOn old new
  goes_on_same = record { program = same.program; settings = same.settings; opened = same.opened }

module _ {D : Type 0} (seen : D → Option (List ℕ)) (may_leave : D → List ℕ → Type 0) (moment : D → ℕ) (left_since : D → ℕ → List ℕ → Type 0) (failures : D → ℕ) where
  pub goes_on_gave : (event : Event) (old new : CoreView D) → Gave seen may_leave moment left_since failures event old new → GoesOn old new
  goes_on_gave event old new gave = record { program = gave.program; settings = gave.settings; opened = gave.opened }

  module _ (more : MoreNamesLaw) (event : Event) (old new : CoreView D) (run : IsRun seen may_leave moment left_since failures old) (gave : Gave seen may_leave moment left_since failures event old new) where
    -- the entries before have the same text under the names after an event
    before_same : text_of (names_now new) old.entries ≡ text_now old
    before_same = sym (more (names_now old) (names_now new) old.entries (run_has_names seen may_leave moment left_since failures old run) sessions tables views)
      where
        grown : IsFront (state_of old).world.visible.tables (state_of new).world.visible.tables × IsFront (state_of old).world.visible.views (state_of new).world.visible.views
        grown = subst (λ (s : State). IsFront (state_of old).world.visible.tables s.world.visible.tables × IsFront (state_of old).world.visible.views s.world.visible.views) (sym gave.state)
            (given_grows (rules_of old.settings old.program) gave.fails event (state_of old))

        sessions : (names_now old).sessions ≡ (names_now new).sessions
        sessions = ap (λ (p : Program). (names_of p (state_of old).world.visible).sessions) (sym gave.program)

        tables : IsFront (names_now old).tables (names_now new).tables
        tables = front_map (λ t. t.name) (state_of old).world.visible.tables (state_of new).world.visible.tables grown.0

        views : IsFront (names_now old).views (names_now new).views
        views = front_map (λ v. v.name) (state_of old).world.visible.views (state_of new).world.visible.views grown.1

    -- the text goes on with that of the new entry
    text_goes_on : JoinedLaw → OneLaw → (e : Entry) → new.entries ≡ old.entries ++ e ∷ [] → text_now new ≡ text_now old ++ entry_text (names_now new) e
    text_goes_on joined one e is =
        ap (text_of (names_now new)) is ∙ (joined (names_now new) old.entries (e ∷ []) ∙ λ i. before_same i ++ one (names_now new) e i)

  abbrev given : (event : Event) (old new : CoreView D) → Gave seen may_leave moment left_since failures event old new → Entry
  given event old new gave = (give (rules_of old.settings old.program) gave.fails event (state_of old)).entry

  -- what is written once an event is answered
  pub wrote_next : MoreNamesLaw → JoinedLaw → OneLaw → (event : Event) (old new : CoreView D) (written0 written written1 : Option (List ℕ)) → IsRun seen may_leave moment left_since failures old
      → Appends written0 written (text_now old) → HasAnswered seen may_leave moment left_since failures event old new written written1 → Appends written0 written1 (text_now new)
  wrote_next more joined one event old new written0 written written1 run before answered =
      let e = given event old new answered.gave in
      subst (Appends written0 written1) (sym (text_goes_on more event old new run answered.gave joined one e answered.gave.entry))
      (Appends-trans written0 written written1 (text_now old) (entry_text (names_now new) e) before (answered.wrote e answered.gave.entry))

  -- ---- where it stops
  stopped_same : (old new : CoreView D) (events : List Event) (i : ℕ) (written0 written written1 : Option (List ℕ)) → HasFollowed old (take i events) → Appends written0 written (text_now old)
      → IsSame old new → Keeps written written1 → HasStopped new events written0 written1
  stopped_same old new events i written0 written written1 followed before same kept = record {
    count = i;
    followed = followed_same old new (take i events) same followed;
    entries = new.entries;
    next = [];
    one = omega arith;
    are = sym (append-nil new.entries);
    front = 0;
    wrote = subst (Appends written0 written1) (sym (text_same old new same) ∙ sym (append-nil (text_now new))) (Appends-kept written0 written written1 (text_now old) before kept);
  }

  stopped_more : MoreNamesLaw → OneLaw → (events : List Event) (i : ℕ) (d : Event) (old new : CoreView D) (written0 written written1 : Option (List ℕ)) → IsRun seen may_leave moment left_since failures old → i < length events
      → HasFollowed old (take i events) → Appends written0 written (text_now old) → HasBrokenOff seen may_leave moment left_since failures (get_or events i d) old new written written1 → HasStopped new events written0 written1
  stopped_more more one events i d old new written0 written written1 run lt followed before broken =
      let event = get_or events i d in
      let e = given event old new broken.gave in
      let front = broken.wrote e broken.gave.entry in
      record {
        count = i + 1;
        followed = followed_next seen may_leave moment left_since failures events i d old new lt broken.gave followed;
        entries = old.entries;
        next = e ∷ [];
        one = omega arith;
        are = broken.gave.entry;
        front = front.count;
        wrote =
            subst (Appends written0 written1) (sym (λ j. before_same more event old new run broken.gave j ++ take front.count (one (names_now new) e j)))
            (Appends-trans written0 written written1 (text_now old) (take front.count (entry_text (names_now new) e)) before front.front);
      }

  pub stopped_at : MoreNamesLaw → OneLaw → (events : List Event) (i : ℕ) (d : Event) (old new : CoreView D) (written0 written written1 : Option (List ℕ)) → IsRun seen may_leave moment left_since failures old → i < length events
      → HasFollowed old (take i events) → Appends written0 written (text_now old) → HasStoppedAt seen may_leave moment left_since failures (get_or events i d) old new written written1 → HasStopped new events written0 written1
  stopped_at more one events i d old new written0 written written1 run lt followed before (inl same) = stopped_same old new events i written0 written written1 followed before same.0 same.1
  stopped_at more one events i d old new written0 written written1 run lt followed before (inr broken) =
      stopped_more more one events i d old new written0 written written1 run lt followed before broken

  pub goes_on_at : (event : Event) (old new : CoreView D) (written written1 : Option (List ℕ)) → HasStoppedAt seen may_leave moment left_since failures event old new written written1 → GoesOn old new
  goes_on_at event old new written written1 (inl same) = goes_on_same old new same.0
  goes_on_at event old new written written1 (inr broken) = goes_on_gave event old new broken.gave

-- ---- one event, answered and written
module _ {D : Type 0} (seen : D → Option (List ℕ)) (may_leave : D → List ℕ → Type 0) (moment : D → ℕ) (left_since : D → ℕ → List ℕ → Type 0) (failures : D → ℕ) where
  pub answered : {A E : Type 0} (r : Result A E) (event : Event) (old new : CoreView D) (written0 written1 : Option (List ℕ)) → Gave seen may_leave moment left_since failures event old new
      → ((es : List Entry) (e : Entry) → new.entries ≡ es ++ e ∷ [] → OnOk r (Appends written0 written1 (entry_text (names_now new) e)))
      → OnOk r (HasAnswered seen may_leave moment left_since failures event old new written0 written1)
  answered (Ok a) event old new written0 written1 gave wrote = record { gave = gave; wrote = λ e is. wrote old.entries e is }
  answered (Err x) event old new written0 written1 gave wrote = tt

  pub broken_off : {A E : Type 0} (r : Result A E) (event : Event) (old new : CoreView D) (written0 written1 : Option (List ℕ)) → Gave seen may_leave moment left_since failures event old new
      → ((es : List Entry) (e : Entry) → new.entries ≡ es ++ e ∷ [] → AppendsFront written0 written1 (entry_text (names_now new) e))
      → OnErr r (HasStoppedAt seen may_leave moment left_since failures event old new written0 written1)
  broken_off (Ok a) event old new written0 written1 gave wrote = tt
  broken_off (Err x) event old new written0 written1 gave wrote = inr (record { gave = gave; wrote = λ e is. wrote old.entries e is })

  -- ---- a run of no event
  pub stopped_first : (c : CoreView D) (events : List Event) (written : Option (List ℕ)) → IsRun seen may_leave moment left_since failures c → c.entries ≡ [] → HasStopped c events written written
  stopped_first c events written run none = record {
    count = 0;
    followed = followed_none seen may_leave moment left_since failures c events run none;
    entries = [];
    next = [];
    one = omega arith;
    are = none;
    front = 0;
    wrote = Appends-nil written;
  }

-- one run goes on, and then goes on again
pub goes_on_twice : {D : Type 0} (a b c : CoreView D) → GoesOn a b → GoesOn b c → GoesOn a c
goes_on_twice a b c f g = record { program = g.program ∙ f.program; settings = g.settings ∙ f.settings; opened = g.opened ∙ f.opened }

-- where all is written, and flushing it failed or is still to come
pub stopped_whole : {D : Type 0} (c : CoreView D) (events : List Event) (written0 written written1 : Option (List ℕ)) → HasFollowed c events → Appends written0 written (text_now c) → Keeps written written1
    → HasStopped c events written0 written1
stopped_whole c events written0 written written1 followed wrote kept = record {
  count = length events;
  followed = subst (HasFollowed c) (sym (take_all (length events) events (omega arith))) followed;
  entries = c.entries;
  next = [];
  one = omega arith;
  are = sym (append-nil c.entries);
  front = 0;
  wrote = subst (Appends written0 written1) (sym (append-nil (text_now c))) (Appends-kept written0 written written1 (text_now c) wrote kept);
}

-- no entry has no text
pub text_none : {D : Type 0} (c : CoreView D) (written : Option (List ℕ)) → c.entries ≡ [] → Appends written written (text_now c)
text_none c written none = subst (λ es. Appends written written (text_of (names_now c) es)) (sym none) (Appends-nil written)

-- what holds anyway holds of an error
pub on_err : {A E : Type 0} {P : Type 0} (r : Result A E) → P → OnErr r P
on_err (Ok a) p = tt
on_err (Err e) p = p
