-- Events that come one after another.
use Rattle.std.proofs.Common.{◌≡◌, ℕ, zero, suc, ◌+◌, ◌<◌, List, [], ◌∷◌, ◌++◌, map, filter, replicate, length, get_or, take, drop, refl, sym, ap, subst, ◌∙◌, arith, true}
use Rattle.std.specs.Prelude.{nat_lt, Option}
use Rattle.std.specs.List.{AllByRecursion, flat_map, range_with_len}
use Rattle.std.proofs.lemmas.List.{take_more}
use Rattle.lv_core.specs.Run.{CoreView, Gave, IsRun, IsSame, first_state, rules_of, state_of}
use Rattle.lv_order.specs.Places.{places_after}
use Rattle.lv_order.proofs.Counting.{places_from}
use Rattle.lv_plain.specs.declared.entry.Entry.{Entry}
use Rattle.lv_plain.specs.declared.program.OrderItem.{OrderItem}
use Rattle.lv_plain.specs.declared.program.OrderItem.TheVariants as item
use Rattle.lv_plain.specs.declared.program.Program.{Program}
use Rattle.lv_plain.specs.declared.event.Event.{Event}
use Rattle.lv_plain.specs.declared.event.Event.TheVariants.{Turn as turn_of, Fetch as fetch_of, Install as install_of, Mark as mark_of, Clean as clean_up}
use Rattle.lv_plain.specs.Events.{greatest, item_events, left_over, round, rounds, schedule}
use Rattle.lv_plain.specs.Following.{IsFollowable}
use Rattle.lv_plain.specs.Legal.{MayHappen, events_by, events_of}
use Rattle.lv_plain.specs.Machine.{State, give}
use Rattle.lv_plain.specs.Programs.{Places, may_turn, setup_answered}
use Rattle.lv_plain.proofs.GivenEntries.{its_event}
use Rattle.lv_plain.proofs.LegalLaws.{events_of-append}
use Rattle.lv_schema.proofs.Apart.{all_append}
use Rattle.lv_runner.specs.Following.{GoesOn, HasFollowed, IsScheduled, MayFollow}

-- ---- each event of a schedule is one that is answered
abbrev AreScheduled : List Event → Type 0
AreScheduled = AllByRecursion IsScheduled

setup_scheduled : (n : ℕ) → AreScheduled (replicate n (turn_of 0))
setup_scheduled zero = tt
setup_scheduled (suc n) = (tt, setup_scheduled n)

item_scheduled : (i : OrderItem) → AreScheduled (item_events i)
item_scheduled (item.Turn session) = (tt, tt)
item_scheduled (item.Fetch worker) = (tt, tt)
item_scheduled (item.Install worker) = (tt, tt)
item_scheduled (item.Work worker) = (tt, (tt, tt))
item_scheduled (item.Mark view) = (tt, tt)
item_scheduled item.Clean = (tt, tt)

order_scheduled : (order : List OrderItem) → AreScheduled (flat_map item_events order)
order_scheduled [] = tt
order_scheduled (i ∷ order) = all_append IsScheduled (item_events i) (flat_map item_events order) (item_scheduled i) (order_scheduled order)

turns_scheduled : (sessions : List ℕ) → AreScheduled (map turn_of sessions)
turns_scheduled [] = tt
turns_scheduled (s ∷ sessions) = (tt, turns_scheduled sessions)

rounds_scheduled : (sessions : List ℕ) (left : ℕ → ℕ) (ks : List ℕ) → AreScheduled (flat_map (round sessions left) ks)
rounds_scheduled sessions left [] = tt
rounds_scheduled sessions left (k ∷ ks) =
    all_append IsScheduled (round sessions left k) (flat_map (round sessions left) ks) (turns_scheduled (filter (λ s. nat_lt k (left s)) sessions)) (rounds_scheduled sessions left ks)

schedule_scheduled : (p : Program) → AreScheduled (schedule p)
schedule_scheduled p =
    let setup = replicate (length p.setup) (turn_of 0) in
    let order = flat_map item_events p.order in
    let left = rounds (range_with_len 1 (length p.sessions)) (left_over p) in
    all_append IsScheduled (setup ++ order) left (all_append IsScheduled setup order (setup_scheduled (length p.setup)) (order_scheduled p.order))
    (rounds_scheduled (range_with_len 1 (length p.sessions)) (left_over p) (range_with_len 0 (greatest (map (left_over p) (range_with_len 1 (length p.sessions))))))

-- one of them
one_scheduled : (before : List Event) (event : Event) (behind events : List Event) → before ++ event ∷ behind ≡ events → AreScheduled events → IsScheduled event
one_scheduled before event behind events is all = at before (subst AreScheduled (sym is) all)
  where
    at : (xs : List Event) → AreScheduled (xs ++ event ∷ behind) → IsScheduled event
    at [] h = h.0
    at (x ∷ xs) h = at xs h.1

-- ---- each event of a schedule may happen when it comes
abbrev pub MayComeLaw : Type 0
MayComeLaw = (q : Program) (s : State) (before : List Event) (event : Event) (behind : List Event) → IsFollowable q → before ++ event ∷ behind ≡ schedule q → s.places ≡ places_after q before
    → MayHappen q s event

pub may_follow : (p : Program) (events : List Event) → MayComeLaw → IsFollowable p → events ≡ schedule p → MayFollow p events
may_follow p events law followable all s before event behind is at =
    (law p s before event behind followable (is ∙ all) at, one_scheduled before event behind events is (subst AreScheduled (sym all) (schedule_scheduled p)))

split : (xs : List Event) (i : ℕ) (d : Event) → i < length xs → take i xs ++ get_or xs i d ∷ drop (suc i) xs ≡ xs
split [] i d lt = absurd (omega arith)
split (y ∷ ys) zero d lt = refl
split (y ∷ ys) (suc i) d lt = ap (λ zs. y ∷ zs) (split ys i d (omega arith))

module _ {D : Type 0} (seen : D → Option (List ℕ)) (may_leave : D → List ℕ → Type 0) (moment : D → ℕ) (left_since : D → ℕ → List ℕ → Type 0) (failures : D → ℕ) where
  pub may_next : (p : Program) (c : CoreView D) (events : List Event) (i : ℕ) (d : Event) → MayFollow p events → c.program ≡ p → IsRun seen may_leave moment left_since failures c → HasFollowed c (take i events) → i < length events
      → MayHappen c.program (state_of c) (get_or events i d) × IsScheduled (get_or events i d)
  may_next p c events i d may is run followed lt =
      let places : (state_of c).places ≡ places_after c.program (take i events) = sym run.places_are ∙ followed.places in
      let may_here : MayFollow c.program events = subst (λ q. MayFollow q events) (sym is) may in
      may_here (state_of c) (take i events) (get_or events i d) (drop (suc i) events) (split events i d lt) places

  -- ---- what a core keeps: of no events, and of one more
  has_followed : (c : CoreView D) (events : List Event) → IsRun seen may_leave moment left_since failures c → events_of (rules_of c.settings c.program) (first_state c) c.entries ≡ events → HasFollowed c events
  has_followed c events run are = record {
    events_are = are;
    places = run.places_are ∙ (places_from (rules_of c.settings c.program) (first_state c) c.entries ∙ ap (places_after c.program) are);
  }

  pub followed_none : (c : CoreView D) (events : List Event) → IsRun seen may_leave moment left_since failures c → c.entries ≡ [] → HasFollowed c (take 0 events)
  followed_none c events run none = has_followed c [] run (ap (events_of (rules_of c.settings c.program) (first_state c)) none)

  -- the same run goes on from the same state
  pub first_same : (old new : CoreView D) → GoesOn old new → first_state new ≡ first_state old
  first_same old new on i = first_state (record old { settings = on.settings i; program = on.program i; opened = on.opened i })

  pub followed_more : (event : Event) (old new : CoreView D) (events : List Event) → Gave seen may_leave moment left_since failures event old new → HasFollowed old events → HasFollowed new (events ++ event ∷ [])
  followed_more event old new events gave followed = has_followed new (events ++ event ∷ []) gave.run are
    where
      given_entry : List Entry
      given_entry = (give (rules_of old.settings old.program) gave.fails event (state_of old)).entry ∷ []

      shows_event : events_of (rules_of old.settings old.program) (state_of old) given_entry ≡ event ∷ []
      shows_event = ap (λ o. events_by (rules_of old.settings old.program) o []) (its_event (rules_of old.settings old.program) gave.fails event (state_of old))

      first : first_state new ≡ first_state old
      first = first_same old new (record { program = gave.program; settings = gave.settings; opened = gave.opened })

      are : events_of (rules_of new.settings new.program) (first_state new) new.entries ≡ events ++ event ∷ []
      are =
          (λ i. events_of (rules_of (gave.settings i) (gave.program i)) (first i) (gave.entry i))
          ∙ (events_of-append (rules_of old.settings old.program) (first_state old) old.entries given_entry
          ∙ λ i. followed.events_are i ++ shows_event i)

  pub followed_next : (events : List Event) (i : ℕ) (d : Event) (old new : CoreView D) → i < length events → Gave seen may_leave moment left_since failures (get_or events i d) old new → HasFollowed old (take i events)
      → HasFollowed new (take (i + 1) events)
  followed_next events i d old new lt gave followed = subst (HasFollowed new) (sym (take_more events i d lt)) (followed_more (get_or events i d) old new (take i events) gave followed)

-- a run that met want of memory has followed the same events
pub followed_same : {D : Type 0} (old new : CoreView D) (events : List Event) → IsSame old new → HasFollowed old events → HasFollowed new events
followed_same old new events same followed = record {
  events_are =
      (λ i. events_of (rules_of (same.settings i) (same.program i)) (first_state (record old { settings = same.settings i; program = same.program i; opened = same.opened i })) (same.entries i))
      ∙ followed.events_are;
  places = same.places ∙ (followed.places ∙ ap (λ p. places_after p events) (sym same.program));
}

-- a turn may be asked of a core
pub turn_now : {D : Type 0} (c : CoreView D) (e : Event) (session : ℕ) → c.places ≡ (state_of c).places → MayHappen c.program (state_of c) e → e ≡ turn_of session → may_turn c.program c.places session ≡ true
turn_now c e session places may is =
    subst (λ (ps : Places). may_turn c.program ps session ≡ true) (sym places) (subst (MayHappen c.program (state_of c)) is may)

-- what a worker does, a mark and a clean-up, may be asked once the setup is answered
module _ {D : Type 0} (c : CoreView D) (places : c.places ≡ (state_of c).places) where
  answered_now : setup_answered c.program (state_of c).places ≡ true → setup_answered c.program c.places ≡ true
  answered_now h = subst (λ (ps : Places). setup_answered c.program ps ≡ true) (sym places) h

  pub fetch_now : (e : Event) (worker : ℕ) → MayHappen c.program (state_of c) e → e ≡ fetch_of worker → setup_answered c.program c.places ≡ true
  fetch_now e worker may is = answered_now (subst (MayHappen c.program (state_of c)) is may).1

  pub install_now : (e : Event) (worker : ℕ) → MayHappen c.program (state_of c) e → e ≡ install_of worker → setup_answered c.program c.places ≡ true
  install_now e worker may is = answered_now (subst (MayHappen c.program (state_of c)) is may).1

  pub mark_now : (e : Event) (name : List ℕ) → MayHappen c.program (state_of c) e → e ≡ mark_of name → setup_answered c.program c.places ≡ true
  mark_now e name may is = answered_now (subst (MayHappen c.program (state_of c)) is may).1

  pub clean_now : (e : Event) → MayHappen c.program (state_of c) e → e ≡ clean_up → setup_answered c.program c.places ≡ true
  clean_now e may is = answered_now (subst (MayHappen c.program (state_of c)) is may)

-- a run that met want of memory goes on
pub goes_on_same : {D : Type 0} (old new : CoreView D) → IsSame old new → GoesOn old new
goes_on_same old new same = record { program = same.program; settings = same.settings; opened = same.opened }
