-- How often each session's turn stands in the schedule.
use Rattle.std.proofs.Common.{◌≡◌, ◌≢◌, ℕ, zero, suc, ◌+◌, ◌-◌, ◌*◌, ◌<◌, ◌≤◌, min, Bool, true, false, cond, ◌==◌, nat_lt, List, [], ◌∷◌, ◌++◌, length, map, replicate, slice_index, refl, ap, ◌∙◌, arith}
use Rattle.std.specs.Prelude.{Option, Some, None}
use Rattle.std.specs.List.{All, count_by, filter, flat_map, fold, range_with_len}
use Rattle.std.proofs.lemmas.Grind.{common_steps}
use Rattle.std.proofs.lemmas.List.{get_or_past}
use Rattle.std.proofs.lemmas.List.Folds.{sum_by-replicate}
use Rattle.std.proofs.lemmas.List.Sums.{sum_by-append, sum_by-cons}
use Rattle.lv_schema.specs.Catalog.{view_named}
use Rattle.lv_plain.specs.declared.entry.Entry.{Entry}
use Rattle.lv_plain.specs.declared.program.OrderItem.{OrderItem}
use Rattle.lv_plain.specs.declared.program.OrderItem.TheVariants as item
use Rattle.lv_plain.specs.declared.program.Program.{Program}
use Rattle.lv_plain.specs.declared.program.Script.{Script}
use Rattle.lv_plain.specs.declared.event.Event.{Event}
use Rattle.lv_plain.specs.declared.event.Event.TheVariants.{Turn as turn_of, Fetch as fetch_of, Install as install_of, Release as release_of, Mark as mark_of, Clean as clean_up}
use Rattle.lv_plain.specs.Events.{item_events, is_turn_of, left_over, greatest, round, rounds, schedule}
use Rattle.lv_plain.specs.Following.{IsItem, IsFollowable}
use Rattle.lv_plain.specs.Legal.{after, after_by, after_entry, event_of, events_by, events_of, shows_failure}
use Rattle.lv_plain.specs.Machine.{State, give, mark_by}
use Rattle.lv_plain.specs.Programs.{Places, no_script, lines_of}
use Rattle.lv_plain.specs.Rules.{Rules}
use Rattle.lv_order.specs.Places.{counted}

-- places depend only on events
mark_places : (rules : Rules) (fails : Bool) (v : Option ℕ) (name : List ℕ) (s : State) → (mark_by rules fails v name s).next.places ≡ s.places
mark_places rules fails None name s = refl
mark_places rules fails (Some v) name s = refl

given_places : (rules : Rules) (fails : Bool) (event : Event) (s : State) → (give rules fails event s).next.places ≡ counted s.places event
given_places rules fails (turn_of session) s = refl
given_places rules fails (fetch_of worker) s = refl
given_places rules fails (install_of worker) s = refl
given_places rules fails (release_of worker) s = refl
given_places rules fails (mark_of name) s = mark_places rules fails (view_named s.world.visible.views name) name s
given_places rules fails clean_up s = refl

module _ (rules : Rules) where
  pub places_from : (s : State) (es : List Entry) → (after rules s es).places ≡ fold counted s.places (events_of rules s es)
  places_from s [] = refl
  places_from s (e ∷ es) = by (event_of s e) (places_from (after_entry rules s e) es)
    where
      Later : State → Type 0
      Later next = (after rules next es).places ≡ fold counted next.places (events_of rules next es)

      by : (x : Option Event) → Later (after_by rules x s e) → (after rules (after_by rules x s e) es).places ≡ fold counted s.places (events_by rules x (events_of rules (after_by rules x s e) es))
      by None later = later
      by (Some event) later = later ∙ ap (λ places. fold counted places (events_of rules (after_by rules (Some event) s e) es)) (given_places rules (shows_failure e) event s)

-- whether a turn is a session's
abbrev is_session : ℕ → ℕ → Bool
is_session s other = other == s

-- whether an event is a turn of a session
abbrev pub shows : ℕ → Event → Bool
shows s (turn_of other) = other == s
shows s (fetch_of worker) = false
shows s (install_of worker) = false
shows s (release_of worker) = false
shows s (mark_of view) = false
shows s clean_up = false

-- a session's place counts its turns
length-counted : (places : Places) (event : Event) → length (counted places event) ≡ length places
length-counted places (turn_of session) = grind (arith, common_steps)
length-counted places (fetch_of worker) = refl
length-counted places (install_of worker) = refl
length-counted places (release_of worker) = refl
length-counted places (mark_of name) = refl
length-counted places clean_up = refl

counted_at : (places : Places) (event : Event) (s : ℕ) → s < length places → slice_index (counted places event) s ≡ slice_index places s + cond (shows s event) 1 0
counted_at places (turn_of session) s lt = grind (arith, common_steps)
counted_at places (fetch_of worker) s lt = omega arith
counted_at places (install_of worker) s lt = omega arith
counted_at places (release_of worker) s lt = omega arith
counted_at places (mark_of name) s lt = omega arith
counted_at places clean_up s lt = omega arith

pub place_counts : (places : Places) (events : List Event) (s : ℕ) → s < length places → slice_index (fold counted places events) s ≡ slice_index places s + count_by (shows s) events
place_counts places [] s lt = grind (arith, common_steps)
place_counts places (event ∷ events) s lt =
    let there : s < length (counted places event) = omega (arith, lt, length-counted places event) in
    let rest = place_counts (counted places event) events s there in
    let first = counted_at places event s lt in
    let more = sum_by-cons (λ e. cond (shows s e) 1 0) event events in
    omega (arith, rest, first, more)

-- turns, and the events that they are
count_turns : (s : ℕ) (turns : List ℕ) → count_by (shows s) (map turn_of turns) ≡ count_by (is_session s) turns
count_turns s [] = refl
count_turns s (x ∷ turns) = grind (arith, common_steps, count_turns s turns)

-- the order's events
count_item : (s : ℕ) (it : OrderItem) (es : List Event) → count_by (shows s) (item_events it ++ es) ≡ cond (is_turn_of s it) 1 0 + count_by (shows s) es
count_item s (item.Turn session) es = sum_by-cons (λ e. cond (shows s e) 1 0) (turn_of session) es
count_item s (item.Fetch worker) es = omega arith
count_item s (item.Install worker) es = omega arith
count_item s (item.Work worker) es = omega arith
count_item s (item.Mark view) es = omega arith
count_item s (item.Clean) es = omega arith

count_order : (s : ℕ) (order : List OrderItem) → count_by (shows s) (flat_map item_events order) ≡ count_by (is_turn_of s) order
count_order s [] = refl
count_order s (it ∷ order) = rw (count_item s it (flat_map item_events order), count_order s order, sum_by-cons (λ x. cond (is_turn_of s x) 1 0) it order) refl

-- none of them is of the setup
not_setup : (it : OrderItem) → IsItem it → is_turn_of 0 it ≡ false
not_setup (item.Turn session) one = grind arith
not_setup (item.Fetch worker) w = refl
not_setup (item.Install worker) w = refl
not_setup (item.Work worker) w = refl
not_setup (item.Mark view) named = refl
not_setup (item.Clean) u = refl

none_of_setup : (order : List OrderItem) → All IsItem order → count_by (is_turn_of 0) order ≡ 0
none_of_setup [] all = refl
none_of_setup (it ∷ order) all =
    let first : is_turn_of 0 it ≡ false = not_setup it (all 0 it (omega arith)) in
    let rest = none_of_setup order (λ k d lt. all (suc k) d (omega arith)) in
    rw (first, rest) refl

-- of the sessions of a range that pass a test, one is this one, or none
none_below : (q : ℕ → Bool) (s a n : ℕ) → s < a → count_by (is_session s) (filter q (range_with_len a n)) ≡ 0
none_below q s a zero below = refl
none_below q s a (suc n) below = grind (arith, common_steps, none_below q s (a + 1) n (omega arith))

none_above : (q : ℕ → Bool) (s a n : ℕ) → a + n ≤ s → count_by (is_session s) (filter q (range_with_len a n)) ≡ 0
none_above q s a zero above = refl
none_above q s a (suc n) above = grind (arith, common_steps, none_above q s (a + 1) n (omega arith))

one_within : (q : ℕ → Bool) (s a n : ℕ) → a ≤ s → s < a + n → count_by (is_session s) (filter q (range_with_len a n)) ≡ cond (q s) 1 0
one_within q s a zero low high = absurd (omega arith)
one_within q s a (suc n) low high = by (a == s) refl (one_within q s (a + 1) n)
  where
    by : (t : Bool) → (a == s) ≡ t → (a + 1 ≤ s → s < a + 1 + n → count_by (is_session s) (filter q (range_with_len (a + 1) n)) ≡ cond (q s) 1 0)
        → count_by (is_session s) (filter q (range_with_len a (suc n))) ≡ cond (q s) 1 0
    by true is later =
        let here : a ≡ s = grind arith in
        let none : count_by (is_session s) (filter q (range_with_len (a + 1) n)) ≡ 0 = none_below q s (a + 1) n (omega arith) in
        grind (arith, common_steps, none, here)
    by false is later =
        let apart : a ≢ s = grind arith in
        let rest = later (omega arith) (omega arith) in
        grind (arith, common_steps, rest)

-- rounds: in all of them no turn, or one in each of the first
none_of_rounds : (s : ℕ) (f : ℕ → List Event) → ((k : ℕ) → count_by (shows s) (f k) ≡ 0) → (ks : List ℕ) → count_by (shows s) (flat_map f ks) ≡ 0
none_of_rounds s f none [] = refl
none_of_rounds s f none (k ∷ ks) = rw (sum_by-append (λ e. cond (shows s e) 1 0) (f k) (flat_map f ks), none k, none_of_rounds s f none ks) refl

one_of_each : (s : ℕ) (f : ℕ → List Event) (l : ℕ) → ((k : ℕ) → count_by (shows s) (f k) ≡ cond (nat_lt k l) 1 0)
    → (b m : ℕ) → count_by (shows s) (flat_map f (range_with_len b m)) ≡ min m (l - b)
one_of_each s f l one b zero = omega arith
one_of_each s f l one b (suc m) =
    rw (sum_by-append (λ e. cond (shows s e) 1 0) (f b) (flat_map f (range_with_len (b + 1) m)), one b, one_of_each s f l one (b + 1) m) (grind arith)

greatest_is : (f : ℕ → ℕ) (s a n : ℕ) → a ≤ s → s < a + n → f s ≤ greatest (map f (range_with_len a n))
greatest_is f s a zero low high = absurd (omega arith)
greatest_is f s a (suc n) low high = by (a == s) refl (greatest_is f s (a + 1) n)
  where
    by : (t : Bool) → (a == s) ≡ t → (a + 1 ≤ s → s < a + 1 + n → f s ≤ greatest (map f (range_with_len (a + 1) n))) → f s ≤ greatest (map f (range_with_len a (suc n)))
    by true is later = let here : a ≡ s = grind arith in grind (arith, common_steps, here)
    by false is later = let apart : a ≢ s = grind arith in let rest = later (omega arith) (omega arith) in grind (arith, common_steps, rest)

-- the rounds give each session of the range what is left of it, and no other anything
rounds_within : (left : ℕ → ℕ) (s n : ℕ) → 1 ≤ s → s < 1 + n → count_by (shows s) (rounds (range_with_len 1 n) left) ≡ left s
rounds_within left s n low high =
    let most = greatest_is left s 1 n low high in
    let each : (k : ℕ) → count_by (shows s) (round (range_with_len 1 n) left k) ≡ cond (nat_lt k (left s)) 1 0
    = λ k. count_turns s (filter (λ x. nat_lt k (left x)) (range_with_len 1 n)) ∙ one_within (λ x. nat_lt k (left x)) s 1 n low high in
    one_of_each s (round (range_with_len 1 n) left) (left s) each 0 (greatest (map left (range_with_len 1 n))) ∙ omega arith

rounds_of_setup : (left : ℕ → ℕ) (n : ℕ) → count_by (shows 0) (rounds (range_with_len 1 n) left) ≡ 0
rounds_of_setup left n =
    none_of_rounds 0 (round (range_with_len 1 n) left)
    (λ k. count_turns 0 (filter (λ x. nat_lt k (left x)) (range_with_len 1 n)) ∙ none_below (λ x. nat_lt k (left x)) 0 1 n (omega arith))
    (range_with_len 0 (greatest (map left (range_with_len 1 n))))

rounds_beyond : (left : ℕ → ℕ) (s n : ℕ) → 1 + n ≤ s → count_by (shows s) (rounds (range_with_len 1 n) left) ≡ 0
rounds_beyond left s n above =
    none_of_rounds s (round (range_with_len 1 n) left)
    (λ k. count_turns s (filter (λ x. nat_lt k (left x)) (range_with_len 1 n)) ∙ none_above (λ x. nat_lt k (left x)) s 1 n above)
    (range_with_len 0 (greatest (map left (range_with_len 1 n))))

-- the schedule by its parts
by_parts : (p : Program) (s : ℕ) → count_by (shows s) (schedule p)
    ≡ length p.setup * cond (0 == s) 1 0 + (count_by (is_turn_of s) p.order + count_by (shows s) (rounds (range_with_len 1 (length p.sessions)) (left_over p)))
by_parts p s =
    let f : Event → ℕ = λ e. cond (shows s e) 1 0 in
    let setup = replicate (length p.setup) (turn_of 0) in
    let order = flat_map item_events p.order in
    let rest = rounds (range_with_len 1 (length p.sessions)) (left_over p) in
    let whole : count_by (shows s) (schedule p) ≡ count_by (shows s) (setup ++ order) + count_by (shows s) rest = sum_by-append f (setup ++ order) rest in
    let parts : count_by (shows s) (setup ++ order) ≡ count_by (shows s) setup + count_by (shows s) order = sum_by-append f setup order in
    let first : count_by (shows s) setup ≡ length p.setup * cond (0 == s) 1 0 = sum_by-replicate f (length p.setup) (turn_of 0) in
    let second = count_order s p.order in
    omega (arith, whole, parts, first, second)

-- each session has as many turns as it has statements
pub whole_count : (p : Program) → IsFollowable p → (s : ℕ) → count_by (shows s) (schedule p) ≡ length (lines_of p s)
whole_count p followable zero =
    let parts = by_parts p 0 in
    let order = none_of_setup p.order followable.items in
    let last = rounds_of_setup (left_over p) (length p.sessions) in
    rw (parts, order, last) (omega arith)
whole_count p followable (suc i) = by (nat_lt i (length p.sessions)) refl
  where
    most : count_by (is_turn_of (suc i)) p.order ≤ length (lines_of p (suc i))
    most = followable.turns (suc i) (omega arith)

    by : (t : Bool) → nat_lt i (length p.sessions) ≡ t → count_by (shows (suc i)) (schedule p) ≡ length (lines_of p (suc i))
    by true is =
        let last = rounds_within (left_over p) (suc i) (length p.sessions) (omega arith) (grind arith) in
        rw (by_parts p (suc i), last) (grind (arith, most))
    by false is =
        let last = rounds_beyond (left_over p) (suc i) (length p.sessions) (grind arith) in
        let none : length (lines_of p (suc i)) ≡ 0 = ap (λ (script : Script). length script.lines) (get_or_past p.sessions i no_script (grind arith)) in
        rw (by_parts p (suc i), last) (grind (arith, most, none))
