-- Each event of the schedule may happen when it comes, and at its end every statement is answered.
use Rattle.std.proofs.Common.{◌≡◌, ℕ, zero, suc, ◌+◌, ◌<◌, ◌≤◌, Bool, true, false, cond, not, ◌==◌, nat_lt, List, [], ◌∷◌, ◌++◌, length, replicate, slice_index, refl, ap, ◌∙◌, append_assoc, arith}
use Rattle.std.specs.List.{AllPass, count_by, flat_map, range_with_len}
use Rattle.std.proofs.lemmas.List.{get_or-replicate, length-replicate}
use Rattle.std.proofs.lemmas.List.FromFn.{get_or-range_with_len, length-range_with_len}
use Rattle.std.proofs.lemmas.List.Sums.{list_all-from_AllPass, sum_by-append, sum_by-cons}
use Rattle.lv_plain.specs.declared.program.Program.{Program}
use Rattle.lv_plain.specs.declared.event.Event.{Event}
use Rattle.lv_plain.specs.declared.event.Event.TheVariants.{Turn as turn_of, Fetch as fetch_of, Install as install_of, Release as release_of, Mark as mark_of, Clean as clean_up}
use Rattle.lv_plain.specs.Events.{item_events, left_over, rounds, schedule}
use Rattle.lv_plain.specs.Following.{IsFollowable}
use Rattle.lv_plain.specs.Legal.{MayHappen}
use Rattle.lv_plain.specs.Machine.{State}
use Rattle.lv_plain.specs.Programs.{Places, lines_of, session_count, first_places, has_more, may_turn, setup_answered, all_answered}
use Rattle.lv_plain.proofs.NamedEntries.{is_there}
use Rattle.lv_order.specs.Places.{places_after}
use Rattle.lv_order.proofs.Counting.{shows, place_counts, whole_count}
use Rattle.lv_order.proofs.Due.{IsDue, event_due}

-- the place of a session that is there is the number of its turns
place_is : (p : Program) (events : List Event) (s : ℕ) → s < session_count p → slice_index (places_after p events) s ≡ count_by (shows s) events
place_is p events s there =
    let low : s < length (first_places p) = rw (length-replicate {A = ℕ} (session_count p) 0) there in
    let none : slice_index (first_places p) s ≡ 0 = get_or-replicate {A = ℕ} (session_count p) s 0 0 there in
    rw (place_counts (first_places p) events s low, none) (omega arith)

-- before an event that is no turn of the setup all of the setup's have come
setup_before : (n : ℕ) (before : List Event) (event : Event) (behind : List Event) (rest : List Event) → shows 0 event ≡ false → before ++ event ∷ behind ≡ replicate n (turn_of 0) ++ rest
    → n ≤ count_by (shows 0) before
setup_before zero before event behind rest other all = omega arith
setup_before (suc n) [] event behind rest other all =
    let same : event ≡ turn_of 0 = cc in
    let is : shows 0 event ≡ true = ap (shows 0) same in
    absurd (cc)
setup_before (suc n) (b ∷ before) event behind rest other all =
    let same : b ≡ turn_of 0 = cc in
    let is : shows 0 b ≡ true = ap (shows 0) same in
    let tails : before ++ event ∷ behind ≡ replicate n (turn_of 0) ++ rest = cc in
    let later = setup_before n before event behind rest other tails in
    let first = sum_by-cons (λ x. cond (shows 0 x) 1 0) b before in
    grind (arith, is, later, first)

not_below : (a b : ℕ) → a ≡ b → not (nat_lt a b) ≡ true
not_below a b same = grind (arith, same)

module _ (p : Program) (followable : IsFollowable p) where
  none_left : (s : ℕ) → s < session_count p → not (has_more p (places_after p (schedule p)) s) ≡ true
  none_left s there = not_below (slice_index (places_after p (schedule p)) s) (length (lines_of p s)) (place_is p (schedule p) s there ∙ whole_count p followable s)

  pub all_come : all_answered p (places_after p (schedule p)) ≡ true
  all_come = list_all-from_AllPass (λ s. not (has_more p (places_after p (schedule p)) s)) (range_with_len 0 (session_count p)) each
    where
      each : AllPass (λ s. not (has_more p (places_after p (schedule p)) s)) (range_with_len 0 (session_count p))
      each k d lt =
          let low : k < session_count p = rw (length-range_with_len 0 (session_count p)) at lt in
          rw (get_or-range_with_len 0 (session_count p) k d low) (none_left (0 + k) (omega (arith, low)))

  module _ (before : List Event) (behind : List Event) where
    -- the setup is answered before another event
    setup_done : (event : Event) → before ++ event ∷ behind ≡ schedule p → shows 0 event ≡ false → setup_answered p (places_after p before) ≡ true
    setup_done event all other =
        let order = flat_map item_events p.order in
        let rest = rounds (range_with_len 1 (length p.sessions)) (left_over p) in
        let first = setup_before (length p.setup) before event behind (order ++ rest) other (all ∙ append_assoc (replicate (length p.setup) (turn_of 0)) order rest) in
        let place = place_is p before 0 (omega arith) in
        grind (arith, place, first)

    -- a session has a statement left before its turn
    one_left : (s : ℕ) → before ++ turn_of s ∷ behind ≡ schedule p → has_more p (places_after p before) s ≡ true
    one_left s all =
        let whole : count_by (shows s) (before ++ turn_of s ∷ behind) ≡ length (lines_of p s) = ap (count_by (shows s)) all ∙ whole_count p followable s in
        let parts = sum_by-append (λ x. cond (shows s x) 1 0) before (turn_of s ∷ behind) in
        let next = sum_by-cons (λ x. cond (shows s x) 1 0) (turn_of s) behind in
        let fewer : count_by (shows s) before < length (lines_of p s) = grind (arith, whole, parts, next) in
        let place = place_is p before s (is_there p s (omega (arith, fewer))) in
        grind (arith, place, fewer)

    turn_comes : (s : ℕ) → before ++ turn_of s ∷ behind ≡ schedule p → may_turn p (places_after p before) s ≡ true
    turn_comes s all = by (s == 0) refl
      where
        by : (t : Bool) → (s == 0) ≡ t → may_turn p (places_after p before) s ≡ true
        by true is = rw (one_left s all, is) refl
        by false is = let done = setup_done (turn_of s) all (grind arith) in rw (one_left s all, is, done) refl

    pub may_come : (s : State) (event : Event) → before ++ event ∷ behind ≡ schedule p → s.places ≡ places_after p before → MayHappen p s event
    may_come s event all at = by event all (event_due p followable before event behind all)
      where
        done : (event : Event) → before ++ event ∷ behind ≡ schedule p → shows 0 event ≡ false → setup_answered p s.places ≡ true
        done event all other = ap (setup_answered p) at ∙ setup_done event all other

        by : (event : Event) → before ++ event ∷ behind ≡ schedule p → IsDue event → MayHappen p s event
        by (turn_of session) all due = ap (λ (places : Places). may_turn p places session) at ∙ turn_comes session all
        by (fetch_of worker) all due = (due, done (fetch_of worker) all refl)
        by (install_of worker) all due = (due, done (install_of worker) all refl)
        by (release_of worker) all due = absurd due
        by (mark_of name) all due = (due, done (mark_of name) all refl)
        by clean_up all due = done clean_up all refl
