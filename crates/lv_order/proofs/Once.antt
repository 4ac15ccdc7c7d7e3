-- The entries of a whole run answer each statement once.
use Rattle.std.proofs.Common.{◌≡◌, ◌⊎◌, ⊎_elim, inl, inr, ℕ, suc, ◌+◌, ◌<◌, ◌≤◌, Bool, true, false, not, ◌==◌, List, [], ◌∷◌, length, slice_index, refl, ap, ◌∙◌, subst, arith}
use Rattle.std.specs.Prelude.{Option, Some, None, if◌then◌else◌}
use Rattle.std.specs.List.{cons_option, filter_map, range_with_len}
use Rattle.std.proofs.lemmas.Grind.{common_steps}
use Rattle.std.proofs.lemmas.Bool.{and_parts}
use Rattle.std.proofs.lemmas.List.{get_or-replicate, length-replicate}
use Rattle.std.proofs.lemmas.List.FromFn.{get_or-range_with_len, length-range_with_len}
use Rattle.std.proofs.lemmas.List.Sums.{AllPass-from_list_all}
use Rattle.lv_schema.specs.Catalog.{view_named}
use Rattle.lv_schema.specs.UpkeepCases.{Fetched, busy, idle, fetched, Installed, empty, installed, moved, fetching, installing}
use Rattle.lv_schema.specs.World.{World}
use Rattle.lv_plain.specs.declared.entry.Entry.{Entry}
use Rattle.lv_plain.specs.declared.event.Event.{Event}
use Rattle.lv_plain.specs.declared.event.Event.TheVariants.{Turn as turn_of, Fetch as fetch_of, Install as install_of, Release as release_of, Mark as mark_of, Clean as clean_up}
use Rattle.lv_plain.specs.Legal.{Legal, MayComeBy, MayHappen, Whole, after, after_by, begun, event_of, shows_failure}
use Rattle.lv_plain.specs.Machine.{State, fetch_entry, give, install_entry, mark_by}
use Rattle.lv_plain.specs.Programs.{has_more, lines_of, may_turn, session_count}
use Rattle.lv_plain.specs.Rules.{Rules}
use Rattle.lv_order.specs.Once.{AnswerOnce, place_in}

module _ (rules : Rules) (session : ℕ) where
  abbrev at : State → ℕ
  at s = slice_index s.places session

  abbrev many : ℕ
  many = length (lines_of rules.program session)

  -- an entry of something else leaves the session where it is
  record Stays (s next : State) (e : Entry) : Type 0 where
    none : place_in session e ≡ None
    same : at next ≡ at s
    long : length next.places ≡ length s.places

  -- an entry of the session is that of its next statement
  record Moves (s next : State) (e : Entry) : Type 0 where
    some : place_in session e ≡ Some (at s + 1)
    more : at next ≡ at s + 1
    left : at s < many
    long : length next.places ≡ length s.places

  abbrev Goes : State → State → Entry → Type 0
  Goes s next e = Stays s next e ⊎ Moves s next e

  -- ---- what an event gives
  turns : (fails : Bool) (of : ℕ) (s : State) → may_turn rules.program s.places of ≡ true → session < length s.places → Goes s (give rules fails (turn_of of) s).next (give rules fails (turn_of of) s).entry
  turns fails of s may there = by (of == session) refl
    where
      first : has_more rules.program s.places of ≡ true
      first = (and_parts _ _ may).0

      by : (t : Bool) → (of == session) ≡ t → Goes s (give rules fails (turn_of of) s).next (give rules fails (turn_of of) s).entry
      by true is =
          let same : of ≡ session = grind (arith, is) in
          inr (record {
            some = ap (λ (t : Bool). if t then Some (slice_index s.places of + 1) else None) is ∙ ap (λ (k : ℕ). Some (slice_index s.places k + 1)) same;
            more = grind (arith, common_steps, same);
            left = grind (arith, same, first);
            long = grind (arith, common_steps);
          })
      by false is =
          inl (record {
            none = ap (λ (t : Bool). if t then Some (slice_index s.places of + 1) else None) is;
            same = grind (arith, common_steps, is);
            long = grind (arith, common_steps);
          })

  stays : (s next : State) (e : Entry) → place_in session e ≡ None → next.places ≡ s.places → Goes s next e
  stays s next e none same = inl (record { none = none; same = ap (λ (ps : List ℕ). slice_index ps session) same; long = ap length same })

  fetch_none : (fails : Bool) (worker : ℕ) (a : Fetched) → place_in session (fetch_entry rules fails worker a) ≡ None
  fetch_none fails worker busy = refl
  fetch_none fails worker idle = refl
  fetch_none fails worker (fetched f) = refl

  install_none : (fails : Bool) (worker : ℕ) (a : Installed) → place_in session (install_entry rules fails worker a) ≡ None
  install_none fails worker empty = refl
  install_none fails worker (installed f) = refl
  install_none fails worker (moved f point) = refl

  marks : (fails : Bool) (v : Option ℕ) (name : List ℕ) (s : State) → Goes s (mark_by rules fails v name s).next (mark_by rules fails v name s).entry
  marks fails None name s = stays s s _ refl refl
  marks fails (Some v) name s = stays s (mark_by rules fails (Some v) name s).next _ refl refl

  goes : (fails : Bool) (event : Event) (s : State) → MayHappen rules.program s event → session < length s.places → Goes s (give rules fails event s).next (give rules fails event s).entry
  goes fails (turn_of of) s may there = turns fails of s may there
  goes fails (fetch_of worker) s may there = stays s _ _ (fetch_none fails worker (fetching rules.settings worker s.world).0) refl
  goes fails (install_of worker) s may there = stays s _ _ (install_none fails worker (installing worker s.world.upkeep).0) refl
  goes fails (release_of worker) s may there = stays s _ _ refl refl
  goes fails (mark_of name) s may there = marks fails (view_named s.world.visible.views name) name s
  goes fails clean_up s may there = stays s _ _ refl refl

  -- ---- what entries show
  record Shown (s next : State) (es : List Entry) : Type 0 where
    count : ℕ
    places : filter_map (place_in session) es ≡ range_with_len (at s + 1) count
    ends : at next ≡ at s + count
    within : at next ≤ many

  shown_more : (s mid next : State) (e : Entry) (es : List Entry) → Goes s mid e → Shown mid next es → Shown s next (e ∷ es)
  shown_more s mid next e es step later = ⊎_elim stayed moved_on step
    where
      stayed : Stays s mid e → Shown s next (e ∷ es)
      stayed is = record {
        count = later.count;
        places = ap (λ (o : Option ℕ). cons_option o (filter_map (place_in session) es)) is.none ∙ later.places ∙ ap (λ (k : ℕ). range_with_len (k + 1) later.count) is.same;
        ends = later.ends ∙ ap (λ (k : ℕ). k + later.count) is.same;
        within = later.within;
      }

      moved_on : Moves s mid e → Shown s next (e ∷ es)
      moved_on is = record {
        count = suc later.count;
        places = ap (λ (o : Option ℕ). cons_option o (filter_map (place_in session) es)) is.some ∙ ap (λ (ps : List ℕ). (at s + 1) ∷ ps) (later.places ∙ ap (λ (k : ℕ). range_with_len (k + 1) later.count) is.more);
        ends = omega (arith, later.ends, is.more);
        within = later.within;
      }

  shown : (s : State) (es : List Entry) → Legal rules s es → session < length s.places → at s ≤ many → Shown s (after rules s es) es
  shown s [] legal there le = record { count = 0; places = refl; ends = omega arith; within = le }
  shown s (e ∷ es) legal there le = by (event_of s e) legal.0 legal.1 (λ next rest there le. shown next es rest there le)
    where
      by : (x : Option Event) → MayComeBy rules x s e → Legal rules (after_by rules x s e) es
          → ((next : State) → Legal rules next es → session < length next.places → at next ≤ many → Shown next (after rules next es) es) → Shown s (after rules (after_by rules x s e) es) (e ∷ es)
      by None may rest more = absurd may
      by (Some event) may rest more =
          let next = (give rules (shows_failure e) event s).next in
          let step : Goes s next e = subst (Goes s next) may.1 (goes (shows_failure e) event s may.0 there) in
          let there_next : session < length next.places = ⊎_elim (λ (is : Stays s next e). rw (is.long) there) (λ (is : Moves s next e). rw (is.long) there) step in
          let le_next : at next ≤ many = ⊎_elim (λ (is : Stays s next e). rw (is.same) le) (λ (is : Moves s next e). omega (arith, is.more, is.left)) step in
          shown_more s next (after rules next es) e es step (more next rest there_next le_next)

  answered : (opened : World) (es : List Entry) → Whole rules opened es → session < session_count rules.program → filter_map (place_in session) es ≡ range_with_len 1 many
  answered opened es whole there =
      let first = begun rules opened in
      let last = after rules first es in
      let none : at first ≡ 0 = get_or-replicate {A = ℕ} (session_count rules.program) session 0 0 there in
      let long : length first.places ≡ session_count rules.program = length-replicate {A = ℕ} (session_count rules.program) 0 in
      let all = shown first es whole.legal (rw (long) there) (rw (none) (omega arith)) in
      let low : session < length (range_with_len 0 (session_count rules.program)) = rw (length-range_with_len 0 (session_count rules.program)) there in
      let each = AllPass-from_list_all (λ s. not (has_more rules.program last.places s)) (range_with_len 0 (session_count rules.program)) whole.answered session 0 low in
      let number = get_or-range_with_len 0 (session_count rules.program) session 0 there in
      let same : 0 + session ≡ session = omega arith in
      let done : not (has_more rules.program last.places session) ≡ true = subst (λ (k : ℕ). not (has_more rules.program last.places k) ≡ true) (number ∙ same) each in
      let no_less : many ≤ at last = grind (arith, done) in
      let count : all.count ≡ many = omega (arith, all.ends, all.within, none, no_less) in
      all.places ∙ ap (λ (k : ℕ). range_with_len (k + 1) all.count) none ∙ ap (range_with_len 1) count

pub answer_once : (rules : Rules) (opened : World) (es : List Entry) → Whole rules opened es → AnswerOnce rules.program es
answer_once rules opened es whole = λ session there. answered rules session opened es whole there
