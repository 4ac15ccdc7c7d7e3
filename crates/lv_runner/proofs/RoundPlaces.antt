-- Places of sessions that take turns.
use Rattle.std.proofs.Common.{◌≡◌, ◌≢◌, ℕ, zero, suc, ◌+◌, ◌<◌, ◌≤◌, Bool, true, false, ◌==◌, ◌&&◌, ◌||◌, not, nat_lt, List, [], ◌∷◌, length, slice_index, slice_set, refl, ap, ◌∙◌, arith}
use Rattle.std.specs.List.{fold, list_all, range_with_len}
use Rattle.std.proofs.lemmas.Grind.{common_steps}
use Rattle.lv_order.specs.Places.{counted, one_more}
use Rattle.lv_plain.specs.declared.event.Event.{Event}
use Rattle.lv_plain.specs.declared.event.Event.TheVariants.{Turn as turn_of, Fetch as fetch_of, Install as install_of, Release as release_of, Mark as mark_of, Clean as clean_up}
use Rattle.lv_plain.specs.declared.program.Program.{Program}
use Rattle.lv_plain.specs.Programs.{Places, all_answered, has_more, lines_of, may_turn, session_count}

-- ---- there is a place for each session
length_counted : (places : Places) (event : Event) → length (counted places event) ≡ length places
length_counted places (turn_of session) = grind (arith, common_steps)
length_counted places (fetch_of worker) = refl
length_counted places (install_of worker) = refl
length_counted places (release_of worker) = refl
length_counted places (mark_of name) = refl
length_counted places clean_up = refl

pub length_after : (events : List Event) (places : Places) → length (fold counted places events) ≡ length places
length_after [] places = refl
length_after (e ∷ events) places = length_after events (counted places e) ∙ length_counted places e

-- ---- one more of a session
pub more_here : (places : Places) (session : ℕ) → session < length places → slice_index (one_more places session) session ≡ slice_index places session + 1
more_here places session lt = grind (arith, common_steps)

pub same_there : (places : Places) (session s x : ℕ) → s ≢ session → slice_index (slice_set places session x) s ≡ slice_index places s
same_there [] session s x apart = refl
same_there (y ∷ ys) zero zero x apart = absurd (apart refl)
same_there (y ∷ ys) zero (suc s) x apart = refl
same_there (y ∷ ys) (suc k) zero x apart = refl
same_there (y ∷ ys) (suc k) (suc s) x apart = same_there ys k s x (λ e. apart (ap suc e))

-- ---- where a session has nothing left
lt_false : (a b : ℕ) → nat_lt a b ≡ false → b ≤ a
lt_false a b h = grind (arith, common_steps)

pub none_left : (p : Program) (places : Places) (session : ℕ) → has_more p places session ≡ false → length (lines_of p session) ≤ slice_index places session
none_left p places session h = lt_false (slice_index places session) (length (lines_of p session)) h

pub left_none : (p : Program) (places : Places) (session : ℕ) → length (lines_of p session) ≤ slice_index places session → has_more p places session ≡ false
left_none p places session h = grind (arith, common_steps)

-- no turn may come of a session: it has nothing left, where the setup has nothing left
no_turn : (more first setup : Bool) → more && (first || not setup) ≡ false → setup ≡ false → more ≡ false
no_turn false first setup h s = refl
no_turn true true setup h s = absurd cc
no_turn true false true h s = absurd cc
no_turn true false false h s = absurd cc

pub waits : (p : Program) (places : Places) (session : ℕ) → may_turn p places session ≡ false → has_more p places 0 ≡ false → has_more p places session ≡ false
waits p places session h setup = no_turn (has_more p places session) (session == 0) (has_more p places 0) h setup

no_first : (more : Bool) → more && true ≡ false → more ≡ false
no_first false h = refl
no_first true h = absurd cc

pub setup_waits : (p : Program) (places : Places) → may_turn p places 0 ≡ false → has_more p places 0 ≡ false
setup_waits p places h = no_first (has_more p places 0) h

-- ---- where no session has one, every statement is answered
range_all : (P : ℕ → Bool) (low n : ℕ) → ((s : ℕ) → low ≤ s → s < low + n → P s ≡ true) → list_all P (range_with_len low n) ≡ true
range_all P low zero h = refl
range_all P low (suc n) h = both (P low) (list_all P (range_with_len (low + 1) n)) (h low (omega arith) (omega arith)) (range_all P (low + 1) n (λ s above below. h s (omega (arith, above)) (omega (arith, below))))
  where
    both : (a b : Bool) → a ≡ true → b ≡ true → a && b ≡ true
    both a b e f = ap (λ x. x && b) e ∙ f

pub all_left_none : (p : Program) (places : Places) → ((s : ℕ) → s < session_count p → has_more p places s ≡ false) → all_answered p places ≡ true
all_left_none p places h = range_all (λ s. not (has_more p places s)) 0 (session_count p) (λ s above below. ap not (h s (omega (arith, below))))
