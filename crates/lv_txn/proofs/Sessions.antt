-- The snapshots of the live transactions, session by session.
use Rattle.std.proofs.Common.{◌≡◌, ℕ, zero, suc, ◌&&◌, ◌||◌, List, [], ◌∷◌, ◌++◌, ◌+◌, ◌<◌, take, length, get_or, Option, Some, None, refl, sym, ap, ◌∙◌, arith}
use Rattle.std.specs.Prelude.{min, nat_le, nat_lt}
use Rattle.std.specs.List.{list_any}
use Rattle.std.proofs.lemmas.List.{append-nil, take_more}
use Rattle.lv_schema.specs.StepPlans.{is_inside}
use Rattle.lv_schema.specs.World.{least}
use Rattle.lv_txn.specs.Kept.{TransactionKept, least_of, lesser, live_kept, snapshot_inside, NoneLiveFrom}

live_behind : (xs : List (Option TransactionKept)) (o : Option TransactionKept) → live_kept (xs ++ o ∷ []) ≡ live_kept xs ++ live_kept (o ∷ [])
live_behind [] o = refl
live_behind (None ∷ xs) o = live_behind xs o
live_behind (Some t ∷ xs) o = ap (λ l. t.snapshot ∷ l) (live_behind xs o)

least_behind : (n m : ℕ) (ns : List ℕ) → least n (ns ++ m ∷ []) ≡ min (least n ns) m
least_behind n m [] = omega arith
least_behind n m (x ∷ ns) = let e = least_behind n m ns in omega arith

pub least_next : (xs : List (Option TransactionKept)) (o : Option TransactionKept) → least_of (live_kept (xs ++ o ∷ [])) ≡ lesser (least_of (live_kept xs)) o
least_next xs o = ap least_of (live_behind xs o) ∙ by o (live_kept xs)
  where
    by : (o : Option TransactionKept) (ns : List ℕ) → least_of (ns ++ live_kept (o ∷ [])) ≡ lesser (least_of ns) o
    by None ns = ap least_of (append-nil ns)
    by (Some t) [] = refl
    by (Some t) (n ∷ ns) = ap Some (least_behind n t.snapshot ns)

pub inside_is : (from below : ℕ) (sessions : List (Option TransactionKept)) → list_any (snapshot_inside from below) sessions ≡ is_inside (live_kept sessions) from below
inside_is from below [] = refl
inside_is from below (None ∷ sessions) = inside_is from below sessions
inside_is from below (Some t ∷ sessions) = ap (λ b. (nat_le from t.snapshot && nat_lt t.snapshot below) || b) (inside_is from below sessions)

-- the live transactions are all among the first so many places
pub live_among : (sessions : List (Option TransactionKept)) (used : ℕ) → NoneLiveFrom used sessions → live_kept (take used sessions) ≡ live_kept sessions
live_among [] zero free = refl
live_among [] (suc used) free = refl
live_among (None ∷ sessions) zero free = live_among sessions zero (λ k le. free (suc k) (omega arith))
live_among (Some t ∷ sessions) zero free = let none = free zero (omega arith) in cc
live_among (None ∷ sessions) (suc used) free = live_among sessions used (λ k le. free (suc k) (omega arith))
live_among (Some t ∷ sessions) (suc used) free = ap (λ l. t.snapshot ∷ l) (live_among sessions used (λ k le. free (suc k) (omega arith)))

-- a loop's step
pub least_step : (sessions : List (Option TransactionKept)) (i : ℕ) (o : Option TransactionKept) (sofar next : Option ℕ) → i < length sessions → o ≡ get_or sessions i o → sofar ≡ least_of (live_kept (take i sessions)) → next ≡ lesser sofar o
    → next ≡ least_of (live_kept (take (i + 1) sessions))
least_step sessions i o sofar next lt is before now =
    now
    ∙ ap (λ (n : Option ℕ). lesser n o) before
    ∙ sym (least_next (take i sessions) o)
    ∙ ap (λ (l : List (Option TransactionKept)). least_of (live_kept l)) (sym (take_more sessions i o lt ∙ ap (λ (x : Option TransactionKept). take i sessions ++ x ∷ []) (sym is)))
