-- Differences of views that are pending: what the views show with them, and their install.
use Rattle.std.proofs.Common.{◌≡◌, ℕ, zero, suc, ◌+◌, ◌<◌, ◌≤◌, Bool, true, false, List, [], ◌∷◌, ◌++◌, length, refl, sym, ap, ◌∙◌, subst, arith}
use Rattle.std.specs.Prelude.{◌==◌, slice_set}
use Rattle.std.proofs.lemmas.Bool.Decides.{nat_tests}
use Rattle.std.proofs.lemmas.List.{get_or-set_other, get_or-set_same}
use Rattle.lv_schema.specs.declared.signed.SignedRow.{SignedRow}
use Rattle.lv_viewrows.specs.Changed.{CanInstall, groups_with}
use Rattle.lv_viewrows.specs.Kept.{ViewKept, groups_at, rows_listed, shown}
use Rattle.lv_store.specs.declared.pending.Difference.{Difference}
use Rattle.lv_store.specs.Pending.{AllTake, AreUpTo, CanAllTake, CanTakeEach, TakesEach, changed_rows, pending_at}
use Rattle.lv_store.specs.Querying.{OnlyRoom, RowsInstall}
use Rattle.lv_store.specs.Kept.{no_rows, rows_in}
use Rattle.lv_store.proofs.Steps.{any_room, any_room_installs}

-- ---- one of the views is another one
pub is_same : (a b : ℕ) → (a == b) ≡ true → a ≡ b
is_same a b e = grind (arith, nat_tests)

pub is_other : (a b : ℕ) → (a == b) ≡ false → a ≡ b → ⊥
is_other a b e same = let test : (a == b) ≡ true = grind (arith, nat_tests) in differ (sym test ∙ e)
  where
    differ : true ≡ false → ⊥
    differ z = cc

pub set_each : (P : ℕ → ViewKept → Type 0) (rows : List ViewKept) (at : ℕ) (k : ViewKept) → at < length rows → P at k → ((v : ℕ) → v < length rows → (v ≡ at → ⊥) → P v (rows_in rows v))
    → (v : ℕ) → v < length rows → P v (rows_in (slice_set rows at k) v)
set_each P rows at k inside here others v lt = by (v == at) refl
  where
    by : (b : Bool) → (v == at) ≡ b → P v (rows_in (slice_set rows at k) v)
    by true e =
        let same = is_same v at e in
        subst (λ n. P n (rows_in (slice_set rows at k) n)) (sym same) (subst (P at) (sym (get_or-set_same rows at k no_rows inside)) here)
    by false e =
        let other = is_other v at e in
        subst (P v) (sym (get_or-set_other rows at v k no_rows other)) (others v lt other)

-- ---- room
pub can_any_room : (floor : ℕ) (ds : List Difference) (a b : ViewKept) → b ≡ record a { spare = b.spare } → CanTakeEach floor ds a → CanTakeEach floor ds b
can_any_room floor [] a b is h = tt
can_any_room floor (d ∷ ds) a b is h = (any_room a b d.hi d.changes is h.0, λ next i. h.1 next (any_room_installs floor a b next d.hi d.changes is i))

pub takes_any_room : (floor : ℕ) (ds : List Difference) (a b new : ViewKept) → b ≡ record a { spare = b.spare } → TakesEach floor ds b new → TakesEach floor ds a new
takes_any_room floor [] a b new is h = h ∙ ap (λ (k : ViewKept). record k { spare = new.spare }) is
takes_any_room floor (d ∷ ds) a b new is h = (h.0, any_room_installs floor a b h.0 d.hi d.changes is h.1, h.2)

pub can_all_room : (floor : ℕ) (pending : List (List Difference)) (old new : List ViewKept) → OnlyRoom old new → CanAllTake floor pending old → CanAllTake floor pending new
can_all_room floor pending old new h can = record {
  all = can.all ∙ sym h.all;
  each = λ v lt. let here : v < length old = omega (arith, lt, h.all) in can_any_room floor (pending_at pending v) (rows_in old v) (rows_in new v) (h.each v here) (can.each v here);
}

pub all_take_room : (floor : ℕ) (pending : List (List Difference)) (old rows new : List ViewKept) → OnlyRoom old rows → AllTake floor pending rows new → AllTake floor pending old new
all_take_room floor pending old rows new h take = record {
  all = take.all ∙ h.all;
  each = λ v lt. takes_any_room floor (pending_at pending v) (rows_in old v) (rows_in rows v) (rows_in new v) (h.each v lt) (take.each v (omega (arith, lt, h.all)));
}

-- room is made for one view after another
abbrev pub RoomBelow : ℕ → List (List Difference) → List ViewKept → Type 0
RoomBelow n pending rows = (v : ℕ) → v < length rows → v < n → changed_rows (pending_at pending v) ≤ (rows_in rows v).spare

-- ---- where every read stays
every_read : (floor hi : ℕ) (changes : List SignedRow) (old new : ViewKept) → RowsInstall 0 hi changes old new → RowsInstall floor hi changes old new
every_read floor hi changes old new h = record { def_stays = h.def_stays; at_is = h.at_is; before = λ n le lt. h.before n (omega arith) lt; from = h.from; rows = h.rows }

-- differences that can be installed can be so there, too
can_each : (floor : ℕ) (ds : List Difference) (k : ViewKept) → CanTakeEach floor ds k → CanTakeEach 0 ds k
can_each floor [] k can = tt
can_each floor (d ∷ ds) k can = (can.0, λ next i. can_each floor ds next (can.1 next (every_read floor d.hi d.changes k next i)))

pub can_copy : (floor : ℕ) (pending : List (List Difference)) (old : List ViewKept) → CanAllTake floor pending old → CanAllTake 0 pending old
can_copy floor pending old can = record { all = can.all; each = λ v lt. can_each floor (pending_at pending v) (rows_in old v) (can.each v lt) }

-- ---- the first of differences, and the rest
module _ (floor : ℕ) (ds rest : List Difference) (d : Difference) (is : ds ≡ d ∷ rest) where
  pub first_can : (k : ViewKept) → CanTakeEach floor ds k → CanInstall k d.hi d.changes
  first_can k can = let here : CanTakeEach floor (d ∷ rest) k = subst (λ l. CanTakeEach floor l k) is can in here.0

  pub rest_can : (k next : ViewKept) → CanTakeEach floor ds k → RowsInstall floor d.hi d.changes k next → CanTakeEach floor rest next
  rest_can k next can install = let here : CanTakeEach floor (d ∷ rest) k = subst (λ l. CanTakeEach floor l k) is can in here.1 next install

  pub rest_takes : (all : List Difference) (start k next : ViewKept) → ((new : ViewKept) → TakesEach floor ds k new → TakesEach floor all start new) → RowsInstall floor d.hi d.changes k next
      → (new : ViewKept) → TakesEach floor rest next new → TakesEach floor all start new
  rest_takes all start k next done install new more = done new (subst (λ l. TakesEach floor l k new) (sym is) (next, install, more))

  pub rest_rows : changed_rows ds ≡ length d.changes + changed_rows rest
  rest_rows = ap changed_rows is

-- ---- a loop over views, the last one first
pub last_at : (popped : List (List Difference)) (ds : List Difference) → pending_at (popped ++ ds ∷ []) (length popped) ≡ ds
last_at [] ds = refl
last_at (p ∷ popped) ds = last_at popped ds

pub before_at : (popped : List (List Difference)) (ds : List Difference) (v : ℕ) → v < length popped → pending_at (popped ++ ds ∷ []) v ≡ pending_at popped v
before_at [] ds v lt = absurd (omega (arith, lt))
before_at (p ∷ popped) ds zero lt = refl
before_at (p ∷ popped) ds (suc v) lt = before_at popped ds v (omega (arith, lt))

-- the views from a number on have taken their differences, and those below are as they were
pub record TakenFrom (floor : ℕ) (pending left : List (List Difference)) (old rows : List ViewKept) : Type 0 where
  pub all : length rows ≡ length old
  pub long : length left ≤ length old
  pub same : (v : ℕ) → v < length left → (pending_at left v ≡ pending_at pending v) × (rows_in rows v ≡ rows_in old v)
  pub done : (v : ℕ) → v < length old → length left ≤ v → TakesEach floor (pending_at pending v) (rows_in old v) (rows_in rows v)

pub taken_start : (floor : ℕ) (pending : List (List Difference)) (old : List ViewKept) → CanAllTake floor pending old → TakenFrom floor pending pending old old
taken_start floor pending old can = record {
  all = refl;
  long = omega (arith, can.all);
  same = λ v lt. (refl, refl);
  done = λ v lt le. absurd (omega (arith, lt, le, can.all));
}

-- ---- the view stays
pub takes_def : (floor : ℕ) (ds : List Difference) (old new : ViewKept) → TakesEach floor ds old new → new.def ≡ old.def
takes_def floor [] old new h = ap (λ (k : ViewKept). k.def) h
takes_def floor (d ∷ ds) old new h = takes_def floor ds h.0 new h.2 ∙ h.1.def_stays

-- ---- what a view shows
installed_at : (floor hi : ℕ) (changes : List SignedRow) (old next : ViewKept) → RowsInstall floor hi changes old next → groups_at next.at next.versions ≡ groups_with changes (groups_at old.at old.versions)
installed_at floor hi changes old next h = h.from next.at (omega (arith, h.at_is))

-- of the room nothing depends, nor of the floor
takes_same : (low high : ℕ) (ds : List Difference) (a b new last : ViewKept) (n : ℕ) → a.def ≡ b.def → groups_at n a.versions ≡ groups_at n b.versions → groups_at a.at a.versions ≡ groups_at b.at b.versions
    → AreUpTo n ds → TakesEach low ds a new → TakesEach high ds b last → shown n new ≡ shown n last
takes_same low high [] a b new last n def at point up x y = ap (shown n) x ∙ (λ i. rows_listed (def i) (at i)) ∙ sym (ap (shown n) y)
takes_same low high (d ∷ ds) a b new last n def at point up x y =
    takes_same low high ds x.0 y.0 new last n (x.1.def_stays ∙ def ∙ sym y.1.def_stays)
    (x.1.from n up.0 ∙ ap (groups_with d.changes) point ∙ sym (y.1.from n up.0))
    (installed_at low d.hi d.changes a x.0 x.1 ∙ ap (groups_with d.changes) point ∙ sym (installed_at high d.hi d.changes b y.0 y.1))
    up.1 x.2 y.2

pub copy_shows : (low high : ℕ) (ds : List Difference) (rows copy new : ViewKept) (n : ℕ) → AreUpTo n ds → TakesEach low ds rows copy → TakesEach high ds rows new → shown n copy ≡ shown n new
copy_shows low high ds rows copy new n up a b = takes_same low high ds rows rows copy new n refl refl refl up a b
