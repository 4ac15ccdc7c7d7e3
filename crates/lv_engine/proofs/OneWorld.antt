-- A fresh engine stands for one world alone.
use Rattle.std.proofs.Common.{◌≡◌, ℕ, zero, suc, ◌+◌, ◌<◌, ◌≤◌, Bool, true, false, List, [], ◌∷◌, ◌++◌, map, length, get_or, Option, Some, None, refl, sym, ap, ap₂, ◌∙◌, subst, arith}
use Rattle.std.specs.Prelude.{◌⊎◌, ◌==◌, nat_lt, replicate}
use Rattle.std.specs.List.{filter, flat_map, range_with_len, AllZip}
use Rattle.std.proofs.lemmas.Bool.Decides.{nat_tests}
use Rattle.std.proofs.lemmas.Grind.{flat_map-append}
use Rattle.std.proofs.lemmas.List.{append-nil, ext_get_or, get_or-map, length-map, map-append}
use Rattle.std.proofs.lemmas.List.Elements.{filter-append}
use Rattle.std.proofs.lemmas.List.FromFn.{get_or-map-range_with_len, length-map-range_with_len}
use Rattle.std.proofs.lemmas.Slice.Zip.{AllZip-long}
use mathlib.Core.Logic.{inl, inr}
use Rattle.lv_schema.specs.declared.action.Action.{Action}
use Rattle.lv_schema.specs.declared.action.DeltaEntry.{DeltaEntry}
use Rattle.lv_schema.specs.declared.open.Open.{Open}
use Rattle.lv_schema.specs.Databases.{IsTable}
use Rattle.lv_schema.specs.SoundWorld.{IsSound}
use Rattle.lv_schema.specs.Versions.{delta_entry}
use Rattle.lv_schema.specs.World.{Visible, World, commit_at, last, numbers, snap}
use Rattle.lv_engine.specs.Fresh.{IsFresh, actions_numbered, database_kept, world_kept}
use Rattle.lv_stands.specs.Kept.{BaseKept, EngineKept, TableKept, no_table_kept, shown}
use Rattle.lv_stands.specs.Stands.{BaseStands, SessionStands, StandsFor}

-- ---- sessions
none_open : (s : Visible) (n : ℕ) (os : List (Option Open)) → AllZip (SessionStands s) os (replicate n None) → os ≡ replicate n None
none_open s zero [] a = refl
none_open s zero (o ∷ os) a = absurd a
none_open s (suc n) [] a = absurd a
none_open s (suc n) (None ∷ os) a = ap (λ rest. None ∷ rest) (none_open s n os a.1)
none_open s (suc n) (Some o ∷ os) a = absurd a.0

pub nobody_is_live : (w : World) (e : EngineKept) → StandsFor w e → e.sessions ≡ replicate 17 None → w.visible.sessions ≡ replicate 17 None
nobody_is_live w e is none = none_open w.visible 17 w.visible.sessions (subst (λ ks. AllZip (SessionStands w.visible) w.visible.sessions ks) none is.sessions_stand)

-- ---- states
state_is : (s : Visible) (b : BaseKept) → IsSound s → BaseStands s 0 b → (n : ℕ) → n ≤ last s → snap s n ≡ database_kept b.tables n
state_is s b sound is n le = ext_get_or [] (snap s n) (database_kept b.tables n) (wide ∙ sym long) rows
  where
    wide : length (snap s n) ≡ length s.tables
    wide = AllZip-long IsTable s.tables (snap s n) (sound.fits n le)

    long : length (database_kept b.tables n) ≡ length s.tables
    long = length-map b.tables (λ (k : TableKept). shown n k.versions) ∙ is.all

    rows : (t : ℕ) → t < length (snap s n) → get_or (snap s n) t [] ≡ get_or (database_kept b.tables n) t []
    rows t lt =
        sym ((is.each t (omega (arith, wide, lt))).reads n (omega arith) le)
        ∙ sym (get_or-map (λ (k : TableKept). shown n k.versions) b.tables t no_table_kept [] (omega (arith, wide, lt, is.all)))

states_are : (s : Visible) (b : BaseKept) → IsSound s → BaseStands s 0 b → s.snaps ≡ map (database_kept b.tables) (range_with_len 0 (b.number + 1))
states_are s b sound is = ext_get_or [] s.snaps (map (database_kept b.tables) (range_with_len 0 (b.number + 1))) (omega (arith, sound.states, is.number_is, long)) each
  where
    long : length (map (database_kept b.tables) (range_with_len 0 (b.number + 1))) ≡ b.number + 1
    long = length-map-range_with_len (database_kept b.tables) 0 (b.number + 1)

    each : (n : ℕ) → n < length s.snaps → get_or s.snaps n [] ≡ get_or (map (database_kept b.tables) (range_with_len 0 (b.number + 1))) n []
    each n lt =
        state_is s b sound is n (omega (arith, lt, sound.states))
        ∙ sym (get_or-map-range_with_len (database_kept b.tables) 0 (b.number + 1) n n [] (omega (arith, lt, sound.states, is.number_is)) (omega arith))

-- ---- commits
-- the actions of the entries above 0 with a number
abbrev numbered : ℕ → List DeltaEntry → List Action
numbered n entries = actions_numbered (filter (λ (e : DeltaEntry). nat_lt 0 e.number) entries) n

numbered-append : (n : ℕ) (xs ys : List DeltaEntry) → numbered n (xs ++ ys) ≡ numbered n xs ++ numbered n ys
numbered-append n xs ys =
    let above : DeltaEntry → Bool = λ e. nat_lt 0 e.number in
    let is : DeltaEntry → Bool = λ e. e.number == n in
    ap (λ es. map (λ (e : DeltaEntry). e.action) (filter is es)) (filter-append above xs ys)
    ∙ ap (map (λ (e : DeltaEntry). e.action)) (filter-append is (filter above xs) (filter above ys))
    ∙ map-append (λ (e : DeltaEntry). e.action) (filter is (filter above xs)) (filter is (filter above ys))

own_number : (n : ℕ) (actions : List Action) → 0 < n → numbered n (map (delta_entry n) actions) ≡ actions
own_number n [] up = refl
own_number n (a ∷ actions) up =
    let above : nat_lt 0 n ≡ true = grind (arith, nat_tests) in
    let same : (n == n) ≡ true = grind (arith, nat_tests) in
    rw (above, same) (ap (λ rest. a ∷ rest) (own_number n actions up))

other_number : (n k : ℕ) (actions : List Action) → 0 < k → (k ≡ n → ⊥) → numbered n (map (delta_entry k) actions) ≡ []
other_number n k [] up ne = refl
other_number n k (a ∷ actions) up ne =
    let above : nat_lt 0 k ≡ true = grind (arith, nat_tests) in
    let apart : (k == n) ≡ false = grind (arith, nat_tests) in
    rw (above, apart) (other_number n k actions up ne)

-- the entries of the commits up to m
abbrev entries_upto : Visible → ℕ → List DeltaEntry
entries_upto s m = flat_map (λ k. map (delta_entry k) (commit_at s.commits k)) (numbers m)

one_more : (s : Visible) (n m : ℕ) → numbered n (entries_upto s (suc m)) ≡ numbered n (entries_upto s m) ++ numbered n (map (delta_entry (suc m)) (commit_at s.commits (suc m)))
one_more s n m =
    let each : ℕ → List DeltaEntry = λ k. map (delta_entry k) (commit_at s.commits k) in
    ap (numbered n) (flat_map-append each (numbers m) (suc m ∷ []) ∙ ap (λ es. entries_upto s m ++ es) (append-nil (each (suc m))))
    ∙ numbered-append n (entries_upto s m) (each (suc m))

none_below : (s : Visible) (n m : ℕ) → m < n → numbered n (entries_upto s m) ≡ []
none_below s n zero lt = refl
none_below s n (suc m) lt =
    one_more s n m
    ∙ ap₂ (λ (xs ys : List Action). xs ++ ys) (none_below s n m (omega arith)) (other_number n (suc m) (commit_at s.commits (suc m)) (omega arith) (λ e. omega arith))

all_upto : (s : Visible) (n m : ℕ) → 0 < n → n ≤ m → numbered n (entries_upto s m) ≡ commit_at s.commits n
all_upto s n zero up le = absurd (omega arith)
all_upto s n (suc m) up le = one_more s n m ∙ by (cases n m le) (λ h. all_upto s n m up h)
  where
    cases : (n m : ℕ) → n ≤ suc m → (n ≤ m) ⊎ (n ≡ suc m)
    cases n m h = grind arith

    by : (n ≤ m) ⊎ (n ≡ suc m) → (n ≤ m → numbered n (entries_upto s m) ≡ commit_at s.commits n) → numbered n (entries_upto s m) ++ numbered n (map (delta_entry (suc m)) (commit_at s.commits (suc m))) ≡ commit_at s.commits n
    by (inl h) before =
        ap₂ (λ (xs ys : List Action). xs ++ ys) (before h) (other_number n (suc m) (commit_at s.commits (suc m)) (omega arith) (λ e. omega arith))
        ∙ append-nil (commit_at s.commits n)
    by (inr h) before =
        ap₂ (λ (xs ys : List Action). xs ++ ys) (none_below s n m (omega arith)) (ap (λ k. numbered n (map (delta_entry k) (commit_at s.commits k))) (sym h))
        ∙ own_number n (commit_at s.commits n) up

commits_are : (s : Visible) (b : BaseKept) → BaseStands s 0 b → s.commits ≡ map (actions_numbered b.entries) (range_with_len 1 b.number)
commits_are s b is = ext_get_or [] s.commits (map (actions_numbered b.entries) (range_with_len 1 b.number)) (omega (arith, is.number_is, long)) each
  where
    long : length (map (actions_numbered b.entries) (range_with_len 1 b.number)) ≡ b.number
    long = length-map-range_with_len (actions_numbered b.entries) 1 b.number

    each : (n : ℕ) → n < length s.commits → get_or s.commits n [] ≡ get_or (map (actions_numbered b.entries) (range_with_len 1 b.number)) n []
    each n lt =
        sym (all_upto s (suc n) (last s) (omega arith) (omega arith))
        ∙ ap (λ es. actions_numbered es (suc n)) (sym is.entries_are)
        ∙ sym (get_or-map-range_with_len (actions_numbered b.entries) 1 b.number n (suc n) [] (omega (arith, lt, is.number_is)) (omega arith))

-- ---- the world
pub one_world : (w : World) (e : EngineKept) → IsFresh e → StandsFor w e → w ≡ world_kept e
one_world w e fresh is = λ i. record {
  visible = record { tables = sym is.tables_are i; views = sym is.views_are i; snaps = states i; commits = commits i; sessions = nobody i };
  upkeep = record { points = sym is.upkeep_stands.points_are i; marks = sym is.upkeep_stands.marks_are i; claims = sym is.upkeep_stands.claims_are i; pruned = whole i; journal = sym is.journal_is i };
}
  where
    whole : w.upkeep.pruned ≡ 0
    whole = sym is.base_stands.pruned_is ∙ fresh.whole

    base : BaseStands w.visible 0 e.base
    base = subst (λ n. BaseStands w.visible n e.base) whole is.base_stands

    states : w.visible.snaps ≡ map (database_kept e.base.tables) (range_with_len 0 (e.base.number + 1))
    states = states_are w.visible e.base is.steady.sound base

    commits : w.visible.commits ≡ map (actions_numbered e.base.entries) (range_with_len 1 e.base.number)
    commits = commits_are w.visible e.base base

    nobody : w.visible.sessions ≡ replicate 17 None
    nobody = nobody_is_live w e is fresh.nobody
