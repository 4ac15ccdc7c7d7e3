-- Why a commit is refused is told from the entries, the net changes and the numbers of rows that are kept.
use Rattle.std.proofs.Common.{◌≡◌, ℕ, zero, suc, ◌+◌, ◌<◌, ◌≤◌, Bool, true, false, cond, not, ◌&&◌, ◌||◌, List, [], ◌∷◌, ◌++◌, map, length, Option, Some, None, refl, sym, ap, ◌∙◌, arith}
use Rattle.std.specs.Prelude.{nat_lt, slice_get, slice_index_or, option_map}
use Rattle.std.specs.List.{filter, filter_map, flat_map, last_or, range_with_len, AllByRecursion}
use Rattle.std.specs.Ordering.{is_gt}
use Rattle.std.specs.declared.cmp.Ordering.{Ordering}
use Rattle.std.proofs.lemmas.Bool.Decides.{nat_tests}
use Rattle.std.proofs.lemmas.List.{map-append, length-append}
use Rattle.std.proofs.lemmas.List.Elements.{filter-append}
use Rattle.lv_values.specs.declared.value.Value.{Value}
use Rattle.lv_values.specs.Ascending.{placed, ascending}
use Rattle.lv_values.specs.Rows.{key_cmp}
use Rattle.lv_schema.specs.declared.action.Action.{Action}
use Rattle.lv_schema.specs.declared.action.DeltaEntry.{DeltaEntry}
use Rattle.lv_schema.specs.declared.fault.Fault.{Fault}
use Rattle.lv_schema.specs.declared.fault.Fault.TheVariants.{Conflict, MergedFull}
use Rattle.lv_schema.specs.declared.table.TableDef.{TableDef}
use Rattle.lv_schema.specs.Commits.{Place, place_cmp, same_place, written_place, writes, last_writer, conflict_of, merged, merged_full, writes_above, writer_in, conflict_in}
use Rattle.lv_schema.specs.Condensed.{condensed}
use Rattle.lv_schema.specs.Databases.{rows_of}
use Rattle.lv_schema.specs.Effects.{acted_all, first_fault}
use Rattle.lv_schema.specs.Nets.{has_row, lacking, net_of}
use Rattle.lv_schema.specs.Once.{Ascends}
use Rattle.lv_schema.specs.Versions.{delta_entry, delta_entries, kept_entries}
use Rattle.lv_schema.specs.World.{Visible, World, last, snap, commit_at, numbers, table_at, transaction}
use Rattle.lv_schema.proofs.Condenses as condenses
use Rattle.lv_schema.proofs.FirstCommitter.{possible_now, merged_is_replay}
use Rattle.lv_schema.proofs.NetsLead.{net_leads, any_lacking, elements}
use Rattle.lv_schema.proofs.Numbers.{Each}
use Rattle.lv_schema.proofs.Replay.{keyed_database, all_up}
use Rattle.lv_schema.proofs.SoundSteps.{transaction_live}
use Rattle.lv_schema.proofs.SteadyWorlds.{floor_last}
use Rattle.lv_txn.specs.Kept.{TransactionKept}
use Rattle.lv_stands.specs.Kept.{EngineKept, table_kept, shown}
use Rattle.lv_stands.specs.Moves.{rows_after, full_in, refusal_in}
use Rattle.lv_stands.specs.Stands.{TransactionStands, StandsFor}
use Rattle.lv_stands.proofs.Statements.{transaction_of}
use Rattle.lv_stands.proofs.Changes.{snapshot_kept}
use Rattle.lv_stands.proofs.Tasks.{filter_alike, filter_twice}

-- ---- the last writer
last_append : {X : Type 0} (d : Option X) (xs ys : List X) → last_or d (xs ++ ys) ≡ last_or (last_or d xs) ys
last_append d [] ys = refl
last_append d (x ∷ xs) ys = last_append (Some x) xs ys

module _ (tables : List TableDef) (snapshot : ℕ) (at : Place) where
  of_commit : (k : ℕ) (d : Option ℕ) (actions : List Action) → last_or d (map (λ (e : DeltaEntry). e.number) (filter (writes_above tables snapshot at) (map (delta_entry k) actions))) ≡ cond (nat_lt snapshot k && writes tables actions at) (Some k) d
  of_commit k d [] = by (nat_lt snapshot k)
    where
      by : (t : Bool) → d ≡ cond (t && false) (Some k) d
      by true = refl
      by false = refl
  of_commit k d (a ∷ actions) = by (nat_lt snapshot k) refl (same_place at (written_place tables a)) (of_commit k d actions) (of_commit k (Some k) actions)
    where
      rest : Option ℕ → Option ℕ
      rest x = last_or x (map (λ (e : DeltaEntry). e.number) (filter (writes_above tables snapshot at) (map (delta_entry k) actions)))

      some_always : (b : Bool) → cond {A = Option ℕ} b (Some k) (Some k) ≡ Some k
      some_always true = refl
      some_always false = refl

      by : (t : Bool) → nat_lt snapshot k ≡ t → (u : Bool) → rest d ≡ cond (nat_lt snapshot k && writes tables actions at) (Some k) d → rest (Some k) ≡ cond (nat_lt snapshot k && writes tables actions at) (Some k) (Some k)
          → last_or d (map (λ (e : DeltaEntry). e.number) (cond (t && u) (delta_entry k a ∷ filter (writes_above tables snapshot at) (map (delta_entry k) actions)) (filter (writes_above tables snapshot at) (map (delta_entry k) actions))))
          ≡ cond (t && (u || writes tables actions at)) (Some k) d
      by true e true x y = y ∙ some_always (nat_lt snapshot k && writes tables actions at)
      by true e false x y = x ∙ ap (λ b. cond (b && writes tables actions at) (Some k) d) e
      by false e u x y = x ∙ ap (λ b. cond (b && writes tables actions at) (Some k) d) e

  of_commits : (commits : ℕ → List Action) (d : Option ℕ) (ks : List ℕ) → last_or d (map (λ (e : DeltaEntry). e.number) (filter (writes_above tables snapshot at) (flat_map (λ k. map (delta_entry k) (commits k)) ks)))
      ≡ last_or d (filter (λ k. nat_lt snapshot k && writes tables (commits k) at) ks)
  of_commits commits d [] = refl
  of_commits commits d (k ∷ ks) =
      ap (λ es. last_or d (map (λ (e : DeltaEntry). e.number) es)) (filter-append (writes_above tables snapshot at) (map (delta_entry k) (commits k)) (flat_map (λ k. map (delta_entry k) (commits k)) ks))
      ∙ ap (last_or d) (map-append (λ (e : DeltaEntry). e.number) (filter (writes_above tables snapshot at) (map (delta_entry k) (commits k))) (filter (writes_above tables snapshot at) (flat_map (λ k. map (delta_entry k) (commits k)) ks)))
      ∙ last_append d (map (λ (e : DeltaEntry). e.number) (filter (writes_above tables snapshot at) (map (delta_entry k) (commits k)))) (map (λ (e : DeltaEntry). e.number) (filter (writes_above tables snapshot at) (flat_map (λ k. map (delta_entry k) (commits k)) ks)))
      ∙ ap (λ x. last_or x (map (λ (e : DeltaEntry). e.number) (filter (writes_above tables snapshot at) (flat_map (λ k. map (delta_entry k) (commits k)) ks)))) (of_commit k d (commits k))
      ∙ of_commits commits (cond (nat_lt snapshot k && writes tables (commits k) at) (Some k) d) ks
      ∙ by (nat_lt snapshot k && writes tables (commits k) at)
    where
      by : (t : Bool) → last_or (cond t (Some k) d) (filter (λ k. nat_lt snapshot k && writes tables (commits k) at) ks) ≡ last_or d (cond t (k ∷ filter (λ k. nat_lt snapshot k && writes tables (commits k) at) ks) (filter (λ k. nat_lt snapshot k && writes tables (commits k) at) ks))
      by true = refl
      by false = refl

  above_both : (low : ℕ) → low ≤ snapshot → (e : DeltaEntry) → (nat_lt low e.number && writes_above tables snapshot at e) ≡ writes_above tables snapshot at e
  above_both low le e = by (nat_lt snapshot e.number) refl
    where
      and_false : (a : Bool) → (a && false) ≡ false
      and_false true = refl
      and_false false = refl

      by : (t : Bool) → nat_lt snapshot e.number ≡ t → (nat_lt low e.number && (nat_lt snapshot e.number && same_place at (written_place tables e.action))) ≡ (nat_lt snapshot e.number && same_place at (written_place tables e.action))
      by true h = let f : nat_lt low e.number ≡ true = grind (arith, nat_tests) in rw (h, f) refl
      by false h = rw h (and_false (nat_lt low e.number))

pub writer_is : (s : Visible) (pruned snapshot : ℕ) (at : Place) → pruned ≤ snapshot → writer_in s.tables (kept_entries s pruned) snapshot at ≡ last_writer s snapshot at
writer_is s pruned snapshot at le =
    ap (λ es. last_or None (map (λ (e : DeltaEntry). e.number) es)) (filter_twice (writes_above s.tables snapshot at) (λ (e : DeltaEntry). nat_lt pruned e.number) (writes_above s.tables snapshot at) (delta_entries s) (above_both s.tables snapshot at pruned le))
    ∙ of_commits s.tables snapshot at (commit_at s.commits) None (numbers (last s))

pub conflict_is : (w : World) (e : EngineKept) (session : ℕ) (k : TransactionKept) → StandsFor w e → slice_index_or e.sessions session None ≡ Some k → conflict_in e.tables e.base.entries k.snapshot k.actions ≡ conflict_of w.visible (transaction session w.visible)
conflict_is w e session k is at =
    let kt = transaction_of w.visible e.sessions session k is.sessions_stand at in
    let le : w.upkeep.pruned ≤ last w.visible = omega (arith, is.steady.pruned, floor_last w) in
    let within = snapshot_kept w session is.steady le in
    (λ i. slice_get (filter_map (λ p. option_map (Conflict p.0 p.1) (writer_in (is.tables_are i) (is.base_stands.entries_are i) (kt.snapshot_is i) p)) (ascending place_cmp (map (written_place (is.tables_are i)) (kt.actions_are i)))) 0)
    ∙ (λ i. slice_get (filter_map (λ p. option_map (Conflict p.0 p.1) (writer_is w.visible w.upkeep.pruned (transaction session w.visible).snapshot p within.0 i)) (ascending place_cmp (map (written_place w.visible.tables) (transaction session w.visible).actions))) 0)

-- ---- the number of rows after
long_placed : (R : List Value → List Value → Ordering) (x : List Value) (ys : List (List Value)) → length (placed R x ys) ≡ suc (length ys)
long_placed R x [] = refl
long_placed R x (y ∷ ys) = by (is_gt (R x y)) (long_placed R x ys)
  where
    by : (t : Bool) → length (placed R x ys) ≡ suc (length ys) → length (cond t (y ∷ placed R x ys) (x ∷ y ∷ ys)) ≡ suc (suc (length ys))
    by true e = ap suc e
    by false e = refl

long_ascending : (R : List Value → List Value → Ordering) (xs : List (List Value)) → length (ascending R xs) ≡ length xs
long_ascending R [] = refl
long_ascending R (x ∷ xs) = long_placed R x (ascending R xs) ∙ ap suc (long_ascending R xs)

parts_of_all : {X : Type 0} (p q : X → Bool) (xs : List X) → AllByRecursion (λ x. p x ≡ not (q x)) xs → length (filter p xs) + length (filter q xs) ≡ length xs
parts_of_all p q [] a = refl
parts_of_all p q (x ∷ xs) a = by (q x) (p x) a.0 (parts_of_all p q xs a.1)
  where
    by : (t u : Bool) → u ≡ not t → length (filter p xs) + length (filter q xs) ≡ length xs → length (cond u (x ∷ filter p xs) (filter p xs)) + length (cond t (x ∷ filter q xs) (filter q xs)) ≡ suc (length xs)
    by true true e ih = cc
    by true false e ih = omega (arith, ih)
    by false true e ih = omega (arith, ih)
    by false false e ih = cc

all_has : (before after : List (List Value)) (xs : List (List Value)) → AllByRecursion (λ r. has_row r before ≡ true) xs → AllByRecursion (λ r. not (has_row r (lacking before after)) ≡ not (not (has_row r after))) xs
all_has before after [] a = tt
all_has before after (r ∷ xs) a = (ap not (any_lacking r before after) ∙ by (has_row r after) (has_row r before) a.0, all_has before after xs a.1)
  where
    by : (x y : Bool) → y ≡ true → not (not x && y) ≡ not (not x)
    by true true e = refl
    by false true e = refl
    by x false e = cc

pub rows_counted : (key : List ℕ) (before after : List (List Value)) → Ascends (key_cmp key) before → Ascends (key_cmp key) after → rows_after (length before) (net_of before after) ≡ length after
rows_counted key before after a b =
    let whole = net_leads key before after a b in
    let long = long_ascending (key_cmp key) (lacking before (lacking before after) ++ lacking after before) in
    let both = length-append (lacking before (lacking before after)) (lacking after before) in
    let split = parts_of_all (λ r. not (has_row r (lacking before after))) (λ r. not (has_row r after)) before (all_has before after before (elements before)) in
    omega (arith, ap length whole, long, both, split)

each_range : (a n b : ℕ) → a + n ≤ b → Each (λ t. t < b) (range_with_len a n)
each_range a zero b le = tt
each_range a (suc n) b le = (omega arith, each_range (a + 1) n b (omega arith))

each_of : {P Q : ℕ → Type 0} → ((t : ℕ) → P t → Q t) → (xs : List ℕ) → Each P xs → Each Q xs
each_of f [] a = tt
each_of f (x ∷ xs) a = (f x a.0, each_of f xs a.1)

pub full_is : (w : World) (e : EngineKept) (session : ℕ) (k : TransactionKept) → StandsFor w e → slice_index_or e.sessions session None ≡ Some k → conflict_of w.visible (transaction session w.visible) ≡ None
    → full_in e.tables e.base k.actions ≡ merged_full w.visible (transaction session w.visible)
full_is w e session k is at free =
    (λ i. full_in (is.tables_are i) e.base (kt.actions_are i))
    ∙ ap (λ ts. option_map MergedFull (slice_get ts 0))
    (filter_alike (λ t. nat_lt 65535 (length (rows_of (merged w.visible (transaction session w.visible)) t))) (λ t. nat_lt 65535 (rows_after (length (shown e.base.number (table_kept e.base.tables t).versions)) (condensed w.visible.tables (transaction session w.visible).actions t)))
    (range_with_len 0 (length w.visible.tables)) (each_of (λ t lt. ap (nat_lt 65535) (each t lt)) (range_with_len 0 (length w.visible.tables)) (each_range 0 (length w.visible.tables) (length w.visible.tables) (omega arith))))
  where
    kt : TransactionStands w.visible (transaction session w.visible) k
    kt = transaction_of w.visible e.sessions session k is.sessions_stand at

    each : (t : ℕ) → t < length w.visible.tables → rows_after (length (shown e.base.number (table_kept e.base.tables t).versions)) (condensed w.visible.tables (transaction session w.visible).actions t) ≡ length (rows_of (merged w.visible (transaction session w.visible)) t)
    each t lt =
        let s = w.visible in
        let o = transaction session w.visible in
        let sound = is.steady.sound in
        let live_one = transaction_live s session sound in
        let may = possible_now s sound o live_one free in
        let before_up = keyed_database s.tables (snap s (last s)) (sound.fits (last s) (omega arith)) in
        let after_up = all_up s.tables (snap s (last s)) o.actions before_up may in
        let replay = merged_is_replay s sound o live_one free in
        (λ i. rows_after (length ((is.base_stands.each t lt).newest e.base.number (omega (arith, is.base_stands.number_is)) i)) (condenses.condenses s.tables (snap s (last s)) o.actions t (sound.fits (last s) (omega arith)) may lt i))
        ∙ rows_counted (table_at s.tables t).key (rows_of (snap s (last s)) t) (rows_of (acted_all s.tables (snap s (last s)) o.actions) t) (before_up.up t lt) (after_up.up t lt)
        ∙ ap (λ db. length (rows_of db t)) (sym replay)

pub refusal_is : (w : World) (e : EngineKept) (session : ℕ) (k : TransactionKept) → StandsFor w e → slice_index_or e.sessions session None ≡ Some k
    → refusal_in e k ≡ first_fault (conflict_of w.visible (transaction session w.visible)) (merged_full w.visible (transaction session w.visible))
refusal_is w e session k is at =
    ap (λ x. first_fault x (full_in e.tables e.base k.actions)) (conflict_is w e session k is at) ∙ by (conflict_of w.visible (transaction session w.visible)) refl
  where
    by : (x : Option Fault) → conflict_of w.visible (transaction session w.visible) ≡ x → first_fault x (full_in e.tables e.base k.actions) ≡ first_fault x (merged_full w.visible (transaction session w.visible))
    by None h = full_is w e session k is at h
    by (Some fault) h = refl
