-- The record of a commit is taken.
use Rattle.std.proofs.Common.{◌≡◌, ℕ, suc, ◌+◌, ◌<◌, Bool, true, false, cond, not, ◌&&◌, nat_lt, nat_le, List, [], ◌∷◌, ◌++◌, length, get_or, refl, sym, ap, ap₂, ◌∙◌, subst, arith}
use Rattle.std.specs.Prelude.{◌==◌, is_some, slice_get}
use Rattle.std.specs.List.{filter, list_all, range_with_len}
use Rattle.std.proofs.lemmas.Bool.Decides.{nat_tests}
use Rattle.std.proofs.lemmas.List.{length-map}
use Rattle.lv_schema.specs.declared.action.Action.{Action}
use Rattle.lv_schema.specs.declared.net.Net.{Net}
use Rattle.lv_schema.specs.declared.rec.Rec.TheVariants.{Commit}
use Rattle.lv_schema.specs.declared.table.TableDef.{TableDef}
use Rattle.lv_schema.specs.Cases.{with_commit}
use Rattle.lv_schema.specs.Databases.{Db, IsDatabase, rows_of}
use Rattle.lv_schema.specs.Effects.{acted_all}
use Rattle.lv_schema.specs.SoundWorld.{IsSound}
use Rattle.lv_schema.specs.UpkeepCases.{need}
use Rattle.lv_schema.specs.World.{Visible, World, last, snap, table_at}
use Rattle.lv_schema.proofs.Condenses as condenses
use Rattle.lv_schema.proofs.Replay.{all_up, keyed_database}
use Rattle.lv_record.specs.Kept.{is_kept_action}
use Rattle.lv_replay.specs.Applies.{can_act, commit_applies}
use Rattle.lv_replay.specs.Numbers.{number_rises}
use Rattle.lv_replay.specs.Replayed.{replayed}
use Rattle.lv_replay.proofs.Applied.{IsNext, applied_commit}
use Rattle.lv_replay.proofs.Replays.{alone_here, free_here, leads_here, made_sound, open_here, replayed_steady, replayed_stopped}
use Rattle.lv_replay.proofs.Tests.{and_right}
use Rattle.lv_stands.specs.Kept.{BaseKept, shown}
use Rattle.lv_stands.specs.Moves.{BaseCommits, rows_after, with_tasks}
use Rattle.lv_stands.specs.Stands.{BaseStands}
use Rattle.lv_stands.proofs.Refusals.{rows_counted}
use Rattle.lv_stands.proofs.Statements.{base_committed, point_within, same_base, upkeep_committed}
use Rattle.lv_upkeep.specs.Stands.{UpkeepStands}
use Rattle.lv_versions.specs.Versions.{Kept}
use Rattle.lv_base.specs.Bases.{BaseRoom, CanCommit, IsReady, defs_of, last_state, net_in, table_in}
use Rattle.lv_base.proofs.Prepared.{state_at_place}
use Rattle.lv_base.proofs.Told.{told_state, told_tables}
use Rattle.lv_made.specs.Limits.{is_full}
use Rattle.lv_loading.specs.declared.parts.Parts.{Parts}
use Rattle.lv_loading.specs.Loads.{LoadingKept, LoadingStands}
use Rattle.lv_loading.specs.Taking.{has_few, is_numbered, kept_in, may_commit}
use Rattle.lv_loading.proofs.Acting.{act_of}

-- ---- no table gets too many rows
-- the first that passes a test is none where all fail it
none_passes : {X : Type 0} (q : X → Bool) (xs : List X) → not (is_some (slice_get (filter q xs) 0)) ≡ list_all (λ x. not (q x)) xs
none_passes q [] = refl
none_passes q (x ∷ xs) = by (q x) (none_passes q xs)
  where
    by : (b : Bool) → not (is_some (slice_get (filter q xs) 0)) ≡ list_all (λ x. not (q x)) xs → not (is_some (slice_get (cond b (x ∷ filter q xs) (filter q xs)) 0)) ≡ (not b && list_all (λ x. not (q x)) xs)
    by true h = refl
    by false h = h

all_range : {X : Type 0} (p : X → Bool) (q : ℕ → Bool) (d : X) (xs : List X) (a : ℕ) → ((i : ℕ) → i < length xs → q (a + i) ≡ p (get_or xs i d)) → list_all q (range_with_len a (length xs)) ≡ list_all p xs
all_range p q d [] a h = refl
all_range p q d (x ∷ xs) a h =
    ap₂ (λ b c. b && c) (let e : a + 0 ≡ a = omega arith in ap q (sym e) ∙ h 0 (omega arith))
    (all_range p q d xs (a + 1) (λ i lt. let e : a + 1 + i ≡ a + suc i = omega arith in ap q e ∙ h (suc i) (omega (arith, lt))))

not_more : (n : ℕ) → not (nat_lt 65535 n) ≡ nat_le n 65535
not_more n = by (nat_lt 65535 n) refl (nat_le n 65535) refl
  where
    by : (a : Bool) → nat_lt 65535 n ≡ a → (b : Bool) → nat_le n 65535 ≡ b → not a ≡ b
    by true e true f = absurd (grind (arith, nat_tests))
    by true e false f = refl
    by false e true f = refl
    by false e false f = absurd (grind (arith, nat_tests))

pub few_is : (b : BaseRoom) (actions : List Action) (nets : List Net) → IsReady b actions nets → not (is_some (slice_get (filter (is_full b nets) (range_with_len 0 (length nets))) 0)) ≡ has_few actions b
few_is b actions nets ready =
    none_passes (is_full b nets) (range_with_len 0 (length nets))
    ∙ ap (λ n. list_all (λ t. not (is_full b nets t)) (range_with_len 0 n)) (ready.all ∙ sym long)
    ∙ all_range (λ rows. nat_le (length rows) 65535) (λ t. not (is_full b nets t)) [] after 0 (λ t lt. each t (omega (arith, lt, long)))
  where
    after : Db
    after = acted_all (defs_of b) (last_state b) actions

    long_defs : length (defs_of b) ≡ length b.tables
    long_defs = length-map b.tables (λ (k : Kept). k.def)

    long : length after ≡ length b.tables
    long = (all_up (defs_of b) (last_state b) actions (keyed_database (defs_of b) (last_state b) ready.can.fits) ready.can.acts).long ∙ long_defs

    count : (t : ℕ) → t < length b.tables → rows_after (length (shown b.number (table_in b.tables t).versions)) (net_in nets t) ≡ length (rows_of after t)
    count t lt =
        let before_up = keyed_database (defs_of b) (last_state b) ready.can.fits in
        let after_up = all_up (defs_of b) (last_state b) actions before_up ready.can.acts in
        let in_use : t < length (defs_of b) = omega (arith, lt, long_defs) in
        ap₂ (λ (rows : ℕ) (net : Net). rows_after rows net) (ap length (sym (state_at_place b t))) (ready.each t lt ∙ condenses.condenses (defs_of b) (last_state b) actions t ready.can.fits ready.can.acts in_use)
        ∙ rows_counted (table_at (defs_of b) t).key (rows_of (last_state b) t) (rows_of after t) (before_up.up t in_use) (after_up.up t in_use)

    each : (t : ℕ) → t < length b.tables → not (is_full b nets (0 + t)) ≡ nat_le (length (rows_of after t)) 65535
    each t lt =
        (let e : 0 + t ≡ t = omega arith in ap (λ u. not (is_full b nets u)) e)
        ∙ ap (λ n. not (nat_lt 65535 n)) (count t lt)
        ∙ not_more (length (rows_of after t))

-- ---- whether it applies is told from what is kept
regroup : (n s r c f : Bool) → (((n && (s && r)) && c) && f) ≡ (n && (s && (r && (c && f))))
regroup true true true c f = refl
regroup true true false c f = refl
regroup true false r c f = refl
regroup false s r c f = refl

abbrev told_by : ℕ → List Action → ℕ → List TableDef → Db → Bool
told_by number actions n tables db = (number == n + 1) && (nat_lt 0 (length actions) && (number_rises 1 actions && (can_act tables db actions && list_all (λ rows. nat_le (length rows) 65535) (acted_all tables db actions))))

module _ (p : Parts) (w : World) (is : LoadingStands w (kept_in p)) where
  pub tables_told : p.schema.tables ≡ defs_of p.base
  tables_told = is.tables_are ∙ sym (told_tables w.visible 0 p.base is.base_stands)

  pub base_fits : IsDatabase (defs_of p.base) (last_state p.base)
  base_fits =
      let tables = sym (told_tables w.visible 0 p.base is.base_stands) in
      let state = sym (told_state w.visible 0 p.base is.base_stands is.steady.sound) in
      subst (λ (db : Db). IsDatabase (defs_of p.base) db) state (subst (λ (ts : List TableDef). IsDatabase ts (snap w.visible (last w.visible))) tables (is.steady.sound.fits (last w.visible) (omega arith)))

  pub commit_told : (number : ℕ) (actions : List Action) → (may_commit number actions p.base && has_few actions p.base) ≡ commit_applies number actions w.visible
  commit_told number actions =
      let tables = told_tables w.visible 0 p.base is.base_stands in
      let state = told_state w.visible 0 p.base is.base_stands is.steady.sound in
      regroup (number == p.base.number + 1) (nat_lt 0 (length actions)) (number_rises 1 actions) (can_act (defs_of p.base) (last_state p.base) actions) (list_all (λ rows. nat_le (length rows) 65535) (acted_all (defs_of p.base) (last_state p.base) actions))
      ∙ (λ i. told_by number actions (is.base_stands.number_is i) (tables i) (state i))

  pub can_commit : (number : ℕ) (actions : List Action) → may_commit number actions p.base ≡ true → CanCommit p.base actions
  can_commit number actions h = record { fits = base_fits; acts = act_of (defs_of p.base) actions (last_state p.base) (and_right (is_numbered number actions p.base) _ h) }

pub refused_told : (p : Parts) (number : ℕ) (actions : List Action) → may_commit number actions p.base ≡ false → (w : World) → LoadingStands w (kept_in p) → commit_applies number actions w.visible ≡ false
refused_told p number actions h w is = sym (commit_told p w is number actions) ∙ (λ i. h i && has_few actions p.base)

-- the parts keep the same while a commit is prepared
module _ (old mid : Parts) (same : kept_in mid ≡ kept_in old) (number : ℕ) (actions : List Action) (may : may_commit number actions old.base ≡ true) where
  stands_then : (w : World) → LoadingStands w (kept_in old) → LoadingStands w (kept_in mid)
  stands_then w is = subst (λ (k : LoadingKept). LoadingStands w k) (sym same) is

  few_same : (w : World) → LoadingStands w (kept_in old) → has_few actions mid.base ≡ has_few actions old.base
  few_same w is =
      let there = stands_then w is in
      (λ i. list_all (λ rows. nat_le (length rows) 65535) (acted_all (told_tables w.visible 0 mid.base there.base_stands i) (told_state w.visible 0 mid.base there.base_stands there.steady.sound i) actions))
      ∙ sym (λ i. list_all (λ rows. nat_le (length rows) 65535) (acted_all (told_tables w.visible 0 old.base is.base_stands i) (told_state w.visible 0 old.base is.base_stands is.steady.sound i) actions))

  pub prepared_told : (few : Bool) → has_few actions mid.base ≡ few → (w : World) → LoadingStands w (kept_in old) → commit_applies number actions w.visible ≡ few
  prepared_told few e w is = sym (commit_told old w is number actions) ∙ (λ i. may i && has_few actions old.base) ∙ sym (few_same w is) ∙ e

-- ---- and what is kept after it
module _ (s : Visible) (sound : IsSound s) (number : ℕ) (actions : List Action) (next : IsNext s number actions) where
  abbrev after : Db
  after = acted_all s.tables (snap s (last s)) actions

  abbrev then_visible : Visible
  then_visible = record s { snaps = s.snaps ++ after ∷ []; commits = s.commits ++ actions ∷ [] }

  base_then : (b new : BaseKept) → BaseStands s 0 b → BaseCommits s.tables actions b new → BaseStands then_visible 0 new
  base_then b new is commits =
      let here = alone_here s sound number actions next in
      same_base (with_commit 0 here s) then_visible 0 new refl (ap (λ (db : Db). s.snaps ++ db ∷ []) (sym (leads_here s sound number actions next))) refl refl
      (base_committed s sound 0 here 0 b new (omega arith) (made_sound s sound number actions next) (open_here s sound number actions next) (free_here s sound number actions next) is commits)

module _ (k : LoadingKept) (number : ℕ) (actions : List Action) (w : World) (is : LoadingStands w k) (applied : commit_applies number actions w.visible ≡ true) where
  next_there : IsNext w.visible number actions
  next_there = applied_commit w.visible number actions applied

  abbrev then : World
  then = replayed (Commit number actions) w

  upkeep_then : UpkeepStands then (record k.upkeep { tasks = with_tasks number actions w.visible.views k.upkeep.tasks })
  upkeep_then =
      let u = upkeep_committed w.visible is.steady.sound 0 (alone_here w.visible is.steady.sound number actions next_there) w.upkeep k.upkeep (need w.upkeep (Commit number actions)) number is.steady.points (λ v lt. point_within w v is.steady lt)
      (let e : number ≡ suc (last w.visible) = omega (arith, next_there.number_is) in e) is.upkeep_stands in
      record { points_are = u.points_are; marks_are = u.marks_are; claims_are = u.claims_are; all = u.all; each = u.each }

  pub commit_taken : (tables : List TableDef) (new : BaseKept) → tables ≡ k.tables → BaseCommits tables actions k.base new → list_all is_kept_action actions ≡ true
      → LoadingStands (replayed (Commit number actions) w) (record k { base = new; upkeep = record k.upkeep { tasks = with_tasks number actions k.views k.upkeep.tasks } })
  commit_taken tables new same commits kept = record {
    steady = replayed_steady (Commit number actions) w is.steady is.stopped kept applied;
    stopped = replayed_stopped (Commit number actions) w is.stopped;
    tables_are = is.tables_are;
    views_are = is.views_are;
    base_stands = base_then w.visible is.steady.sound number actions next_there k.base new is.base_stands (subst (λ (ts : List TableDef). BaseCommits ts actions k.base new) (same ∙ is.tables_are) commits);
    upkeep_stands = subst (λ vs. UpkeepStands then (record k.upkeep { tasks = with_tasks number actions vs k.upkeep.tasks })) (sym is.views_are) upkeep_then;
  }
