-- Records that apply make steady worlds in which nobody is live and nothing is claimed or dropped.
use Rattle.std.proofs.Common.{◌≡◌, ℕ, zero, suc, ◌<◌, ◌≤◌, Bool, true, false, cond, ◌&&◌, List, [], ◌∷◌, ◌++◌, map, length, get_or, Option, Some, None, refl, sym, ap, ◌∙◌, subst, arith}
use Rattle.std.specs.Prelude.{◌⊎◌, nat_lt, nat_le, slice_get, slice_set, option_map, replicate}
use Rattle.std.specs.List.{filter, filter_map, cons_option, fold, last_or, range_with_len, AllByRecursion}
use Rattle.std.proofs.lemmas.Bool.Decides.{nat_tests}
use Rattle.std.proofs.lemmas.List.{get_or-set_same, get_or-set_other, length-set, length_push}
use Rattle.std.proofs.lemmas.List.Elements.{filter-append}
use mathlib.Core.Logic.{inl, inr}
use Rattle.lv_values.specs.Ascending.{ascending}
use Rattle.lv_schema.specs.declared.action.Action.{Action}
use Rattle.lv_schema.specs.declared.fault.Fault.TheVariants.{Conflict, MergedFull}
use Rattle.lv_schema.specs.declared.forced.Forced.{Forced}
use Rattle.lv_schema.specs.declared.open.Open.{Open}
use Rattle.lv_schema.specs.declared.rec.Rec.{Rec}
use Rattle.lv_schema.specs.declared.rec.Rec.TheVariants.{Table, View, Commit, Mark}
use Rattle.lv_schema.specs.declared.table.TableDef.{TableDef}
use Rattle.lv_schema.specs.declared.view.ViewDef.{ViewDef}
use Rattle.lv_schema.specs.Cases.{good, with_table, with_commit}
use Rattle.lv_schema.specs.Commits.{Place, place_cmp, written_place, writes, last_writer, conflict_of, merged, merged_full}
use Rattle.lv_schema.specs.Databases.{Db, rows_of}
use Rattle.lv_schema.specs.Effects.{acted_all}
use Rattle.lv_schema.specs.SoundWorld.{IsOpen, IsOpenOrNone, IsSound}
use Rattle.lv_schema.specs.Steady.{IsMaintained, IsSteady}
use Rattle.lv_schema.specs.UpkeepCases.{with_record}
use Rattle.lv_schema.specs.World.{Upkeep, Visible, World, empty_world, numbers, last, snap, commit_at, view_at}
use Rattle.lv_schema.proofs.FirstCommitter.{merged_is_replay}
use Rattle.lv_schema.proofs.SoundSteps.{commit_sound}
use Rattle.lv_schema.proofs.SteadySteps.{empty_steady, table_made_steady, view_made_steady}
use Rattle.lv_record.specs.Kept.{IsKeptTable, IsKeptView, IsKept}
use Rattle.lv_replay.specs.Applies.{applies, all_apply_to}
use Rattle.lv_replay.specs.Numbers.{IsNumberedOrNone, AreNumbered}
use Rattle.lv_replay.specs.Replayed.{durable_visible, durable_upkeep, durable, replayed_visible, replayed}
use Rattle.lv_replay.specs.Runs.{IsStopped}
use Rattle.lv_replay.proofs.Applied.{IsNext, few_at, applied_table, applied_created, applied_view, applied_commit, acted_database}
use Rattle.lv_replay.proofs.Tests.{and_left, and_right, lt_of, le_of, all_alike}

-- ---- a world in which nothing is claimed or dropped
unclaimed : (n worker : ℕ) (f : Forced) → get_or (replicate {A = Option Forced} n None) worker None ≡ Some f → ⊥
unclaimed zero worker f e = cc
unclaimed (suc n) zero f e = cc
unclaimed (suc n) (suc worker) f e = unclaimed n worker f e

abbrev idle : List ℕ → ℕ → Upkeep
idle marks journal = record { points = marks; marks = marks; claims = replicate 9 None; pruned = 0; journal = journal }

idle_steady : (s : Visible) (marks : List ℕ) (journal : ℕ) → IsSound s → length marks ≡ length s.views → ((v : ℕ) → v < length s.views → IsMaintained s (view_at s.views v) (get_or marks v 0) (get_or marks v 0))
    → IsSteady (record { visible = s; upkeep = idle marks journal })
idle_steady s marks journal sound long views = record {
  sound = sound;
  points = long;
  marks = long;
  workers = refl;
  views = views;
  pruned = omega arith;
  claims = λ worker f e. absurd (unclaimed 9 worker f e);
  alone = λ a b f g e d same. absurd (unclaimed 9 a f e);
}

durable_sound : (s : Visible) → IsSound s → IsSound (durable_visible s)
durable_sound s sound = record {
  schema = sound.schema;
  created = sound.created;
  states = sound.states;
  places = refl;
  fits = sound.fits;
  commits = λ k lt. let was = sound.commits k lt in record { some_actions = was.some_actions; can_act = was.can_act; leads = was.leads };
  open_ones = all_alike (IsOpenOrNone (durable_visible s)) None 17 tt;
}

pub durable_steady : (w : World) → IsSteady w → IsSteady (durable w)
durable_steady w steady = idle_steady (durable_visible w.visible) w.upkeep.marks w.upkeep.journal (durable_sound w.visible steady.sound) steady.marks
    (λ v lt. let was = steady.views v lt in record { created = was.created; marked = omega arith; within = omega (arith, was.marked, was.within) })

pub durable_numbered : (w : World) → IsStopped w → AreNumbered w.visible
durable_numbered w stopped = subst (λ (x : World). AreNumbered x.visible) stopped (all_alike IsNumberedOrNone None 17 tt)

-- ---- a commit that nobody runs beside
none_first : {X : Type 0} (xs : List X) → xs ≡ [] → slice_get xs 0 ≡ None
none_first xs e = ap (λ ys. slice_get ys 0) e

filter_none : (p : ℕ → Bool) → ((t : ℕ) → p t ≡ false) → (ts : List ℕ) → filter p ts ≡ []
filter_none p none [] = refl
filter_none p none (t ∷ ts) = ap (λ b. cond b (t ∷ filter p ts) (filter p ts)) (none t) ∙ filter_none p none ts

all_none : {X Y : Type 0} (f : X → Option Y) → ((x : X) → f x ≡ None) → (xs : List X) → filter_map f xs ≡ []
all_none f none [] = refl
all_none f none (x ∷ xs) = ap (λ y. cons_option y (filter_map f xs)) (none x) ∙ all_none f none xs

none_above : (q : ℕ → Bool) (n m : ℕ) → n ≤ m → filter (λ k. nat_lt m k && q k) (numbers n) ≡ []
none_above q zero m le = refl
none_above q (suc n) m le =
    let out : nat_lt m (suc n) ≡ false = grind (arith, nat_tests) in
    filter-append (λ k. nat_lt m k && q k) (numbers n) (suc n ∷ [])
    ∙ ap (λ xs. xs ++ filter (λ k. nat_lt m k && q k) (suc n ∷ [])) (none_above q n m (omega arith))
    ∙ ap (λ b. cond {A = List ℕ} (b && q (suc n)) (suc n ∷ []) []) out

module _ (s : Visible) (sound : IsSound s) (number : ℕ) (actions : List Action) (next : IsNext s number actions) where
  abbrev after : Db
  after = acted_all s.tables (snap s (last s)) actions

  abbrev pub alone_here : Open
  alone_here = record { snapshot = last s; own = after; actions = actions; changes = 0 }

  pub open_here : IsOpen s alone_here
  open_here = record { began = omega arith; can_act = next.can; leads = refl; fits = acted_database s.tables (snap s (last s)) actions (sound.fits (last s) (omega arith)) next.can next.few }

  no_writer : (at : Place) → last_writer s (last s) at ≡ None
  no_writer at = ap (last_or None) (none_above (λ k. writes s.tables (commit_at s.commits k) at) (last s) (last s) (omega arith))

  pub free_here : conflict_of s alone_here ≡ None
  free_here = none_first _ (all_none (λ at. option_map (Conflict at.0 at.1) (last_writer s (last s) at)) (λ at. ap (option_map (Conflict at.0 at.1)) (no_writer at)) (ascending place_cmp (map (written_place s.tables) actions)))

  pub leads_here : merged s alone_here ≡ after
  leads_here = merged_is_replay s sound alone_here open_here free_here

  few_enough : (t : ℕ) → nat_lt 65535 (length (rows_of (merged s alone_here) t)) ≡ false
  few_enough t =
      let few : length (rows_of after t) ≤ 65535 = few_at after t next.few in
      ap (λ (db : Db). nat_lt 65535 (length (rows_of db t))) leads_here ∙ (let out : nat_lt 65535 (length (rows_of after t)) ≡ false = grind (arith, nat_tests) in out)

  room_here : merged_full s alone_here ≡ None
  room_here = ap (option_map MergedFull) (none_first _ (filter_none (λ t. nat_lt 65535 (length (rows_of (merged s alone_here) t))) few_enough (range_with_len 0 (length s.tables))))

  pub made_sound : IsSound (with_commit 0 alone_here s)
  made_sound = commit_sound s sound alone_here open_here free_here room_here 0 next.some

  commit_made_sound : IsSound (record s { snaps = s.snaps ++ after ∷ []; commits = s.commits ++ actions ∷ []; sessions = slice_set s.sessions 0 None })
  commit_made_sound = subst (λ (db : Db). IsSound (record s { snaps = s.snaps ++ db ∷ []; commits = s.commits ++ actions ∷ []; sessions = slice_set s.sessions 0 None })) leads_here made_sound

-- ---- a record that applies to what a stop leaves
module _ (w : World) (steady : IsSteady w) where
  rest : IsSteady (durable w)
  rest = durable_steady w steady

  table_replayed : (def : TableDef) → IsKeptTable def → applies (Table def) (durable w) ≡ true → IsSteady (replayed (Table def) (durable w))
  table_replayed def kept h =
      subst (λ (n : ℕ). IsSteady (record { visible = with_table (record def { no = length w.visible.tables }) (durable_visible w.visible); upkeep = with_record (Some (Table (record def { no = n }))) (durable_upkeep w.upkeep) }))
      (sym kept.no_number) (table_made_steady (λ r. good) (record def { no = length w.visible.tables }) (durable w) rest (applied_table (durable_visible w.visible) def kept h))

  abbrev with_made : ViewDef → ℕ → ℕ → World
  with_made def n c = record {
    visible = record (durable_visible w.visible) { views = w.visible.views ++ record def { no = length w.visible.views; created = c } ∷ [] };
    upkeep = with_record (Some (View (record def { no = n; created = c }))) (durable_upkeep w.upkeep);
  }

  view_replayed : (def : ViewDef) → IsKeptView def → applies (View def) (durable w) ≡ true → IsSteady (replayed (View def) (durable w))
  view_replayed def kept h =
      subst (λ (n : ℕ). IsSteady (with_made def n def.created)) (sym kept.no_number)
      (subst (λ (c : ℕ). IsSteady (with_made def 0 c)) (sym (applied_created (durable_visible w.visible) def h))
      (view_made_steady (λ r. good) (record def { no = length w.visible.views }) (durable w) rest (applied_view (durable_visible w.visible) def kept h)))

  commit_replayed : (number : ℕ) (actions : List Action) → applies (Commit number actions) (durable w) ≡ true → IsSteady (replayed (Commit number actions) (durable w))
  commit_replayed number actions h =
      idle_steady (replayed_visible (Commit number actions) (durable_visible w.visible)) w.upkeep.marks (replayed (Commit number actions) (durable w)).upkeep.journal
      (commit_made_sound (durable_visible w.visible) (durable_sound w.visible steady.sound) number actions (applied_commit (durable_visible w.visible) number actions h))
      steady.marks
      (λ v lt. let was = rest.views v lt in record { created = was.created; marked = omega arith; within = omega (arith, was.within, length_push w.visible.commits actions) })

  eq_cases : (a b : ℕ) → (a ≡ b) ⊎ (a ≡ b → ⊥)
  eq_cases a b = grind arith

  mark_replayed : (view upto : ℕ) → applies (Mark view upto) (durable w) ≡ true → IsSteady (replayed (Mark view upto) (durable w))
  mark_replayed view upto h =
      idle_steady (durable_visible w.visible) (slice_set w.upkeep.marks view upto) (replayed (Mark view upto) (durable w)).upkeep.journal (durable_sound w.visible steady.sound)
      (length-set w.upkeep.marks view upto ∙ steady.marks) (λ v lt. each v lt (eq_cases v view))
    where
      more : (nat_lt (get_or w.upkeep.marks view 0) upto && (nat_le upto (last w.visible))) ≡ true
      more = and_right (nat_lt view (length w.visible.views)) _ h

      each : (v : ℕ) → v < length w.visible.views → (v ≡ view) ⊎ (v ≡ view → ⊥) → IsMaintained (durable_visible w.visible) (view_at w.visible.views v) (get_or (slice_set w.upkeep.marks view upto) v 0) (get_or (slice_set w.upkeep.marks view upto) v 0)
      each v lt (inl e) =
          let was = rest.views v lt in
          let above : get_or w.upkeep.marks view 0 < upto = lt_of (get_or w.upkeep.marks view 0) upto (and_left _ _ more) in
          let below : upto ≤ last w.visible = le_of upto (last w.visible) (and_right (nat_lt (get_or w.upkeep.marks view 0) upto) _ more) in
          let here : get_or (slice_set w.upkeep.marks view upto) v 0 ≡ upto = ap (λ u. get_or (slice_set w.upkeep.marks view upto) u 0) e ∙ get_or-set_same w.upkeep.marks view upto 0 (omega (arith, steady.marks)) in
          let old : get_or w.upkeep.marks v 0 ≡ get_or w.upkeep.marks view 0 = ap (λ u. get_or w.upkeep.marks u 0) e in
          record { created = omega (arith, was.created); marked = omega arith; within = omega arith }
      each v lt (inr ne) =
          let was = rest.views v lt in
          let here : get_or (slice_set w.upkeep.marks view upto) v 0 ≡ get_or w.upkeep.marks v 0 = get_or-set_other w.upkeep.marks view v upto 0 ne in
          record { created = omega (arith, was.created); marked = omega arith; within = omega (arith, was.within) }

  durable_replayed : (r : Rec) → IsKept r → applies r (durable w) ≡ true → IsSteady (replayed r (durable w))
  durable_replayed (Table def) kept h = table_replayed def kept h
  durable_replayed (View def) kept h = view_replayed def kept h
  durable_replayed (Commit number actions) kept h = commit_replayed number actions h
  durable_replayed (Mark view upto) kept h = mark_replayed view upto h

pub replayed_steady : (r : Rec) (w : World) → IsSteady w → IsStopped w → IsKept r → applies r w ≡ true → IsSteady (replayed r w)
replayed_steady r w steady stopped kept h =
    subst (λ (x : World). IsSteady (replayed r x)) stopped (durable_replayed w steady r kept (subst (λ (x : World). applies r x ≡ true) (sym stopped) h))

durable_last : (r : Rec) (w : World) → durable (replayed r w) ≡ replayed r (durable w)
durable_last (Table def) w = refl
durable_last (View def) w = refl
durable_last (Commit number actions) w = refl
durable_last (Mark view upto) w = refl

pub replayed_stopped : (r : Rec) (w : World) → IsStopped w → IsStopped (replayed r w)
replayed_stopped r w stopped = ap (λ (x : World). durable (replayed r x)) (sym stopped) ∙ ap durable (sym (durable_last r w)) ∙ durable_last r w ∙ ap (replayed r) stopped

-- ---- one after another
from_steady : (recs : List Rec) (w : World) → IsSteady w → IsStopped w → AllByRecursion IsKept recs → all_apply_to w recs ≡ true
    → IsSteady (fold (λ x rec. replayed rec x) w recs) × IsStopped (fold (λ x rec. replayed rec x) w recs)
from_steady [] w steady stopped kept h = (steady, stopped)
from_steady (r ∷ recs) w steady stopped kept h =
    from_steady recs (replayed r w) (replayed_steady r w steady stopped kept.0 (and_left _ _ h)) (replayed_stopped r w stopped) kept.1 (and_right (applies r w) _ h)

pub state_steady : (recs : List Rec) → AllByRecursion IsKept recs → all_apply_to empty_world recs ≡ true → IsSteady (fold (λ x rec. replayed rec x) empty_world recs) × IsStopped (fold (λ x rec. replayed rec x) empty_world recs)
state_steady recs kept h = from_steady recs empty_world empty_steady refl kept h
