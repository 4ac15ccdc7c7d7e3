-- A clean-up keeps what stands: versions, entries and rows from the floor on, and exactly those.
use Rattle.std.proofs.Common.{◌≡◌, ℕ, zero, suc, ◌+◌, ◌<◌, ◌≤◌, Bool, true, false, cond, ◌&&◌, List, [], ◌∷◌, length, Option, Some, None, refl, sym, ap, ap₂, ◌∙◌, subst, arith}
use Rattle.std.specs.Prelude.{nat_lt}
use Rattle.std.specs.List.{filter, sum_by, range_with_len, AllZip}
use Rattle.std.proofs.lemmas.Bool.Decides.{nat_tests}
use Rattle.std.proofs.lemmas.List.Sums.{sum_by-cons}
use mathlib.Core.Logic.{inl, inr}
use Rattle.lv_schema.specs.declared.action.DeltaEntry.{DeltaEntry}
use Rattle.lv_schema.specs.declared.open.Open.{Open}
use Rattle.lv_schema.specs.declared.view.ViewDef.{ViewDef}
use Rattle.lv_schema.specs.Databases.{rows_of}
use Rattle.lv_schema.specs.Greatest.{IsLive}
use Rattle.lv_schema.specs.SoundWorld.{IsSound}
use Rattle.lv_schema.specs.CleanUps.{floor, versions_kept, deltas_kept, table_versions}
use Rattle.lv_schema.specs.World.{least, Visible, World, last, snap, table_at, view_at, live, point}
use Rattle.lv_schema.specs.UpkeepCases.{cleaning}
use Rattle.lv_schema.specs.declared.version.RowVersion.{RowVersion}
use Rattle.lv_schema.specs.Versions.{ends_after, versions_of, kept_versions, delta_entries}
use Rattle.lv_schema.proofs.KeptCounts.{versions_are_counted, entries_are_counted, distinct_rows}
use Rattle.lv_schema.proofs.Replay.{keyed_database}
use Rattle.lv_schema.proofs.SteadyUpkeep.{cleaning_steady}
use Rattle.lv_schema.proofs.SteadyWorlds.{floor_last, least_among}
use Rattle.lv_txn.specs.Kept.{TransactionKept, live_kept}
use Rattle.lv_viewrows.specs.Kept.{rows_listed}
use Rattle.lv_stands.specs.Kept.{TableKept, BaseKept, ViewKept, EngineKept, table_kept, view_kept}
use Rattle.lv_stands.specs.Moves.{TableCleaned, BaseCleaned, ViewCleaned, ViewsCleaned, floor_kept, least_read, versions_counted, engine_cleaned}
use Rattle.lv_stands.specs.Stands.{HaveSame, TableStands, BaseStands, ViewStands, SessionStands, StandsFor}
use Rattle.lv_stands.proofs.Lists.{sum-filter}
use Rattle.lv_stands.proofs.Tasks.{filter_twice}

both_after : (low floor : ℕ) (u : Option ℕ) → low ≤ floor → (ends_after low u && ends_after floor u) ≡ ends_after floor u
both_after low floor None le = refl
both_after low floor (Some k) le = by (nat_lt floor k) refl
  where
    and_false : (a : Bool) → (a && false) ≡ false
    and_false true = refl
    and_false false = refl

    by : (b : Bool) → nat_lt floor k ≡ b → (nat_lt low k && nat_lt floor k) ≡ nat_lt floor k
    by true e = let f : nat_lt low k ≡ true = grind (arith, nat_tests) in rw (e, f) refl
    by false e = rw e (and_false (nat_lt low k))

table_cleaned : (s : Visible) (low bound t : ℕ) (old new : TableKept) → low ≤ bound → bound ≤ last s → TableStands s low t old → TableCleaned bound old new → TableStands s bound t new
table_cleaned s low bound t old new le within is c = record {
  def_is = c.def_stays ∙ is.def_is;
  by = omega (arith, c.last_stays, is.by);
  floor_by = omega (arith, c.floor_is);
  reads = λ n above upto. c.from n above ∙ is.reads n (omega arith) upto;
  newest = λ n from. c.from n (omega arith) ∙ is.newest n from;
  kept = kept;
}
  where
    kept : HaveSame (kept_versions s bound t) new.versions
    kept f =
        ap (sum_by f) c.versions_are
        ∙ sum-filter (λ (v : RowVersion). ends_after bound v.until) f old.versions
        ∙ is.kept (λ v. cond (ends_after bound v.until) (f v) 0)
        ∙ sym (sum-filter (λ (v : RowVersion). ends_after bound v.until) f (kept_versions s low t))
        ∙ ap (sum_by f) (filter_twice (λ (v : RowVersion). ends_after bound v.until) (λ (v : RowVersion). ends_after low v.until) (λ (v : RowVersion). ends_after bound v.until) (versions_of s t (last s)) (λ v. both_after low bound v.until le))

base_cleaned : (s : Visible) (low bound : ℕ) (old new : BaseKept) → low ≤ bound → bound ≤ last s → BaseStands s low old → BaseCleaned bound old new → BaseStands s bound new
base_cleaned s low bound old new le within is c = record {
  all = c.all ∙ is.all;
  each = λ t lt. table_cleaned s low bound t (table_kept old.tables t) (table_kept new.tables t) le within (is.each t lt) (c.each t (omega (arith, is.all)));
  entries_are = c.entries_are ∙ ap (filter (λ (e : DeltaEntry). nat_lt bound e.number)) is.entries_are
      ∙ filter_twice (λ (e : DeltaEntry). nat_lt bound e.number) (λ (e : DeltaEntry). nat_lt low e.number) (λ (e : DeltaEntry). nat_lt bound e.number) (delta_entries s) (λ e. both_after low bound (Some e.number) le);
  number_is = c.number_stays ∙ is.number_is;
  pruned_is = c.pruned_is;
}

view_cleaned : (s : Visible) (view : ViewDef) (p m : ℕ) (old new : ViewKept) → ((k : ℕ) → IsLive s k → m ≤ k) → ViewStands s view p old → ViewCleaned m old new → ViewStands s view p new
view_cleaned s view p m old new lives is c = record {
  at_is = c.at_stays ∙ is.at_is;
  served = record {
    now = λ k le. ap (rows_listed view) (c.reads k (inr (omega (arith, is.at_is)))) ∙ is.served.now k le;
    before = λ k l lt. ap (rows_listed view) (c.reads k (inl (lives k l))) ∙ is.served.before k l lt;
  };
  groups_are = λ n le. c.reads n (inr (omega (arith, is.at_is))) ∙ is.groups_are n le;
}

-- ---- what is read of the value alone
live_is : (s : Visible) (os : List (Option Open)) (ks : List (Option TransactionKept)) → AllZip (SessionStands s) os ks → live_kept ks ≡ live os
live_is s [] [] a = refl
live_is s [] (k ∷ ks) a = absurd a
live_is s (o ∷ os) [] a = absurd a
live_is s (None ∷ os) (None ∷ ks) a = live_is s os ks a.1
live_is s (None ∷ os) (Some k ∷ ks) a = absurd a.0
live_is s (Some o ∷ os) (None ∷ ks) a = absurd a.0
live_is s (Some o ∷ os) (Some k ∷ ks) a = ap₂ (λ n ns. n ∷ ns) a.0.snapshot_is (live_is s os ks a.1)

pub live_kept_is : (w : World) (e : EngineKept) → StandsFor w e → live_kept e.sessions ≡ live w.visible.sessions
live_kept_is w e is = live_is w.visible w.visible.sessions e.sessions is.sessions_stand

pub floor_is : (w : World) (e : EngineKept) → StandsFor w e → floor_kept e ≡ floor w
floor_is w e is = λ i. least (least (is.base_stands.number_is i) (is.upkeep_stands.points_are i)) (live_kept_is w e is i)

pub least_read_is : (w : World) (e : EngineKept) → StandsFor w e → (k : ℕ) → IsLive w.visible k → least_read e ≤ k
least_read_is w e is k l =
    let same : least_read e ≡ least (last w.visible) (live w.visible.sessions) = λ i. least (is.base_stands.number_is i) (live_kept_is w e is i) in
    omega (arith, same, least_among (last w.visible) (live w.visible.sessions) k l)

pub cleaned_stands : (w : World) (e : EngineKept) (base : BaseKept) (rows : List ViewKept) → StandsFor w e → BaseCleaned (floor_kept e) e.base base → ViewsCleaned (least_read e) e.rows rows
    → StandsFor (record { visible = w.visible; upkeep = (cleaning w).1 }) (engine_cleaned base rows e)
cleaned_stands w e base rows is b v = record {
  steady = cleaning_steady w is.steady;
  tables_are = is.tables_are;
  views_are = is.views_are;
  base_stands = base_cleaned w.visible w.upkeep.pruned (floor w) e.base base is.steady.pruned (floor_last w) is.base_stands (subst (λ n. BaseCleaned n e.base base) (floor_is w e is) b);
  upkeep_stands = record { points_are = is.upkeep_stands.points_are; marks_are = is.upkeep_stands.marks_are; claims_are = is.upkeep_stands.claims_are; all = is.upkeep_stands.all; each = is.upkeep_stands.each };
  views_stand = record {
    all = v.all ∙ is.views_stand.all;
    each = λ n lt. view_cleaned w.visible (view_at w.visible.views n) (point w.upkeep n) (least_read e) (view_kept e.rows n) (view_kept rows n) (least_read_is w e is) (is.views_stand.each n lt) (v.each n (omega (arith, is.views_stand.all)));
  };
  sessions_stand = is.sessions_stand;
  journal_is = is.journal_is;
}

-- ---- what is counted of it
ones : {X : Type 0} (xs : List X) → sum_by (λ x. 1) xs ≡ length xs
ones [] = refl
ones (x ∷ xs) = omega (arith, sum_by-cons (λ x. 1) x xs, ones xs)

sums_alike : (f g : ℕ → ℕ) (a n : ℕ) → ((t : ℕ) → a ≤ t → t < a + n → f t ≡ g t) → sum_by f (range_with_len a n) ≡ sum_by g (range_with_len a n)
sums_alike f g a zero same = refl
sums_alike f g a (suc n) same =
    let rest = sums_alike f g (a + 1) n (λ t x y. same t (omega arith) (omega arith)) in
    let here = same a (omega arith) (omega arith) in
    omega (arith, sum_by-cons f a (range_with_len (a + 1) n), sum_by-cons g a (range_with_len (a + 1) n), rest, here)

pub counts_are : (s : Visible) (pruned : ℕ) (b : BaseKept) → IsSound s → pruned ≤ last s → BaseStands s pruned b → (versions_counted b ≡ versions_kept s pruned) × (length b.entries ≡ deltas_kept s pruned)
counts_are s pruned b sound le is = (
  ap (λ n. sum_by (λ t. length (table_kept b.tables t).versions) (range_with_len 0 n)) is.all
      ∙ sums_alike (λ t. length (table_kept b.tables t).versions) (table_versions s pruned) 0 (length s.tables) (λ t x y. each t (omega arith)),
  ap length is.entries_are ∙ entries_are_counted s pruned,
)
  where
    each : (t : ℕ) → t < length s.tables → length (table_kept b.tables t).versions ≡ table_versions s pruned t
    each t lt =
        sym (ones (table_kept b.tables t).versions) ∙ (is.each t lt).kept (λ v. 1) ∙ ones (kept_versions s pruned t)
        ∙ versions_are_counted s pruned t le (λ k h. distinct_rows (table_at s.tables t).key (rows_of (snap s k) t) ((keyed_database s.tables (snap s k) (sound.fits k (omega arith))).up t lt))
