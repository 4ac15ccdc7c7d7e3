-- An empty engine, CREATE TABLE, and a mark.
use Rattle.std.proofs.Common.{◌≡◌, ℕ, zero, suc, ◌+◌, ◌-◌, ◌<◌, ◌≤◌, List, [], ◌∷◌, ◌++◌, map, length, get_or, Option, Some, None, refl, sym, ap, ap₂, ◌∙◌, subst, arith}
use Rattle.std.specs.Prelude.{◌⊎◌, option_map}
use Rattle.std.specs.List.{filter, sum_by, AllByRecursion, AllZip}
use Rattle.std.proofs.lemmas.List.{length_push, get_or_append_left, get_or_push, get_or-map}
use mathlib.Core.Logic.{inl, inr}
use Rattle.lv_schema.specs.declared.open.Open.{Open}
use Rattle.lv_schema.specs.declared.rec.Rec.{Rec}
use Rattle.lv_schema.specs.declared.table.TableDef.{TableDef}
use Rattle.lv_schema.specs.Bound.{IsBoundTable}
use Rattle.lv_schema.specs.Cases.{Outcome, good, if_written, with_empty, with_empty_own, with_table, table_made}
use Rattle.lv_schema.specs.Commits.{Place}
use Rattle.lv_schema.specs.Databases.{Db, rows_of}
use Rattle.lv_schema.specs.GoesOn.{GoesOn}
use Rattle.lv_schema.specs.Keys.{row_at, at_place}
use Rattle.lv_schema.specs.Nets.{lacking}
use Rattle.lv_schema.specs.Records.{table_record}
use Rattle.lv_schema.specs.SoundWorld.{IsOpenOrNone, IsSound}
use Rattle.lv_schema.specs.WholeWorld.{world_after}
use Rattle.lv_schema.specs.UpkeepCases.{need}
use Rattle.lv_schema.specs.declared.version.RowVersion.{RowVersion}
use Rattle.lv_schema.specs.Versions.{new_version, ended, ends_after, versions_of, kept_versions}
use Rattle.lv_schema.specs.World.{Visible, World, empty_world, last, snap, no_table, table_at}
use Rattle.lv_schema.proofs.GoingOn.{table_goes_on}
use Rattle.lv_schema.proofs.Replay.{keyed_database}
use Rattle.lv_schema.proofs.SteadySteps.{empty_steady, table_made_steady}
use Rattle.lv_overlay.specs.Puts.{over}
use Rattle.lv_txn.specs.Kept.{TransactionKept}
use Rattle.lv_stands.specs.Kept.{TableKept, BaseKept, EngineKept, no_table_kept, table_kept}
use Rattle.lv_stands.specs.Moves.{engine_empty, table_new, engine_with_table, journal_with}
use Rattle.lv_stands.specs.Stands.{TableStands, BaseStands, SessionStands, StandsFor}
use Rattle.lv_stands.proofs.Commits.{versions_alike}
use Rattle.lv_stands.proofs.Statements.{view_rows_committed}

-- ---- an empty engine
pub empty_stands : StandsFor empty_world engine_empty
empty_stands = record {
  steady = empty_steady;
  tables_are = refl;
  views_are = refl;
  base_stands = record { all = refl; each = λ t lt. absurd (omega arith); entries_are = refl; number_is = refl; pruned_is = refl };
  upkeep_stands = record { points_are = refl; marks_are = refl; claims_are = refl; all = refl; each = λ v lt. absurd (omega arith) };
  views_stand = record { all = refl; each = λ v lt. absurd (omega arith) };
  sessions_stand = (tt, (tt, (tt, (tt, (tt, (tt, (tt, (tt, (tt, (tt, (tt, (tt, (tt, (tt, (tt, (tt, (tt, tt)))))))))))))))));
  journal_is = refl;
}

-- ---- CREATE TABLE
rows_wide : (db : Db) (table : ℕ) → rows_of (with_empty db) table ≡ rows_of db table
rows_wide [] zero = refl
rows_wide [] (suc table) = refl
rows_wide (rows ∷ db) zero = refl
rows_wide (rows ∷ db) (suc table) = rows_wide db table

rows_beyond : (db : Db) (table : ℕ) → length db ≤ table → rows_of db table ≡ []
rows_beyond [] table le = refl
rows_beyond (rows ∷ db) zero le = absurd (omega arith)
rows_beyond (rows ∷ db) (suc table) le = rows_beyond db table (omega arith)

get_beyond : {X : Type 0} (xs : List X) (d : X) (i : ℕ) → length xs ≤ i → get_or xs i d ≡ d
get_beyond [] d i le = refl
get_beyond (x ∷ xs) d zero le = absurd (omega arith)
get_beyond (x ∷ xs) d (suc i) le = get_beyond xs d i (omega arith)

place_wide : (tables : List TableDef) (def : TableDef) (db : Db) (p : Place) → length db ≡ length tables → at_place (tables ++ def ∷ []) (with_empty db) p ≡ at_place tables db p
place_wide tables def db p long = by (cases p.0 (length tables))
  where
    cases : (k t : ℕ) → (k < t) ⊎ (t ≤ k)
    cases k t = grind arith

    by : (p.0 < length tables) ⊎ (length tables ≤ p.0) → row_at (table_at (tables ++ def ∷ []) p.0).key p.1 (rows_of (with_empty db) p.0) ≡ row_at (table_at tables p.0).key p.1 (rows_of db p.0)
    by (inl lt) = λ i. row_at (get_or_append_left tables (def ∷ []) no_table p.0 lt i).key p.1 (rows_wide db p.0 i)
    by (inr le) =
        ap (row_at (table_at (tables ++ def ∷ []) p.0).key p.1) (rows_wide db p.0 ∙ rows_beyond db p.0 (omega (arith, long)))
        ∙ sym (ap (row_at (table_at tables p.0).key p.1) (rows_beyond db p.0 (omega (arith, long))))

no_versions : (s : Visible) (table n : ℕ) → ((k : ℕ) → k ≤ n → rows_of (snap s k) table ≡ []) → versions_of s table n ≡ []
no_versions s table zero none = ap (map (new_version 0)) (none 0 (omega arith))
no_versions s table (suc n) none =
    ap₂ (λ (xs ys : List RowVersion). xs ++ ys)
    (ap (map (ended (suc n) (rows_of (snap s (suc n)) table))) (no_versions s table n (λ k le. none k (omega arith))))
    (ap (λ rows. map (new_version (suc n)) (lacking rows (rows_of (snap s (suc n - 1)) table))) (none (suc n) (omega arith)))

module _ (def : TableDef) (w : World) (sound : IsSound w.visible) where
  snap_wide : (k : ℕ) → k ≤ last w.visible → snap (with_table def w.visible) k ≡ with_empty (snap w.visible k)
  snap_wide k le = get_or-map with_empty w.visible.snaps k [] [] (omega (arith, sound.states))

  long_at : (k : ℕ) → k ≤ last w.visible → length (snap w.visible k) ≡ length w.visible.tables
  long_at k le = (keyed_database w.visible.tables (snap w.visible k) (sound.fits k le)).long

  sessions_wide : (os : List (Option Open)) (ks : List (Option TransactionKept)) → AllByRecursion (IsOpenOrNone w.visible) os → AllZip (SessionStands w.visible) os ks → AllZip (SessionStands (with_table def w.visible)) (map (option_map with_empty_own) os) ks
  sessions_wide [] [] live is = tt
  sessions_wide [] (k ∷ ks) live is = absurd is
  sessions_wide (o ∷ os) [] live is = absurd is
  sessions_wide (None ∷ os) (None ∷ ks) live is = (tt, sessions_wide os ks live.1 is.1)
  sessions_wide (None ∷ os) (Some k ∷ ks) live is = absurd is.0
  sessions_wide (Some o ∷ os) (None ∷ ks) live is = absurd is.0
  sessions_wide (Some o ∷ os) (Some k ∷ ks) live is = (
    record {
      snapshot_is = is.0.snapshot_is;
      actions_are = is.0.actions_are;
      changes_are = is.0.changes_are;
      own = λ p.
          ap (λ db. over k.puts p (at_place (w.visible.tables ++ def ∷ []) db p)) (snap_wide o.snapshot live.0.began)
          ∙ ap (over k.puts p) (place_wide w.visible.tables def (snap w.visible o.snapshot) p (long_at o.snapshot live.0.began))
          ∙ is.0.own p
          ∙ sym (place_wide w.visible.tables def o.own p (keyed_database w.visible.tables o.own live.0.fits).long);
    },
    sessions_wide os ks live.1 is.1,
  )

  wide_goes_on : GoesOn w.visible (with_table def w.visible)
  wide_goes_on = table_goes_on (λ r. good) def w.visible sound

  kept_wide : (pruned t : ℕ) → kept_versions (with_table def w.visible) pruned t ≡ kept_versions w.visible pruned t
  kept_wide pruned t = ap (filter (λ (v : RowVersion). ends_after pruned v.until)) (versions_alike w.visible (with_table def w.visible) t (last w.visible) (λ k le. wide_goes_on.rows k t le) (last w.visible) (omega arith))

  none_there : (k : ℕ) → k ≤ last w.visible → rows_of (snap (with_table def w.visible) k) (length w.visible.tables) ≡ []
  none_there k le = wide_goes_on.rows k (length w.visible.tables) le ∙ rows_beyond (snap w.visible k) (length w.visible.tables) (omega (arith, long_at k le))

  old_table : (pruned t : ℕ) (k : TableKept) → t < length w.visible.tables → TableStands w.visible pruned t k → TableStands (with_table def w.visible) pruned t k
  old_table pruned t k lt is = record {
    def_is = is.def_is ∙ sym (get_or_append_left w.visible.tables (def ∷ []) no_table t lt);
    by = is.by;
    floor_by = is.floor_by;
    reads = λ n above upto. is.reads n above upto ∙ sym (wide_goes_on.rows n t upto);
    newest = λ n from. is.newest n from ∙ sym (wide_goes_on.rows (last w.visible) t (omega arith));
    kept = λ f. is.kept f ∙ ap (sum_by f) (sym (kept_wide pruned t));
  }

  new_table : (pruned : ℕ) → TableStands (with_table def w.visible) pruned (length w.visible.tables) (table_new def)
  new_table pruned = record {
    def_is = sym (get_or_push w.visible.tables def no_table (length w.visible.tables) refl);
    by = omega arith;
    floor_by = omega arith;
    reads = λ n above upto. sym (none_there n upto);
    newest = λ n from. sym (none_there (last w.visible) (omega arith));
    kept = λ f. ap (sum_by f) (sym (ap (filter (λ (v : RowVersion). ends_after pruned v.until)) (no_versions (with_table def w.visible) (length w.visible.tables) (last w.visible) none_there)));
  }

  pub base_wide : (pruned : ℕ) (b : BaseKept) → BaseStands w.visible pruned b → BaseStands (with_table def w.visible) pruned (record b { tables = b.tables ++ table_new def ∷ [] })
  base_wide pruned b is = record {
    all = length_push b.tables (table_new def) ∙ ap (λ n. n + 1) is.all ∙ sym (length_push w.visible.tables def);
    each = λ t lt. each t (cases t (length w.visible.tables) (omega (arith, lt, length_push w.visible.tables def)));
    entries_are = is.entries_are;
    number_is = is.number_is;
    pruned_is = is.pruned_is;
  }
    where
      cases : (t n : ℕ) → t < n + 1 → (t < n) ⊎ (t ≡ n)
      cases t n h = grind arith

      each : (t : ℕ) → (t < length w.visible.tables) ⊎ (t ≡ length w.visible.tables) → TableStands (with_table def w.visible) pruned t (get_or (b.tables ++ table_new def ∷ []) t no_table_kept)
      each t (inl lt) = subst (TableStands (with_table def w.visible) pruned t) (sym (get_or_append_left b.tables (table_new def ∷ []) no_table_kept t (omega (arith, lt, is.all)))) (old_table pruned t (table_kept b.tables t) lt (is.each t lt))
      each t (inr e) =
          subst (TableStands (with_table def w.visible) pruned t) (sym (get_or_push b.tables (table_new def) no_table_kept t (omega (arith, e, is.all))))
          (subst (λ n. TableStands (with_table def w.visible) pruned n (table_new def)) (sym e) (new_table pruned))

pub table_stands : (outcome : Rec → Outcome) (def : TableDef) (w : World) (e : EngineKept) → StandsFor w e → IsBoundTable w.visible.tables w.visible.views def → outcome (table_record def) ≡ good
    → StandsFor (world_after (table_made outcome def w.visible) w) (engine_with_table def e)
table_stands outcome def w e is bound written =
    subst (λ out. StandsFor (world_after (if_written out (table_record def) tt (with_table def w.visible) w.visible) w) (engine_with_table def e)) (sym written)
    (record {
      steady = table_made_steady (λ r. good) def w is.steady bound;
      tables_are = ap (λ ts. ts ++ def ∷ []) is.tables_are;
      views_are = is.views_are;
      base_stands = base_wide def w is.steady.sound w.upkeep.pruned e.base is.base_stands;
      upkeep_stands = record { points_are = is.upkeep_stands.points_are; marks_are = is.upkeep_stands.marks_are; claims_are = is.upkeep_stands.claims_are; all = is.upkeep_stands.all; each = is.upkeep_stands.each };
      views_stand = view_rows_committed w (with_table def w.visible) (need w.upkeep (table_record def)) e.rows (table_goes_on (λ r. good) def w.visible is.steady.sound) refl is.steady is.views_stand;
      sessions_stand = sessions_wide def w is.steady.sound w.visible.sessions e.sessions is.steady.sound.open_ones is.sessions_stand;
      journal_is = ap (journal_with (table_record def)) is.journal_is;
    })
