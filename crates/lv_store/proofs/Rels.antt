-- What a query reads of each table and view, and its answer.
use Rattle.std.proofs.Common.{◌≡◌, ℕ, Bool, true, false, not, ◌&&◌, ◌||◌, cond, List, [], ◌∷◌, ◌++◌, map, refl, sym, ap, ap₂, ◌∙◌, arith}
use Rattle.std.specs.Prelude.{if◌then◌else◌}
use Rattle.std.specs.List.{AllByRecursion, list_all, list_any}
use Rattle.std.proofs.lemmas.Bool.Decides.{nat_tests}
use Rattle.lv_values.specs.declared.value.Value.{Value}
use Rattle.lv_schema.specs.declared.action.Action.{Action}
use Rattle.lv_schema.specs.declared.cond.Cond.{Cond}
use Rattle.lv_schema.specs.declared.query.Query.{Query}
use Rattle.lv_schema.specs.declared.query.Rel.{Rel}
use Rattle.lv_schema.specs.declared.query.Rel.TheVariants.{Table, View}
use Rattle.lv_schema.specs.declared.view.ViewDef.{ViewDef}
use Rattle.lv_schema.specs.Answers.{answer_over, rel_rows}
use Rattle.lv_schema.specs.Bound.{rel_in_use}
use Rattle.lv_schema.specs.Cases.{queried}
use Rattle.lv_schema.specs.Effects.{matching}
use Rattle.lv_schema.specs.Groups.{view_rows, view_rows_over}
use Rattle.lv_schema.specs.JoinViews.{selected}
use Rattle.lv_schema.specs.Keys.{write_none, writes_table}
use Rattle.lv_schema.specs.Truth.{holds}
use Rattle.lv_schema.specs.Tuples.{Tuple}
use Rattle.lv_schema.specs.World.{World, snap, transaction, view_at}
use Rattle.lv_schema.proofs.SoundSteps.{transaction_live}
use Rattle.lv_overlay.specs.Puts.{StandUnder}
use Rattle.lv_txn.specs.Kept.{IsLive, transaction_of}
use Rattle.lv_schema.specs.World.{table_at}
use Rattle.lv_viewrows.specs.Kept.{ViewKept, shown}
use Rattle.lv_stands.proofs.OwnViews.{own_view_is as unwritten_view_is}
use Rattle.lv_store.specs.declared.store.Store.{Store}
use Rattle.lv_store.specs.Answering.{is_view}
use Rattle.lv_store.specs.Querying.{has_written, own_rows_in, reads_kept, rel_rows_in}
use Rattle.lv_store.specs.Kept.{Stands, rows_in, store_of}
use Rattle.lv_store.proofs.OwnReads.{own_is, own_view_is, transaction_stands}
use Rattle.lv_store.proofs.Views.{IfView, both}

-- ---- a query of one table or view keeps the same tuples of the part of its rows that it tries
abbrev alone : List Value → Tuple
alone row = row ∷ []

selected_one : (c : Cond) (rows : List (List Value)) → selected c (rows ∷ []) ≡ map alone (matching c rows)
selected_one c [] = refl
selected_one c (row ∷ rows) = by (holds c (row ∷ [])) (selected_one c rows)
  where
    by : (b : Bool) → selected c (rows ∷ []) ≡ map alone (matching c rows)
        → cond b ((row ∷ []) ∷ selected c (rows ∷ [])) (selected c (rows ∷ [])) ≡ map alone (cond b (row ∷ matching c rows) (matching c rows))
    by true e = ap (λ l. (row ∷ []) ∷ l) e
    by false e = e

pub tried_one : (c : Cond) (read : Rel → List (List Value)) (rels : List Rel) (rel : Rel) (part : List (List Value)) (parts : List (List (List Value))) → rels ≡ rel ∷ []
    → parts ≡ [] ++ part ∷ [] → matching c part ≡ matching c (read rel) → selected c parts ≡ selected c (map read rels)
tried_one c read rels rel part parts only is all =
    ap (selected c) is ∙ selected_one c part ∙ ap (map alone) all ∙ sym (selected_one c (read rel)) ∙ ap (λ l. selected c (map read l)) (sym only)

not_written : (actions : List Action) (tables : List ℕ) → write_none actions tables ≡ not (list_any (writes_table actions) tables)
not_written actions [] = refl
not_written actions (t ∷ tables) = by (writes_table actions t) (not_written actions tables)
  where
    by : (b : Bool) → write_none actions tables ≡ not (list_any (writes_table actions) tables)
        → (not b && write_none actions tables) ≡ not (b || list_any (writes_table actions) tables)
    by true e = refl
    by false e = e

-- ---- what is read is what the query reads in the world
module _ (p : Store) (w : World) (is : Stands w (store_of p)) (session : ℕ) (live : IsLive p.txns session) where
  written_is : (v : ℕ) → has_written p session v ≡ list_any (writes_table (transaction session w.visible).actions) (view_at w.visible.views v).tables
  written_is v =
      ap (λ actions. list_any (writes_table actions) (view_at p.schema.views v).tables) (transaction_stands p w is session live).actions_are
      ∙ ap (λ (vs : List ViewDef). list_any (writes_table (transaction session w.visible).actions) (view_at vs v).tables) is.views_are

  -- where the transaction wrote no table of the views, and no table is named, only what is kept is read
  pub reads_kept_all : (rels : List Rel) → list_all is_view rels ≡ true
      → AllByRecursion (IfView (λ v. write_none (transaction session w.visible).actions (view_at w.visible.views v).tables ≡ true)) rels → list_all (reads_kept p session) rels ≡ true
  reads_kept_all [] views a = refl
  reads_kept_all (Table t ∷ rels) views a = cc
  reads_kept_all (View v ∷ rels) views a =
      let here : not (has_written p session v) ≡ true = ap not (written_is v) ∙ sym (not_written (transaction session w.visible).actions (view_at w.visible.views v).tables) ∙ a.0 in
      rw here (reads_kept_all rels views a.1)

  -- a view shows its rows at the snapshot
  abbrev pub Shows : List ViewKept → ℕ → Type 0
  Shows rows v = shown (transaction_of p.txns session).snapshot (rows_in rows v) ≡ view_rows (view_at w.visible.views v) (snap w.visible (transaction session w.visible).snapshot)

  module _ (under : (t : ℕ) → StandUnder (table_at p.schema.tables t).key t (transaction_of p.txns session).puts) (rows : List ViewKept) where
    rel_is : (rel : Rel) → rel_in_use p.schema.tables p.schema.views rel ≡ true → IfView (Shows rows) rel → rel_rows_in p session rows rel ≡ rel_rows w.visible.views (transaction session w.visible).own rel
    rel_is (Table t) test at = own_is p w is session live under t (grind (arith, nat_tests))
    rel_is (View v) test at = by (has_written p session v) refl
      where
        by : (b : Bool) → has_written p session v ≡ b
            → (if b then view_rows_over (view_at p.schema.views v) (map (own_rows_in p session) (view_at p.schema.views v).tables) else shown (transaction_of p.txns session).snapshot (rows_in rows v)) ≡ view_rows (view_at w.visible.views v) (transaction session w.visible).own
        by true e = own_view_is p w is session live under v (grind (arith, nat_tests))
        by false e = at ∙ sym (unwritten_view_is w.visible (transaction session w.visible) (view_at w.visible.views v) (transaction_live w.visible session is.steady.sound) (sym (written_is v) ∙ e))

    rels_are : (rels : List Rel) → list_all (rel_in_use p.schema.tables p.schema.views) rels ≡ true → AllByRecursion (IfView (Shows rows)) rels
        → map (rel_rows_in p session rows) rels ≡ map (rel_rows w.visible.views (transaction session w.visible).own) rels
    rels_are [] e a = refl
    rels_are (rel ∷ rels) e a =
        let es = both (rel_in_use p.schema.tables p.schema.views rel) (list_all (rel_in_use p.schema.tables p.schema.views) rels) e in
        ap₂ (λ x xs. x ∷ xs) (rel_is rel es.0 a.0) (rels_are rels es.1 a.1)

    pub answer_is : (query : Query) → list_all (rel_in_use p.schema.tables p.schema.views) query.rels ≡ true → AllByRecursion (IfView (Shows rows)) query.rels
        → answer_over query (map (rel_rows_in p session rows) query.rels) ≡ queried session query w.visible
    answer_is query e a = ap (answer_over query) (rels_are query.rels e a)
