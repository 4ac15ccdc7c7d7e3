-- A view that is made in parts that stand for a world.
use Rattle.std.proofs.Common.{◌≡◌, ℕ, ◌+◌, ◌<◌, ◌≤◌, List, [], ◌∷◌, ◌++◌, take, length, Option, refl, sym, ap, ◌∙◌, subst, arith}
use Rattle.std.specs.Prelude.{◌⊎◌, true, false}
use Rattle.std.specs.List.{list_all}
use Rattle.std.proofs.Math.Path.{subst₂}
use Rattle.std.proofs.lemmas.List.{get_or_append_left, get_or_push, length-map, length_push}
use Rattle.std.proofs.Math.Seq.{take-append_seam}
use mathlib.Core.Logic.{inl, inr}
use Rattle.lv_values.specs.declared.value.Value.{Value}
use Rattle.lv_schema.specs.declared.rec.Rec.{Rec}
use Rattle.lv_schema.specs.declared.signed.SignedRow.{SignedRow}
use Rattle.lv_schema.specs.declared.table.TableDef.{TableDef}
use Rattle.lv_schema.specs.declared.view.ViewDef.{ViewDef}
use Rattle.lv_schema.specs.Bound.{IsBoundView}
use Rattle.lv_schema.specs.Cases.{Outcome, good, view_made}
use Rattle.lv_schema.specs.Cases as cases
use Rattle.lv_schema.specs.Differences.{groups_of, groups_over}
use Rattle.lv_schema.specs.Greatest.{Among, IsLive}
use Rattle.lv_schema.specs.Groups.{view_rows, view_rows_over}
use Rattle.lv_schema.specs.Records.{view_record}
use Rattle.lv_schema.specs.WholeWorld.{world_after}
use Rattle.lv_schema.specs.World.{World, last, no_view, snap, table_at, view_at}
use Rattle.lv_schema.proofs.SteadySteps.{view_made_steady}
use Rattle.lv_overlay.specs.Puts.{StandUnder}
use Rattle.lv_txn.specs.Kept.{TransactionKept, live_kept, transaction_of}
use Rattle.lv_viewrows.specs.Kept as viewrows
use Rattle.lv_stands.specs.Kept.{BaseKept, EngineKept, ViewKept}
use Rattle.lv_stands.specs.Moves.{engine_with_view, view_made_kept}
use Rattle.lv_stands.specs.Stands.{StandsFor}
use Rattle.lv_stands.proofs.Cleans.{live_kept_is}
use Rattle.lv_stands.proofs.Whole.{lengths_are}
use Rattle.lv_upkeep.specs.Moves.{upkeep_with_view}
use Rattle.lv_base.specs.Bases.{BaseRoom, IsReindexed}
use Rattle.lv_base.proofs.Reindexed.{same_kept}
use Rattle.lv_made.specs.Views.{IsMadeView, parts_at}
use Rattle.lv_store.specs.declared.store.Store.{Store}
use Rattle.lv_store.specs.declared.settings.Settings.{Settings}
use Rattle.lv_store.specs.Answering.{wrote}
use Rattle.lv_store.specs.MadeViews.{with_view}
use Rattle.lv_store.specs.Kept.{IsStore, Stands, StoreKept, is_used, kept, no_rows, rows_in, rows_of, store_of}
use Rattle.lv_store.proofs.EvaluatedViews.{bound_there, parts_are}
use Rattle.lv_store.proofs.Standing.{any_journal}

abbrev ViewKeeps : Type 0
ViewKeeps = (outcome : Rec → Outcome) (def : ViewDef) (w : World) (e : EngineKept) (rows : List (List Value)) (groups : List SignedRow) → StandsFor w e → IsBoundView w.visible.tables w.visible.views def → outcome (view_record def w.visible) ≡ good
    → ((k : ℕ) → IsLive w.visible k → last w.visible ≤ k) → (def.grouped ≡ false → rows ≡ view_rows def (snap w.visible (last w.visible))) → (def.grouped ≡ true → groups ≡ groups_of def (snap w.visible (last w.visible)))
    → StandsFor (world_after (view_made outcome def w.visible) w) (engine_with_view def rows groups e)

-- the world with the view, whose record was written
abbrev made_world : ViewDef → World → World
made_world def w = wrote (view_record def w.visible) (cases.with_view def w.visible) w

-- ---- other parts with the same tables and transactions
module _ (p q : Store) (whole : IsStore p) (tables : q.schema.tables ≡ p.schema.tables) (sessions : q.txns ≡ p.txns) where
  under_still : (session t : ℕ) → StandUnder (table_at q.schema.tables t).key t (transaction_of q.txns session).puts
  under_still session t = subst₂ (λ (ts : List TableDef) (ks : List (Option TransactionKept)). StandUnder (table_at ts t).key t (transaction_of ks session).puts) (sym tables) (sym sessions) (whole.under session t)

  used_still : (session : ℕ) → list_all (is_used q.schema.tables) (transaction_of q.txns session).puts ≡ true
  used_still session = subst₂ (λ (ts : List TableDef) (ks : List (Option TransactionKept)). list_all (is_used ts) (transaction_of ks session).puts ≡ true) (sym tables) (sym sessions) (whole.used session)

-- parts with other indexes keep the same
pub same_store : (p : Store) (base : BaseRoom) → IsReindexed p.base base → store_of (record p { base = base }) ≡ store_of p
same_store p base reindexed = ap (λ (b : BaseKept). record (store_of p) { base = b }) (same_kept p.base base reindexed)

-- parts that keep the same
pub same_whole : (p q : Store) → store_of q ≡ store_of p → q.rows.list ≡ p.rows.list → IsStore p → IsStore q
same_whole p q same rows whole =
    let tables : q.schema.tables ≡ p.schema.tables = ap (λ (e : StoreKept). e.tables) same in
    let sessions : q.txns ≡ p.txns = ap (λ (e : StoreKept). e.sessions) same in
    record {
      combines = subst (λ (s : Settings). 0 < s.combine) (sym (ap (λ (e : StoreKept). e.settings) same)) whole.combines;
      world = whole.world;
      stands = subst (Stands whole.world) (sym same) whole.stands;
      defs = subst₂ (λ (list : List viewrows.ViewKept) (views : List ViewDef). (v : ℕ) → v < length list → (rows_in list v).def ≡ view_at views v) (sym rows) (sym (ap (λ (e : StoreKept). e.views) same)) whole.defs;
      under = under_still p q whole tables sessions;
      used = used_still p q whole tables sessions;
    }

pub same_indexed : (p : Store) (base : BaseRoom) → IsReindexed p.base base → IsStore p → IsStore (record p { base = base })
same_indexed p base reindexed whole = same_whole p (record p { base = base }) (same_store p base reindexed) refl whole

-- ---- parts with one view more
-- what is kept with one view more, whose rows are these
abbrev view_with : ViewDef → ViewKept → StoreKept → StoreKept
view_with def k e = record e { views = e.views ++ def ∷ []; upkeep = upkeep_with_view def.created e.upkeep; rows = e.rows ++ k ∷ [] }

module _ (p : Store) (def : ViewDef) (bound : IsBoundView p.schema.tables p.schema.views def) where
  abbrev made_def : ViewDef
  made_def = record def { created = p.base.number }

  -- it is bound whatever the commit that it is made at
  created_bound : (w : World) → Stands w (store_of p) → IsBoundView p.schema.tables p.schema.views (record def { created = p.base.number })
  created_bound w is =
      let s = w.visible in
      let n = length s.views in
      let new : ViewDef = record def { created = last s } in
      let sound = (view_made_steady (λ r. good) def w is.steady (bound_there p def bound w is)).sound in
      let there : IsBoundView s.tables (take n (s.views ++ new ∷ [])) (view_at (s.views ++ new ∷ []) n) = sound.schema.each_view n (omega (arith, length_push s.views new)) in
      let here : IsBoundView s.tables s.views new = subst₂ (λ (vs : List ViewDef) (d : ViewDef). IsBoundView s.tables vs d) (take-append_seam s.views (new ∷ [])) (get_or_push s.views new no_view n refl) there in
      subst₂ (λ (ts : List TableDef) (vs : List ViewDef). IsBoundView ts vs (record def { created = p.base.number })) (sym is.tables_are) (sym is.views_are)
      (subst (λ m. IsBoundView s.tables s.views (record def { created = m })) (sym is.base_stands.number_is) here)

  module _ (v : viewrows.ViewKept) (made : IsMadeView made_def p.base.number (parts_at p.base p.base.number def.tables) v) (nobody : live_kept p.txns ≡ []) (keeps : ViewKeeps) where
    view_case : (w : World) → Stands w (store_of p) → Stands (made_world def w) (with_view made_def v (store_of p))
    view_case w is =
        let j = w.upkeep.journal in
        let e = kept j (store_of p) in
        let parts = parts_at p.base p.base.number def.tables in
        let rows = view_rows_over def parts in
        let groups = groups_over def parts in
        let same = parts_are p def bound w is in
        let late : (k : ℕ) → IsLive w.visible k → last w.visible ≤ k = λ k l. absurd (subst (λ ks. Among ks k) (sym (live_kept_is w e is) ∙ nobody) l) in
        let stands = keeps (λ r. good) def w e rows groups is (bound_there p def bound w is) refl late (λ g. ap (view_rows_over def) same) (λ g. ap (groups_over def) same) in
        let shown : rows_of v ≡ view_made_kept def p.base.number rows groups = λ i. record { at = made.at_is i; versions = made.versions_are i } in
        subst (λ (k : ViewKept). Stands (made_world def w) (view_with made_def k (store_of p))) (sym shown)
        (any_journal (made_world def w) (engine_with_view def rows groups e).journal (view_with made_def (view_made_kept def p.base.number rows groups) (store_of p)) stands)

    module _ (new : Store) (store : store_of new ≡ with_view made_def v (store_of p)) (rows : new.rows.list ≡ p.rows.list ++ v ∷ []) where
      view_stands : (w : World) → Stands w (store_of p) → Stands (made_world def w) (store_of new)
      view_stands w is = subst (Stands (made_world def w)) (sym store) (view_case w is)

      view_whole : IsStore p → IsStore new
      view_whole whole = record {
        combines = subst (λ (s : Settings). 0 < s.combine) (sym (ap (λ (e : StoreKept). e.settings) store)) whole.combines;
        world = made_world def whole.world;
        stands = view_stands whole.world whole.stands;
        defs = subst₂ (λ (list : List viewrows.ViewKept) (views : List ViewDef). (k : ℕ) → k < length list → (rows_in list k).def ≡ view_at views k) (sym rows) (sym (ap (λ (e : StoreKept). e.views) store)) defs;
        under = under_still p new whole (ap (λ (e : StoreKept). e.tables) store) (ap (λ (e : StoreKept). e.sessions) store);
        used = used_still p new whole (ap (λ (e : StoreKept). e.tables) store) (ap (λ (e : StoreKept). e.sessions) store);
      }
        where
          long : length p.rows.list ≡ length p.schema.views
          long = sym (length-map p.rows.list rows_of) ∙ (lengths_are whole.world (kept whole.world.upkeep.journal (store_of p)) whole.stands).0 ∙ ap length (sym whole.stands.views_are)

          which : (k n : ℕ) → k < n + 1 → (k < n) ⊎ (k ≡ n)
          which k n h = grind arith

          each : (k : ℕ) → (k < length p.rows.list) ⊎ (k ≡ length p.rows.list) → (rows_in (p.rows.list ++ v ∷ []) k).def ≡ view_at (p.schema.views ++ made_def ∷ []) k
          each k (inl lt) =
              ap (λ (r : viewrows.ViewKept). r.def) (get_or_append_left p.rows.list (v ∷ []) no_rows k lt)
              ∙ whole.defs k lt
              ∙ sym (get_or_append_left p.schema.views (made_def ∷ []) no_view k (omega (arith, lt, long)))
          each k (inr e) =
              ap (λ (r : viewrows.ViewKept). r.def) (get_or_push p.rows.list v no_rows k (sym e))
              ∙ made.def_is
              ∙ sym (get_or_push p.schema.views made_def no_view k (sym (e ∙ long)))

          defs : (k : ℕ) → k < length (p.rows.list ++ v ∷ []) → (rows_in (p.rows.list ++ v ∷ []) k).def ≡ view_at (p.schema.views ++ made_def ∷ []) k
          defs k lt = each k (which k (length p.rows.list) (omega (arith, lt, length_push p.rows.list v)))

-- a view for which room is made is bound, whatever the commit that it is made at
module _ (p q : Store) (whole : IsStore p) (same : store_of q ≡ store_of p) (def now : ViewDef) (bound : IsBoundView p.schema.tables p.schema.views def) (commit : ℕ) (commit_is : commit ≡ p.base.number) (now_is : now ≡ record def { created = commit }) where
  bound_then : IsBoundView q.schema.tables q.schema.views def
  bound_then = subst (λ (e : StoreKept). IsBoundView e.tables e.views def) (sym same) bound

  pub now_made : now ≡ record def { created = q.base.number }
  now_made = now_is ∙ ap (λ (n : ℕ). record def { created = n }) (commit_is ∙ sym (ap (λ (e : StoreKept). e.base.number) same))

  pub bound_now : IsBoundView q.schema.tables q.schema.views now
  bound_now = subst (IsBoundView q.schema.tables q.schema.views) (sym now_made) (created_bound q def bound_then whole.world (subst (Stands whole.world) (sym same) whole.stands))

-- a view that was made at the last commit, and is added
module _ (p new : Store) (def : ViewDef) (bound : IsBoundView p.schema.tables p.schema.views def) (created : def.created ≡ p.base.number) (v : viewrows.ViewKept) (made : IsMadeView def p.base.number (parts_at p.base p.base.number def.tables) v)
    (store : store_of new ≡ with_view def v (store_of p)) (rows : new.rows.list ≡ p.rows.list ++ v ∷ []) (nobody : live_kept p.txns ≡ []) (keeps : ViewKeeps) where
  same_def : def ≡ record def { created = p.base.number }
  same_def = ap (λ (n : ℕ). record def { created = n }) created

  made_then : IsMadeView (record def { created = p.base.number }) p.base.number (parts_at p.base p.base.number def.tables) v
  made_then = subst (λ (d : ViewDef). IsMadeView d p.base.number (parts_at p.base p.base.number d.tables) v) same_def made

  store_then : store_of new ≡ with_view (record def { created = p.base.number }) v (store_of p)
  store_then = store ∙ ap (λ (d : ViewDef). with_view d v (store_of p)) same_def

  pub added_stands : (w : World) → Stands w (store_of p) → Stands (made_world def w) (store_of new)
  added_stands w is = view_stands p def bound v made_then nobody keeps new store_then rows w is

  pub added_whole : IsStore p → IsStore new
  added_whole whole = view_whole p def bound v made_then nobody keeps new store_then rows whole
