-- The differences of steps: each view takes its own, which is what the steps do one after another.
use Rattle.std.proofs.Common.{◌≡◌, ℕ, ◌+◌, ◌<◌, Bool, true, false, List, [], ◌∷◌, ◌++◌, map, take, length, get_or, refl, sym, ap, ◌∙◌, subst, arith}
use Rattle.std.specs.Prelude.{◌==◌, replicate, slice_set}
use Rattle.std.specs.List.{AllByRecursion}
use Rattle.std.proofs.lemmas.List.{get_or-replicate, get_or-set_other, get_or-set_same, length-replicate, length-set, take_more}
use Rattle.lv_schema.specs.declared.forced.Forced.{Forced}
use Rattle.lv_schema.proofs.Apart.{all_weaker}
use Rattle.lv_viewrows.specs.Changed.{CanInstall}
use Rattle.lv_viewrows.specs.Kept.{ViewKept}
use Rattle.lv_store.specs.declared.pending.Difference.{Difference}
use Rattle.lv_store.specs.declared.store.Store.{Store}
use Rattle.lv_store.specs.Pending.{AllTake, ArePending, CanTakeEach, TakesEach, difference_in, on_view, pending_at, with_difference}
use Rattle.lv_store.specs.Querying.{CanInstallAll, RowsInstall, StepsInstall, changes_in}
use Rattle.lv_store.specs.Kept.{no_rows, rows_in}
use Rattle.lv_store.proofs.OneView.{last_off, last_on, on_other, on_same}
use Rattle.lv_store.proofs.PendingRows.{is_other, is_same, set_each}

module _ (p : Store) where
  -- ---- how they are gathered
  pub none_are_pending : (pending : List (List Difference)) → pending ≡ replicate (length p.rows.list) [] → ArePending p [] pending
  none_are_pending pending is = record {
    all = ap length is ∙ length-replicate (length p.rows.list) [];
    each = λ v lt. ap (λ l. pending_at l v) is ∙ get_or-replicate (length p.rows.list) v [] [] lt;
  }

  one_more : (fs : List Forced) (f : Forced) (pending : List (List Difference)) → f.view < length p.rows.list → ArePending p fs pending → ArePending p (fs ++ f ∷ []) (with_difference f.view (difference_in p f) pending)
  one_more fs f pending inside are = record {
    all = length-set pending f.view (pending_at pending f.view ++ difference_in p f ∷ []) ∙ are.all;
    each = λ v lt. by v lt (f.view == v) refl;
  }
    where
      by : (v : ℕ) → v < length p.rows.list → (b : Bool) → (f.view == v) ≡ b → pending_at (with_difference f.view (difference_in p f) pending) v ≡ map (difference_in p) (on_view v (fs ++ f ∷ []))
      by v lt true e =
          let same = is_same f.view v e in
          ap (pending_at (with_difference f.view (difference_in p f) pending)) (sym same)
          ∙ get_or-set_same pending f.view (pending_at pending f.view ++ difference_in p f ∷ []) [] (omega (arith, inside, are.all))
          ∙ ap (λ n. pending_at pending n ++ difference_in p f ∷ []) same
          ∙ ap (λ (l : List Difference). l ++ difference_in p f ∷ []) (are.each v lt)
          ∙ sym (last_on (difference_in p) v f fs same)
      by v lt false e =
          get_or-set_other pending f.view v (pending_at pending f.view ++ difference_in p f ∷ []) [] (λ h. other (sym h))
          ∙ are.each v lt
          ∙ ap (map (difference_in p)) (sym (last_off v f fs e))
        where
          other : f.view ≡ v → ⊥
          other = is_other f.view v e

  pub next_pending : (fs : List Forced) (i : ℕ) (d : Forced) (pending new : List (List Difference)) → i < length fs → (get_or fs i d).view < length p.rows.list → ArePending p (take i fs) pending
      → new ≡ with_difference (get_or fs i d).view (difference_in p (get_or fs i d)) pending → ArePending p (take (i + 1) fs) new
  next_pending fs i d pending new lt inside are is =
      subst (ArePending p (take (i + 1) fs)) (sym is)
      (subst (λ l. ArePending p l (with_difference (get_or fs i d).view (difference_in p (get_or fs i d)) pending)) (sym (take_more fs i d lt)) (one_more (take i fs) (get_or fs i d) pending inside are))

  -- ---- what steps do where each view takes its own
  steps_install_each : (floor : ℕ) (fs : List Forced) (rows last : List ViewKept) → length last ≡ length rows → AllByRecursion (λ f. f.view < length rows) fs
      → ((v : ℕ) → v < length rows → TakesEach floor (map (difference_in p) (on_view v fs)) (rows_in rows v) (rows_in last v)) → StepsInstall floor (changes_in p) fs rows last
  steps_install_each floor [] rows last long lts each = record { all = long; each = each }
  steps_install_each floor (f ∷ fs) rows last long lts each =
      let here : TakesEach floor (difference_in p f ∷ map (difference_in p) (on_view f.view fs)) (rows_in rows f.view) (rows_in last f.view) =
      subst (λ l. TakesEach floor (map (difference_in p) l) (rows_in rows f.view) (rows_in last f.view)) (on_same f.view f fs refl) (each f.view lts.0) in
      let same_length = length-set rows f.view here.0 in (
        here.0,
        here.1,
        steps_install_each floor fs (slice_set rows f.view here.0) last (long ∙ sym same_length)
            (all_weaker (λ (g : Forced). g.view < length rows) (λ (g : Forced). g.view < length (slice_set rows f.view here.0)) (λ g l. omega (arith, l, same_length)) fs lts.1)
            (λ v lt.
            set_each (λ n k. TakesEach floor (map (difference_in p) (on_view n fs)) k (rows_in last n)) rows f.view here.0 lts.0 here.2
            (λ n ln ne. subst (λ l. TakesEach floor (map (difference_in p) l) (rows_in rows n) (rows_in last n)) (on_other n f fs (not_same n ne)) (each n ln))
            v (omega (arith, lt, same_length))),
      )
    where
      not_same : (n : ℕ) → (n ≡ f.view → ⊥) → (f.view == n) ≡ false
      not_same n ne = by (f.view == n) refl
        where
          by : (b : Bool) → (f.view == n) ≡ b → (f.view == n) ≡ false
          by true e = absurd (ne (sym (is_same f.view n e)))
          by false e = e

  pub steps_install : (floor : ℕ) (fs : List Forced) (pending : List (List Difference)) (last : List ViewKept) → ArePending p fs pending → AllByRecursion (λ f. f.view < length p.rows.list) fs
      → AllTake floor pending p.rows.list last → StepsInstall floor (changes_in p) fs p.rows.list last
  steps_install floor fs pending last are lts take =
      steps_install_each floor fs p.rows.list last take.all lts (λ v lt. subst (λ l. TakesEach floor l (rows_in p.rows.list v) (rows_in last v)) (are.each v lt) (take.each v lt))

  -- steps of one view that can be installed
  pub can_take : (floor v : ℕ) (fs : List Forced) (rows : List ViewKept) → v < length rows → AllByRecursion (λ f. f.view ≡ v) fs → CanInstallAll floor (changes_in p) fs rows → CanTakeEach floor (map (difference_in p) fs) (rows_in rows v)
  can_take floor v [] rows lt all h = tt
  can_take floor v (f ∷ fs) rows lt all h = (
    subst (λ n. CanInstall (rows_in rows n) f.hi (changes_in p f)) all.0 h.1,
    λ next install.
        subst (CanTakeEach floor (map (difference_in p) fs)) (get_or-set_same rows v next no_rows lt)
        (can_take floor v fs (slice_set rows v next) (omega (arith, lt, length-set rows v next)) all.1
        (subst (λ n. CanInstallAll floor (changes_in p) fs (slice_set rows n next)) all.0 (h.2 next (subst (λ n. RowsInstall floor f.hi (changes_in p f) (rows_in rows n) next) (sym all.0) install)))),
  )
