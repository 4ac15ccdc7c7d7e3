-- Steps, one after another, in the rows of views.
use Rattle.std.proofs.Common.{◌≡◌, ℕ, zero, suc, ◌<◌, List, [], ◌∷◌, map, length, get_or, refl, sym, ap, ap₂, ◌∙◌, subst, arith}
use Rattle.std.specs.Prelude.{slice_set}
use Rattle.std.specs.List.{AllByRecursion}
use Rattle.std.proofs.lemmas.List.{length-map, length-set, map-set}
use Rattle.std.proofs.Math.ListN.{get_or-map}
use Rattle.lv_schema.specs.declared.forced.Forced.{Forced}
use Rattle.lv_schema.specs.declared.signed.SignedRow.{SignedRow}
use Rattle.lv_schema.specs.declared.view.ViewDef.{ViewDef}
use Rattle.lv_schema.specs.Applicable.{with_changes}
use Rattle.lv_schema.specs.UpkeepCases.{with_steps}
use Rattle.lv_schema.specs.Differences.{view_difference}
use Rattle.lv_schema.specs.World.{Visible, World, snap, view_at}
use Rattle.lv_schema.proofs.Apart.{all_weaker}
use Rattle.lv_viewrows.specs.Changed.{CanInstall}
use Rattle.lv_viewrows.specs.Kept.{ViewKept, groups_at, rows_listed}
use Rattle.lv_stands.specs.Kept as stands
use Rattle.lv_stands.specs.Moves.{StepsFollow, StepsRun, ViewInstalls, engine_stepped, least_read, step_changes, with_room}
use Rattle.lv_stands.specs.Stands.{StandsFor}
use Rattle.lv_stands.proofs.Installs.{step_installs}
use Rattle.lv_stands.proofs.Steps.{step_stands}
use Rattle.lv_store.specs.Querying.{CanInstallAll, OnlyRoom, RowsInstall, StepsInstall, upkeep_after}
use Rattle.lv_store.specs.Kept.{no_rows, rows_in, rows_of}

-- what holds of each element holds of the one at a place
pub each_at : {X : Type 0} (P : X → Type 0) (xs : List X) (i : ℕ) (d : X) → i < length xs → AllByRecursion P xs → P (get_or xs i d)
each_at P [] i d lt a = absurd (omega (arith, lt))
each_at P (x ∷ xs) zero d lt a = a.0
each_at P (x ∷ xs) (suc i) d lt a = each_at P xs i d (omega (arith, lt)) a.1

pub at_any : {X : Type 0} (xs : List X) (i : ℕ) (d e : X) → i < length xs → get_or xs i d ≡ get_or xs i e
at_any [] i d e lt = absurd (omega (arith, lt))
at_any (x ∷ xs) zero d e lt = refl
at_any (x ∷ xs) (suc i) d e lt = at_any xs i d e (omega (arith, lt))

-- whether a difference can be installed does not depend on the room
pub any_room : (a b : ViewKept) (hi : ℕ) (list : List SignedRow) → b ≡ record a { spare = b.spare } → CanInstall a hi list → CanInstall b hi list
any_room a b hi list is h = subst (λ (k : ViewKept). CanInstall k hi list) (sym is) (record { later = h.later; netted = h.netted; rows = h.rows; groups = h.groups })

pub any_room_installs : (floor : ℕ) (a b new : ViewKept) (hi : ℕ) (list : List SignedRow) → b ≡ record a { spare = b.spare } → RowsInstall floor hi list b new → RowsInstall floor hi list a new
any_room_installs floor a b new hi list is h =
    let k : RowsInstall floor hi list (record a { spare = b.spare }) new = subst (λ (k : ViewKept). RowsInstall floor hi list k new) is h in
    record { def_stays = k.def_stays; at_is = k.at_is; before = k.before; from = k.from; rows = k.rows }

-- ---- a step in the words of what stands
pub to_installs : (floor : ℕ) (view : ViewDef) (hi : ℕ) (changes : List SignedRow) (old new : ViewKept) → old.def ≡ view → RowsInstall floor hi changes old new → ViewInstalls floor view hi changes (rows_of old) (rows_of new)
to_installs floor view hi changes old new is h = record {
  at_is = h.at_is;
  before = h.before;
  from = h.from;
  rows = λ joins n le.
      ap (λ (d : ViewDef). rows_listed d (groups_at n new.versions)) (sym is ∙ sym h.def_stays)
      ∙ h.rows (ap (λ (d : ViewDef). d.grouped) is ∙ joins) n le
      ∙ ap (λ (d : ViewDef). with_changes changes (rows_listed d (groups_at old.at old.versions))) is;
}

pub rows_at : (rows : List ViewKept) (v : ℕ) → stands.view_kept (map rows_of rows) v ≡ rows_of (rows_in rows v)
rows_at rows v = get_or-map rows_of rows v no_rows

-- what holds of each element holds of each where one is set
pub each_set : (P : ℕ → ViewKept → Type 0) (rows : List ViewKept) (at : ℕ) (k : ViewKept) → P at k → ((v : ℕ) → v < length rows → P v (rows_in rows v))
    → (v : ℕ) → v < length (slice_set rows at k) → P v (rows_in (slice_set rows at k) v)
each_set P [] at k here all v lt = all v lt
each_set P (r ∷ rows) zero k here all zero lt = here
each_set P (r ∷ rows) zero k here all (suc v) lt = all (suc v) lt
each_set P (r ∷ rows) (suc at) k here all zero lt = all zero (omega arith)
each_set P (r ∷ rows) (suc at) k here all (suc v) lt = each_set (λ n. P (suc n)) rows at k here (λ n l. all (suc n) (omega (arith, l))) v (omega (arith, lt))

-- the rows of each view know the view
abbrev pub Know : List ViewDef → List ViewKept → Type 0
Know views rows = (v : ℕ) → v < length rows → (rows_in rows v).def ≡ view_at views v

-- other room changes nothing that is kept
pub only_room_same : (old new : List ViewKept) → OnlyRoom old new → map rows_of new ≡ map rows_of old
only_room_same old new h = by old new h.all h.each
  where
    by : (old new : List ViewKept) → length new ≡ length old → ((v : ℕ) → v < length old → rows_in new v ≡ record (rows_in old v) { spare = (rows_in new v).spare }) → map rows_of new ≡ map rows_of old
    by [] [] e each = refl
    by [] (b ∷ new) e each = cc
    by (a ∷ old) [] e each = cc
    by (a ∷ old) (b ∷ new) e each = ap₂ (λ x xs. x ∷ xs) (ap rows_of (each 0 (omega arith))) (by old new (omega (arith, e)) (λ v lt. each (suc v) (omega (arith, lt))))

pub only_room_know : (views : List ViewDef) (old new : List ViewKept) → OnlyRoom old new → Know views old → Know views new
only_room_know views old new h know = λ v lt. let here : v < length old = omega (arith, lt, h.all) in ap (λ (k : ViewKept). k.def) (h.each v here) ∙ know v here

module _ (changes : Forced → List SignedRow) where
  -- steps that follow each other in a world that the rows stand for can be installed
  pub can_install_all : (fs : List Forced) (rows : List ViewKept) (w : World) (e : stands.EngineKept) → StandsFor w e → e.rows ≡ map rows_of rows → Know w.visible.views rows
      → StepsFollow w fs → AllByRecursion (λ f. changes f ≡ step_changes w.visible f) fs → CanInstallAll (least_read e) changes fs rows
  can_install_all [] rows w e is are know follow each = tt
  can_install_all (f ∷ fs) rows w e is are know follow each =
      let step = follow.0 in
      let long : length rows ≡ length w.visible.views = sym (length-map rows rows_of) ∙ ap length (sym are) ∙ is.views_stand.all in
      let lt : f.view < length rows = omega (arith, step.in_use, long) in
      let old : stands.view_kept e.rows f.view ≡ rows_of (rows_in rows f.view) = ap (λ l. stands.view_kept l f.view) are ∙ rows_at rows f.view in
      let def_is = know f.view lt in
      let can : CanInstall (rows_in rows f.view) f.hi (changes f) =
      subst (CanInstall (rows_in rows f.view) f.hi) (sym each.0)
      (subst (λ (d : ViewDef). CanInstall (with_room d (rows_in rows f.view).spare (rows_of (rows_in rows f.view))) f.hi (step_changes w.visible f)) (sym def_is)
      (subst (λ (k : stands.ViewKept). CanInstall (with_room (view_at w.visible.views f.view) (rows_in rows f.view).spare k) f.hi (step_changes w.visible f)) old
      (step_installs w e f (rows_in rows f.view).spare is step follow.1))) in (
        lt,
        can,
        λ new h.
            can_install_all fs (slice_set rows f.view new) (record { visible = w.visible; upkeep = with_steps (f ∷ []) w.upkeep }) (engine_stepped f (rows_of new) e)
            (step_stands w e f (rows_of new) is step follow.1
            (subst (λ (k : stands.ViewKept). ViewInstalls (least_read e) (view_at w.visible.views f.view) f.hi (step_changes w.visible f) k (rows_of new)) (sym old)
            (subst (λ list. ViewInstalls (least_read e) (view_at w.visible.views f.view) f.hi list (rows_of (rows_in rows f.view)) (rows_of new)) each.0
            (to_installs (least_read e) (view_at w.visible.views f.view) f.hi (changes f) (rows_in rows f.view) new def_is h))))
            (ap (λ l. slice_set l f.view (rows_of new)) are ∙ sym (map-set rows_of rows f.view new))
            (each_set (λ v k. k.def ≡ view_at w.visible.views v) rows f.view new (h.def_stays ∙ def_is) know)
            follow.2 each.1,
      )

  -- steps that were installed are those of a run
  pub steps_run : (fs : List Forced) (rows last : List ViewKept) (s : Visible) (e : stands.EngineKept) → e.views ≡ s.views → e.rows ≡ map rows_of rows → Know s.views rows
      → AllByRecursion (λ f. f.view < length rows) fs → AllByRecursion (λ f. changes f ≡ step_changes s f) fs → StepsInstall (least_read e) changes fs rows last
      → StepsRun s fs e (record e { upkeep = upkeep_after fs e.upkeep; rows = map rows_of last })
  steps_run [] rows last s e views are know lts each h = λ i. record e { rows = (only_room_same rows last h ∙ sym are) i }
  steps_run (f ∷ fs) rows last s e views are know lts each h =
      let new = h.0 in
      let def_is = know f.view lts.0 in
      let old : stands.view_kept e.rows f.view ≡ rows_of (rows_in rows f.view) = ap (λ l. stands.view_kept l f.view) are ∙ rows_at rows f.view in
      let install : ViewInstalls (least_read e) (view_at s.views f.view) f.hi (step_changes s f) (stands.view_kept e.rows f.view) (rows_of new) =
      subst (λ (k : stands.ViewKept). ViewInstalls (least_read e) (view_at s.views f.view) f.hi (step_changes s f) k (rows_of new)) (sym old)
      (subst (λ list. ViewInstalls (least_read e) (view_at s.views f.view) f.hi list (rows_of (rows_in rows f.view)) (rows_of new)) each.0
      (to_installs (least_read e) (view_at s.views f.view) f.hi (changes f) (rows_in rows f.view) new def_is h.1)) in (
        rows_of new,
        subst (λ (vs : List ViewDef). ViewInstalls (least_read e) (view_at vs f.view) f.hi (view_difference (view_at vs f.view) (snap s f.lo) (snap s f.hi)) (stands.view_kept e.rows f.view) (rows_of new)) (sym views) install,
        steps_run fs (slice_set rows f.view new) last s (engine_stepped f (rows_of new) e) views
            (ap (λ l. slice_set l f.view (rows_of new)) are ∙ sym (map-set rows_of rows f.view new))
            (each_set (λ v k. k.def ≡ view_at s.views v) rows f.view new (h.1.def_stays ∙ def_is) know)
            (all_weaker (λ (g : Forced). g.view < length rows) (λ (g : Forced). g.view < length (slice_set rows f.view new)) (λ g l. omega (arith, l, length-set rows f.view new)) fs lts.1)
            each.1 h.2,
      )

  -- the rows of each view still know the view, and no view is lost
  pub still_know : (floor : ℕ) (fs : List Forced) (rows last : List ViewKept) (views : List ViewDef) → Know views rows → AllByRecursion (λ f. f.view < length rows) fs → StepsInstall floor changes fs rows last
      → Know views last × (length last ≡ length rows)
  still_know floor [] rows last views know lts h = (only_room_know views rows last h know, h.all)
  still_know floor (f ∷ fs) rows last views know lts h =
      let more = still_know floor fs (slice_set rows f.view h.0) last views
      (each_set (λ v k. k.def ≡ view_at views v) rows f.view h.0 (h.1.def_stays ∙ know f.view lts.0) know)
      (all_weaker (λ (g : Forced). g.view < length rows) (λ (g : Forced). g.view < length (slice_set rows f.view h.0)) (λ g l. omega (arith, l, length-set rows f.view h.0)) fs lts.1)
      h.2 in
      (more.0, more.1 ∙ length-set rows f.view h.0)
