-- The steps of one view among steps.
use Rattle.std.proofs.Common.{◌≡◌, ℕ, ◌<◌, Bool, true, false, cond, List, [], ◌∷◌, ◌++◌, map, length, get_or, refl, sym, ap, ◌∙◌, subst, arith}
use Rattle.std.specs.Prelude.{◌==◌, slice_set}
use Rattle.std.specs.List.{AllByRecursion}
use Rattle.std.proofs.lemmas.Bool.Decides.{nat_tests}
use Rattle.std.proofs.lemmas.List.{get_or-set_other, get_or-set_same, length-set}
use Rattle.lv_schema.specs.declared.forced.Forced.{Forced}
use Rattle.lv_schema.specs.UpkeepCases.{with_steps}
use Rattle.lv_schema.specs.World.{Upkeep, Visible, point}
use Rattle.lv_stands.specs.Moves.{StepsFollow}
use Rattle.lv_store.specs.Pending.{on_view}
use Rattle.lv_store.proofs.PendingRows.{is_other, is_same}

pub on_same : (v : ℕ) (f : Forced) (fs : List Forced) → f.view ≡ v → on_view v (f ∷ fs) ≡ f ∷ on_view v fs
on_same v f fs e = let test : (f.view == v) ≡ true = grind (arith, nat_tests) in ap (λ (b : Bool). cond b (f ∷ on_view v fs) (on_view v fs)) test

pub on_other : (v : ℕ) (f : Forced) (fs : List Forced) → (f.view == v) ≡ false → on_view v (f ∷ fs) ≡ on_view v fs
on_other v f fs test = ap (λ (b : Bool). cond b (f ∷ on_view v fs) (on_view v fs)) test

pub of_view : (v : ℕ) (fs : List Forced) → AllByRecursion (λ f. f.view ≡ v) (on_view v fs)
of_view v [] = tt
of_view v (f ∷ fs) = by (f.view == v) refl (of_view v fs)
  where
    by : (b : Bool) → (f.view == v) ≡ b → AllByRecursion (λ g. g.view ≡ v) (on_view v fs) → AllByRecursion (λ g. g.view ≡ v) (cond b (f ∷ on_view v fs) (on_view v fs))
    by true e a = (is_same f.view v e, a)
    by false e a = a

pub all_on_view : {Y : Type 0} (P : Y → Type 0) (g : Forced → Y) (v : ℕ) (fs : List Forced) → AllByRecursion (λ f. P (g f)) fs → AllByRecursion P (map g (on_view v fs))
all_on_view P g v [] all = tt
all_on_view {Y} P g v (f ∷ fs) all = by (f.view == v) (all_on_view P g v fs all.1)
  where
    by : (b : Bool) → AllByRecursion P (map g (on_view v fs)) → AllByRecursion P (map g (cond b (f ∷ on_view v fs) (on_view v fs)))
    by true a = (all.0, a)
    by false a = a

-- one more behind them
pub last_on : {Y : Type 0} (g : Forced → Y) (v : ℕ) (f : Forced) (fs : List Forced) → f.view ≡ v → map g (on_view v (fs ++ f ∷ [])) ≡ map g (on_view v fs) ++ g f ∷ []
last_on g v f [] e = ap (map g) (on_same v f [] e)
last_on {Y} g v f (h ∷ fs) e = by (h.view == v) (last_on g v f fs e)
  where
    by : (b : Bool) → map g (on_view v (fs ++ f ∷ [])) ≡ map g (on_view v fs) ++ g f ∷ []
        → map g (cond b (h ∷ on_view v (fs ++ f ∷ [])) (on_view v (fs ++ f ∷ []))) ≡ map g (cond b (h ∷ on_view v fs) (on_view v fs)) ++ g f ∷ []
    by true more = ap (λ l. g h ∷ l) more
    by false more = more

pub last_off : (v : ℕ) (f : Forced) (fs : List Forced) → (f.view == v) ≡ false → on_view v (fs ++ f ∷ []) ≡ on_view v fs
last_off v f [] e = on_other v f [] e
last_off v f (h ∷ fs) e = by (h.view == v) (last_off v f fs e)
  where
    by : (b : Bool) → on_view v (fs ++ f ∷ []) ≡ on_view v fs → cond b (h ∷ on_view v (fs ++ f ∷ [])) (on_view v (fs ++ f ∷ [])) ≡ cond b (h ∷ on_view v fs) (on_view v fs)
    by true more = ap (λ l. h ∷ l) more
    by false more = more

-- steps of other views do not move a view's point, so its own follow each other without them
set_at : (points : List ℕ) (f : Forced) (v : ℕ) → f.view ≡ v → v < length points → get_or (slice_set points f.view f.hi) v 0 ≡ f.hi
set_at points f v same long = subst (λ x. get_or (slice_set points x f.hi) v 0 ≡ f.hi) (sym same) (get_or-set_same points v f.hi 0 long)

pub follow_on_view : (v : ℕ) (fs : List Forced) (s : Visible) (a b : Upkeep) → v < length a.points → v < length b.points → point a v ≡ point b v
    → StepsFollow (record { visible = s; upkeep = a }) fs → StepsFollow (record { visible = s; upkeep = b }) (on_view v fs)
follow_on_view v [] s a b la lb e follow = tt
follow_on_view v (f ∷ fs) s a b la lb e follow = by (f.view == v) refl (follow_on_view v fs s)
  where
    by : (t : Bool) → (f.view == v) ≡ t
        → ((c d : Upkeep) → v < length c.points → v < length d.points → point c v ≡ point d v → StepsFollow (record { visible = s; upkeep = c }) fs → StepsFollow (record { visible = s; upkeep = d }) (on_view v fs))
        → StepsFollow (record { visible = s; upkeep = b }) (cond t (f ∷ on_view v fs) (on_view v fs))
    by true t more =
        let same = is_same f.view v t in (
          follow.0,
          ap (point b) same ∙ sym e ∙ ap (point a) (sym same) ∙ follow.1,
          more (with_steps (f ∷ []) a) (with_steps (f ∷ []) b) (omega (arith, la, length-set a.points f.view f.hi)) (omega (arith, lb, length-set b.points f.view f.hi))
              (set_at a.points f v same la ∙ sym (set_at b.points f v same lb)) follow.2,
        )
    by false t more =
        more (with_steps (f ∷ []) a) b (omega (arith, la, length-set a.points f.view f.hi)) lb
        (get_or-set_other a.points f.view v f.hi 0 (λ h. is_other f.view v t (sym h)) ∙ e) follow.2
