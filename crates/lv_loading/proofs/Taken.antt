-- One record more.
use Rattle.std.proofs.Common.{◌≡◌, Bool, true, false, List, [], ◌∷◌, ◌++◌, Ok, Err, refl, sym, subst}
use Rattle.std.specs.Prelude.{IfOk, Result}
use Rattle.lv_values.specs.declared.memory.NoMemory.{NoMemory}
use Rattle.lv_schema.specs.declared.rec.Rec.{Rec}
use Rattle.lv_record.specs.Kept.{IsKept}
use Rattle.lv_replay.specs.Applies.{applies}
use Rattle.lv_replay.specs.Replayed.{state_of}
use Rattle.lv_loading.specs.declared.parts.Parts.{Parts}
use Rattle.lv_loading.specs.Loads.{IsLoaded, Loads}
use Rattle.lv_loading.specs.Taking.{Takes, kept_in}
use Rattle.lv_loading.proofs.Opened.{loads_more}

module _ (rec : Rec) (kept : IsKept rec) (old new : Parts) where
  pub taken_exact : (result : Result Bool NoMemory) → Takes rec old new result → (recs : List Rec) → Loads recs (kept_in old) → IfOk result (λ b. b ≡ applies rec (state_of recs))
  taken_exact (Ok true) takes recs is = sym (takes (state_of recs) is.stands).0
  taken_exact (Ok false) takes recs is = sym (takes.0 (state_of recs) is.stands)
  taken_exact (Err e) takes recs is = tt

  pub taken_done : (result : Result Bool NoMemory) → Takes rec old new result → (recs : List Rec) → Loads recs (kept_in old) → result ≡ Ok true → Loads (recs ++ rec ∷ []) (kept_in new)
  taken_done (Ok true) takes recs is e = let t = takes (state_of recs) is.stands in loads_more recs rec (kept_in old) (kept_in new) kept is t.0 t.1
  taken_done (Ok false) takes recs is e = absurd (cc)
  taken_done (Err x) takes recs is e = absurd (cc)

  pub taken_refused : (result : Result Bool NoMemory) → Takes rec old new result → (result ≡ Ok true → ⊥) → kept_in new ≡ kept_in old
  taken_refused (Ok true) takes not_done = absurd (not_done refl)
  taken_refused (Ok false) takes not_done = takes.1
  taken_refused (Err e) takes not_done = takes

  pub taken_loaded : (result : Result Bool NoMemory) → Takes rec old new result → IsLoaded (kept_in old) → IsLoaded (kept_in new)
  taken_loaded (Ok true) takes l = (l.0 ++ rec ∷ [], taken_done (Ok true) takes l.0 l.1 refl)
  taken_loaded (Ok false) takes l = subst IsLoaded (sym takes.1) l
  taken_loaded (Err e) takes l = subst IsLoaded (sym takes) l
