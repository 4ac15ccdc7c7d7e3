-- No record, and one record more.
use Rattle.std.proofs.Common.{◌≡◌, true, List, [], ◌∷◌, ◌++◌, Some, refl, sym, ap, ◌∙◌, subst}
use Rattle.lv_schema.specs.declared.rec.Rec.{Rec}
use Rattle.lv_schema.specs.World.{World}
use Rattle.lv_schema.proofs.Apart.{all_append}
use Rattle.lv_schema.proofs.SteadySteps.{empty_steady}
use Rattle.lv_record.specs.Kept.{IsKept}
use Rattle.lv_replay.specs.Applies.{applies}
use Rattle.lv_replay.specs.Replayed.{replayed, state_of}
use Rattle.lv_replay.specs.Runs.{Keeps}
use Rattle.lv_replay.proofs.Replays.{replayed_stopped}
use Rattle.lv_replay.proofs.Runs.{run_goes_on}
use Rattle.lv_stands.proofs.Creates.{empty_stands}
use Rattle.lv_upkeep.specs.Kept.{upkeep_empty}
use Rattle.lv_loading.specs.Loads.{LoadingKept, LoadingStands, Loads}

abbrev nothing : LoadingKept
nothing = record { tables = []; views = []; base = record { tables = []; entries = []; number = 0; pruned = 0 }; upkeep = upkeep_empty }

nothing_loads : Loads [] nothing
nothing_loads = record {
  kept = tt;
  apply = refl;
  stands = record {
    steady = empty_steady;
    stopped = refl;
    tables_are = refl;
    views_are = refl;
    base_stands = empty_stands.base_stands;
    upkeep_stands = empty_stands.upkeep_stands;
  };
}

pub loads_nothing : (k : LoadingKept) → k.tables ≡ [] → k.views ≡ [] → k.base ≡ record { tables = []; entries = []; number = 0; pruned = 0 } → k.upkeep ≡ upkeep_empty → Loads [] k
loads_nothing k tables views base upkeep = subst (Loads []) (λ i. record { tables = sym tables i; views = sym views i; base = sym base i; upkeep = sym upkeep i }) nothing_loads

-- a record that applies makes the next state
pub loads_more : (recs : List Rec) (rec : Rec) (old new : LoadingKept) → IsKept rec → Loads recs old → applies rec (state_of recs) ≡ true → LoadingStands (replayed rec (state_of recs)) new → Loads (recs ++ rec ∷ []) new
loads_more recs rec old new kept is applied stands =
    let w = state_of recs in
    let keeps : Keeps (Some rec) w (replayed rec w) = (subst (λ (x : World). applies rec x ≡ true) (sym is.stands.stopped) applied, replayed_stopped rec w is.stands.stopped ∙ ap (replayed rec) (sym is.stands.stopped)) in
    let on = run_goes_on recs (Some rec) w (replayed rec w) is.apply is.stands.stopped keeps in
    record {
      kept = all_append IsKept recs (rec ∷ []) is.kept (kept, tt);
      apply = on.0;
      stands = subst (λ (x : World). LoadingStands x new) (sym (replayed_stopped rec w is.stands.stopped) ∙ on.1) stands;
    }
