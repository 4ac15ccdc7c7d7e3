use Rattle.std.proofs.Common.{◌≡◌, sym, subst}
use Rattle.std.proofs.lemmas.Result.{IfOk-weaker}
use Rattle.lv_store.specs.Querying.{InPlaceOf}
use Rattle.lv_store.proofs.JoinedSteps.{in_own_place}
use Rattle.lv_store.proofs.store.Store.to_take.Goals as goal

pub returns-else-is_empty-clause-taken : goal.returns-else-is_empty-clause-taken
returns-else-is_empty-clause-taken c = λ w is follow.
    let forced = c.args.forced.now in
    IfOk-weaker c.copy.result (λ taken. taken ≡ forced) (λ taken. InPlaceOf w forced taken) (λ taken same. subst (λ fs. InPlaceOf w forced fs) (sym same) (in_own_place w forced follow)) c.copy.ensures
