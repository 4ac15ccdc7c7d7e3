use Rattle.std.proofs.Common.{refl, sym, subst}
use Rattle.lv_replay.specs.Replayed.{state_of}
use Rattle.lv_loading.specs.Loads.{LoadingStands, Loads}
use Rattle.lv_loading.proofs.MadeViews.{loaded_stands, same_parts, whole_still}
use Rattle.lv_loading.proofs.loading.Loading.finish.Goals as goal

pub evaluate_all-requires : goal.evaluate_all-requires
evaluate_all-requires g c =
    let loads = c.self.invariant in
    record { whole = whole_still c.self.inside.parts c.index_all.new.self c.index_all.ensures.same c.index_all.ensures.reindexed (state_of loads.0, loads.1.stands) }

pub returns-clause-stands : goal.returns-clause-stands
returns-clause-stands g c = λ recs is.
    let p = c.index_all.new.self in
    let there = subst (Loads recs) (sym c.self.view_is) is in
    let stands = subst (LoadingStands (state_of recs)) (sym (same_parts c.self.inside.parts p c.index_all.ensures.same c.index_all.ensures.reindexed)) there.stands in
    loaded_stands p (state_of recs) stands c.in_ok-rows.rows.list (record { schema = p.schema; base = p.base; upkeep = p.upkeep; rows = c.in_ok-rows.rows }) c.in_ok-rows.ensures refl refl refl refl
