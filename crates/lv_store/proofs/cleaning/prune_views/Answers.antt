use Rattle.std.proofs.Common.{◌<◌, ◌∙◌, length, subst, arith}
use Rattle.std.proofs.lemmas.List.{get_or-set_other, length-set}
use Rattle.lv_viewrows.specs.Kept.{ViewKept}
use Rattle.lv_store.specs.Maintaining.{RowsPruned}
use Rattle.lv_store.specs.Kept.{no_rows, rows_in}
use Rattle.lv_store.proofs.CleanedParts.{item_is, later, set_next}
use Rattle.lv_store.proofs.cleaning.prune_views.Goals as goal

pub loop-at-preserved : goal.loop-at-preserved
loop-at-preserved c =
    let views = c.loop-at.views in
    let at = c.loop-at.at in
    let new = c.prune.new.self in
    let done = c.prune.ensures in
    let there : at < length views = omega (arith, c.loop-at.invariant.long, c.loop-at-test.true) in
    let item = item_is views at c.index-views-at.result there ∙ c.loop-at.invariant.rest at (omega arith) in
    record {
      long = length-set views at new ∙ c.loop-at.invariant.long;
      pruned =
          set_next (λ v k. RowsPruned c.args.number (rows_in c.args.views.now v) k) views at new there
          (subst (λ (k : ViewKept). RowsPruned c.args.number k new) item (record { def_stays = done.def; cleaned = record { at_stays = done.at; versions_are = done.kept; reads = done.stays } }))
          c.loop-at.invariant.pruned;
      rest = λ v le. get_or-set_other views at v new no_rows (later v at le) ∙ c.loop-at.invariant.rest v (omega (arith, le));
    }
