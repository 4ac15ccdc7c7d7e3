use Rattle.std.proofs.Common.{◌<◌, ◌≤◌, ℕ, length, sym, subst}
use Rattle.lv_stands.specs.Moves.{BaseCleaned, least_read}
use Rattle.lv_base.specs.Bases.{base_of}
use Rattle.lv_store.specs.Maintaining.{RowsPruned}
use Rattle.lv_store.specs.Kept.{kept, rows_in, store_of}
use Rattle.lv_store.proofs.CleanedParts.{floor_above, floor_below, gives_cleaned, keeps_none, pruned_know}
use Rattle.lv_store.proofs.WorkerSteps.{still_whole}
use Rattle.lv_store.proofs.store.Store.clean.Goals as goal

pub clean-versions-requires-clause-low : goal.clean-versions-requires-clause-low
clean-versions-requires-clause-low c =
    let p = c.args.self.now in
    let whole = c.requires.whole in
    subst (λ n. p.base.pruned ≤ n) (sym c.floor-floor.ensures) (floor_above p whole.world whole.stands)

pub clean-versions-requires-clause-high : goal.clean-versions-requires-clause-high
clean-versions-requires-clause-high c =
    let p = c.args.self.now in
    let whole = c.requires.whole in
    subst (λ n. n ≤ p.base.number) (sym c.floor-floor.ensures) (floor_below p whole.world whole.stands)

pub returns-clause-case : goal.returns-clause-case
returns-clause-case c = λ w is.
    let p = c.args.self.now in
    let e = kept 0 (store_of p) in
    let base = c.clean-versions.new.self in
    let rows = c.prune_each.new.rows.list in
    let each = subst (λ n. (v : ℕ) → v < length p.rows.list → RowsPruned n (rows_in p.rows.list v) (rows_in rows v)) c.least_read-least.ensures c.prune_each.ensures.each in
    let cleaned = subst (λ n. BaseCleaned n (base_of p.base) (base_of base)) c.floor-floor.ensures c.clean-versions.ensures.cleaned in
    gives_cleaned p w is base rows (record { floor = c.floor-floor.result; versions = c.clean-versions.result.versions; deltas = c.clean-versions.result.deltas }) cleaned c.prune_each.ensures.all each
    c.floor-floor.ensures c.clean-versions.ensures.versions c.clean-versions.ensures.deltas

pub returns-clause-rows : goal.returns-clause-rows
returns-clause-rows c =
    let p = c.args.self.now in
    let e = kept 0 (store_of p) in
    let base = c.clean-versions.new.self in
    let rows = c.prune_each.new.rows.list in
    let each = subst (λ n. (v : ℕ) → v < length p.rows.list → RowsPruned n (rows_in p.rows.list v) (rows_in rows v)) c.least_read-least.ensures c.prune_each.ensures.each in
    keeps_none (least_read e) p.rows.list rows c.prune_each.ensures.all each

pub returns-clause-whole : goal.returns-clause-whole
returns-clause-whole c =
    let whole = c.requires.whole in
    let p = c.args.self.now in
    let e = kept 0 (store_of p) in
    let base = c.clean-versions.new.self in
    let rows = c.prune_each.new.rows.list in
    let each = subst (λ n. (v : ℕ) → v < length p.rows.list → RowsPruned n (rows_in p.rows.list v) (rows_in rows v)) c.least_read-least.ensures c.prune_each.ensures.each in
    let cleaned = subst (λ n. BaseCleaned n (base_of p.base) (base_of base)) c.floor-floor.ensures c.clean-versions.ensures.cleaned in
    still_whole p base p.upkeep c.prune_each.new.rows whole (pruned_know (least_read e) p.rows.list rows c.prune_each.ensures.all each p.schema.views whole.defs) _
    (gives_cleaned p whole.world whole.stands base rows (record { floor = c.floor-floor.result; versions = c.clean-versions.result.versions; deltas = c.clean-versions.result.deltas }) cleaned c.prune_each.ensures.all each
    c.floor-floor.ensures c.clean-versions.ensures.versions c.clean-versions.ensures.deltas).stands
