use Rattle.std.proofs.Common.{◌≡◌, ◌<◌, ℕ, List, length, sym, ap, ◌∙◌, subst}
use Rattle.lv_values.specs.Room.{Roomy}
use Rattle.lv_viewrows.specs.Kept.{ViewKept}
use Rattle.lv_store.specs.Maintaining.{RowsPruned}
use Rattle.lv_store.specs.Kept.{rows_in}
use Rattle.lv_store.proofs.Written.{written_back}
use Rattle.lv_store.proofs.cleaning.prune_each.Goals as goal

pub returns-clause-each : goal.returns-clause-each
returns-clause-each c =
    let items = c.into_vec-views.result in
    let lent = c.deref_mut.ensures in
    let new = c.prune_views.new.views in
    let old : c.deref_mut.result.now ≡ c.args.rows.now.list = lent.value ∙ c.into_vec-views.ensures.same ∙ ap (λ (r : Roomy ViewKept). r.list) c.replace.ensures.value in
    let back : c.from_vec.result.list ≡ new = c.from_vec.ensures.same ∙ written_back items.len new items.items (c.prune_views.ensures.all ∙ ap length lent.value) (sym lent.len ∙ ap length lent.value) in
    subst (λ (l : List ViewKept). (v : ℕ) → v < length c.args.rows.now.list → RowsPruned c.args.number (rows_in c.args.rows.now.list v) (rows_in l v)) (sym back)
    (subst (λ (l : List ViewKept). (v : ℕ) → v < length l → RowsPruned c.args.number (rows_in l v) (rows_in new v)) old c.prune_views.ensures.each)

pub returns-clause-all : goal.returns-clause-all
returns-clause-all c =
    let items = c.into_vec-views.result in
    let lent = c.deref_mut.ensures in
    let new = c.prune_views.new.views in
    let old : c.deref_mut.result.now ≡ c.args.rows.now.list = lent.value ∙ c.into_vec-views.ensures.same ∙ ap (λ (r : Roomy ViewKept). r.list) c.replace.ensures.value in
    let back : c.from_vec.result.list ≡ new = c.from_vec.ensures.same ∙ written_back items.len new items.items (c.prune_views.ensures.all ∙ ap length lent.value) (sym lent.len ∙ ap length lent.value) in
    ap length back ∙ c.prune_views.ensures.all ∙ ap length old
