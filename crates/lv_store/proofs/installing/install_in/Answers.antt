use Rattle.std.proofs.Common.{◌≡◌, List, length, sym, ap, ◌∙◌, subst}
use Rattle.std.specs.Prelude.{OnOk}
use Rattle.lv_values.specs.Room.{Roomy}
use Rattle.lv_viewrows.specs.Kept.{ViewKept}
use Rattle.lv_store.specs.Querying.{ViewInstalled}
use Rattle.lv_store.proofs.Written.{written_back}
use Rattle.lv_store.proofs.installing.install_in.Goals as goal

pub returns-clause-done : goal.returns-clause-done
returns-clause-done c =
    let items = c.into_vec-views.result in
    let lent = c.deref_mut.ensures in
    let new = c.install_at-installed.new.views in
    let old : c.deref_mut.result.now ≡ c.args.rows.now.list = lent.value ∙ c.into_vec-views.ensures.same ∙ ap (λ (r : Roomy ViewKept). r.list) c.replace.ensures.value in
    let back : c.from_vec.result.list ≡ new = c.from_vec.ensures.same ∙ written_back items.len new items.items (c.install_at-installed.ensures.all ∙ ap length lent.value) (sym lent.len ∙ ap length lent.value) in
    subst (λ (l : List ViewKept). OnOk c.install_at-installed.result (ViewInstalled c.args.floor c.args.hi c.args.changes c.args.view c.args.rows.now.list l)) (sym back)
    (subst (λ (l : List ViewKept). OnOk c.install_at-installed.result (ViewInstalled c.args.floor c.args.hi c.args.changes c.args.view l new)) old c.install_at-installed.ensures.done)
