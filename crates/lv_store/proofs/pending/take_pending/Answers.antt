use Rattle.std.proofs.Common.{◌≡◌, List, length, sym, ap, ◌∙◌, subst}
use Rattle.std.specs.Prelude.{OnErr, OnOk}
use Rattle.lv_values.specs.Room.{Roomy}
use Rattle.lv_viewrows.specs.Kept.{ViewKept}
use Rattle.lv_store.specs.Pending.{AllTake}
use Rattle.lv_store.specs.Querying.{OnlyRoom}
use Rattle.lv_store.proofs.Written.{written_back}
use Rattle.lv_store.proofs.pending.take_pending.Goals as goal

pub returns-clause-done : goal.returns-clause-done
returns-clause-done c =
    let items = c.into_vec-views.result in
    let lent = c.deref_mut.ensures in
    let new = c.take_each-taken.new.views in
    let old : c.deref_mut.result.now ≡ c.args.rows.now.list = lent.value ∙ c.into_vec-views.ensures.same ∙ ap (λ (r : Roomy ViewKept). r.list) c.replace.ensures.value in
    let back : c.from_vec.result.list ≡ new = c.from_vec.ensures.same ∙ written_back items.len new items.items (c.take_each-taken.ensures.all ∙ ap length lent.value) (sym lent.len ∙ ap length lent.value) in
    subst (λ (l : List ViewKept). OnOk c.take_each-taken.result (AllTake c.args.floor c.args.pending c.args.rows.now.list l)) (sym back)
    (subst (λ (l : List ViewKept). OnOk c.take_each-taken.result (AllTake c.args.floor c.args.pending l new)) old c.take_each-taken.ensures.done)

pub returns-clause-refused : goal.returns-clause-refused
returns-clause-refused c =
    let items = c.into_vec-views.result in
    let lent = c.deref_mut.ensures in
    let new = c.take_each-taken.new.views in
    let old : c.deref_mut.result.now ≡ c.args.rows.now.list = lent.value ∙ c.into_vec-views.ensures.same ∙ ap (λ (r : Roomy ViewKept). r.list) c.replace.ensures.value in
    let back : c.from_vec.result.list ≡ new = c.from_vec.ensures.same ∙ written_back items.len new items.items (c.take_each-taken.ensures.all ∙ ap length lent.value) (sym lent.len ∙ ap length lent.value) in
    subst (λ (l : List ViewKept). OnErr c.take_each-taken.result (OnlyRoom c.args.rows.now.list l)) (sym back)
    (subst (λ (l : List ViewKept). OnErr c.take_each-taken.result (OnlyRoom l new)) old c.take_each-taken.ensures.refused)
