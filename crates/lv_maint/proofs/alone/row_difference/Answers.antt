use Rattle.std.proofs.Common.{◌≡◌, [], ◌∷◌, ◌++◌, List, length, sym, ◌∙◌, subst, arith}
use Rattle.std.proofs.lemmas.Result.{IfOk-weaker}
use Rattle.lv_schema.specs.declared.cond.Col.{Col}
use Rattle.lv_schema.specs.declared.part.Part.{Part}
use Rattle.lv_schema.specs.declared.signed.SignedRow.{SignedRow}
use Rattle.lv_schema.specs.declared.view.ViewDef.{ViewDef}
use Rattle.lv_schema.specs.Differences.{difference, key_columns, summed_columns}
use Rattle.lv_schema.specs.Jobs.{old_sides, new_sides}
use Rattle.lv_schema.specs.SignedRows.{netted}
use Rattle.lv_schema.proofs.ChangeLists.{ARow}
use Rattle.lv_bags.specs.Bags.{width}
use Rattle.lv_bags.proofs.AddedUp.{own_width}
use Rattle.lv_join.specs.Ties.{seen}
use Rattle.lv_maint.specs.Alone.{came, went}
use Rattle.lv_maint.specs.Inputs.{IsOfTable}
use Rattle.lv_maint.specs.Runs.{AddsUpTo}
use Rattle.lv_maint.proofs.OneTable.{one_term}
use Rattle.lv_maint.proofs.NetOfTerms.{net_of_terms}
use Rattle.lv_maint.proofs.Runs.{runs_fit, runs_sums}
use Rattle.lv_maint.proofs.alone.row_difference.Goals as goal

along : (keys keys' sums sums' : List Col) (view : ViewDef) (plus minus : List ARow) (all all' : List SignedRow) → keys ≡ keys' → sums ≡ sums' → all ≡ all'
    → AddsUpTo (length sums) all (came keys sums view.cond plus ++ went keys sums view.cond minus) → AddsUpTo (length sums') all' (came keys' sums' view.cond plus ++ went keys' sums' view.cond minus)
along keys keys' sums sums' view plus minus all all' e f g x =
    subst (λ (a : List SignedRow). AddsUpTo (length sums') a (came keys' sums' view.cond plus ++ went keys' sums' view.cond minus)) g
    (subst (λ (l : List Col). AddsUpTo (length l) all (came keys' l view.cond plus ++ went keys' l view.cond minus)) f
    (subst (λ (l : List Col). AddsUpTo (length sums) all (came l sums view.cond plus ++ went l sums view.cond minus)) e x))

stands : (c : goal.After-len-entries) → AddsUpTo (length (summed_columns c.args.view.now)) c.from_vec-all.result (came (key_columns c.args.view.now) (summed_columns c.args.view.now) c.args.view.now.cond (seen c.args.plus.now) ++ went (key_columns c.args.view.now) (summed_columns c.args.view.now) c.args.view.now.cond (seen c.args.minus.now))
stands c = along _ _ _ _ c.args.view.now (seen c.args.plus.now) (seen c.args.minus.now) _ _ (c.deref.ensures.value ∙ c.in_ok-keys.ensures) (c.deref-2.ensures.value ∙ c.in_ok-sums.ensures) (sym c.from_vec-all.ensures) c.in_ok-entries_between.ensures

pub net-requires-clause-counts : goal.net-requires-clause-counts
net-requires-clause-counts c =
    runs_fit (length (summed_columns c.args.view.now)) c.from_vec-all.result (stands c).runs (omega (arith, c.len-entries.ensures, c.len-entries.type_inv))

pub net-requires-clause-sums : goal.net-requires-clause-sums
net-requires-clause-sums c =
    let n = length (summed_columns c.args.view.now) in
    own_width n c.from_vec-all.result (runs_sums n c.from_vec-all.result (stands c).runs)

pub returns : goal.returns
returns c =
    let view = c.args.view.now in
    let all = c.from_vec-all.result in
    let keys = key_columns view in
    let sums = summed_columns view in
    let own = along _ _ _ _ view (seen c.args.plus.now) (seen c.args.minus.now) _ _ (c.deref.ensures.value ∙ c.in_ok-keys.ensures) (c.deref-2.ensures.value ∙ c.in_ok-sums.ensures) (sym c.from_vec-all.ensures) c.in_ok-entries_between.ensures in
    IfOk-weaker c.net.result (λ list. list ≡ netted (width all) all)
    (λ list. (part : Part) → IsOfTable part → part.minus ≡ seen c.args.minus.now → part.plus ≡ seen c.args.plus.now → list ≡ difference view (old_sides (part ∷ [])) (new_sides (part ∷ [])))
    (λ list is part of minus plus.
    is ∙ net_of_terms view (part ∷ []) all (of, tt)
    (subst (AddsUpTo (length sums) all) ((λ i. came keys sums view.cond (sym plus i) ++ went keys sums view.cond (sym minus i)) ∙ one_term keys sums view.cond part) own))
    c.net.ensures
