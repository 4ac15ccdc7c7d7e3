use Rattle.std.proofs.Common.{◌≡◌, false, ◌∷◌, [], List, map, refl, sym, ap, ◌∙◌, subst}
use Rattle.std.specs.List.{AllByRecursion}
use Rattle.std.specs.Ordering.{is_ne}
use Rattle.std.specs.declared.cmp.Ordering.{Ordering}
use Rattle.std.specs.declared.cmp.Ordering.TheVariants.{Less, Equal, Greater}
use Rattle.lv_values.specs.Rows.{key_cmp}
use Rattle.lv_schema.specs.declared.version.RowVersion.{RowVersion}
use Rattle.lv_shelf.specs.Cuts.{Apart}
use Rattle.lv_shelf.specs.Shelves.{other_at}
use Rattle.lv_shelf.specs.Chains.{ChainShelved, joined}
use Rattle.lv_versions.specs.Versions.{AreChains, EndsAtMost, HaveOrders, Precedes, closed, current_of}
use Rattle.lv_versions.proofs.Chaining.{joined_map}
use Rattle.lv_versions.proofs.Ending.{closed_last, closed_swap, closed_tied}
use Rattle.lv_versions.proofs.changing.end_above.Goals as goal
use Rattle.lv_versions.proofs.changing.end_above.Goals.{then-is_ne, else-is_ne}

equal : (o : Ordering) → is_ne o ≡ false → o ≡ Equal
equal Less e = cc
equal Equal e = refl
equal Greater e = cc

pub loop-lost-preserved : goal.loop-lost-preserved
loop-lost-preserved c =
    let ps = c.args.positions.now in
    let cs = c.args.indexes.now in
    let number = c.args.number in
    let row = c.args.row.now in
    let lost = c.in-Some.lost in
    let left = c.pop_from.new.rows in
    let vs : List RowVersion = joined c.loop-lost.versions.chains in
    let inv = c.loop-lost.invariant in
    let own : List RowVersion → List RowVersion = map (closed ps number (row ∷ [])) in
    let rest : List RowVersion → List RowVersion = map (closed ps number left) in
    let is : map (closed ps number c.loop-lost.minus) (own vs) ≡ rest (map (closed ps number (lost ∷ [])) (own vs)) =
    ap (λ l. map (closed ps number l) (own vs)) c.in-Some.ensures.popped ∙ closed_last ps number left lost (own vs) in
    elim c.if-is_ne.branch [
      | then-is_ne w ↦
          let list : joined c.if-is_ne.versions.chains ≡ map (closed ps number (lost ∷ [])) vs =
          ap (λ (v : ChainShelved RowVersion). joined v.chains) w.versions-is ∙ ap joined w.end_row.ensures.ended ∙ joined_map (closed ps number (lost ∷ [])) c.loop-lost.versions.chains in
          record {
            stand = subst (λ (v : ChainShelved RowVersion). Apart (Precedes ps) (joined v.chains)) (sym w.versions-is) w.end_row.ensures.stand;
            chained = subst (λ (v : ChainShelved RowVersion). AreChains ps v.chains) (sym w.versions-is) w.end_row.ensures.chained;
            ends = subst (λ (v : ChainShelved RowVersion). AllByRecursion (λ (x : RowVersion). EndsAtMost number x.until) (joined v.chains)) (sym w.versions-is) w.end_row.ensures.ends;
            orders = subst (λ (v : ChainShelved RowVersion). HaveOrders ps cs v.spare v.others (joined v.chains)) (sym w.versions-is) w.end_row.ensures.orders;
            current = subst (λ (v : ChainShelved RowVersion). other_at v.others 1 ≡ current_of c.args.kept (joined v.chains)) (sym w.versions-is) w.end_row.ensures.current;
            same = ap (λ l. rest (own l)) list ∙ ap rest (closed_swap ps number (row ∷ []) (lost ∷ []) vs) ∙ sym is ∙ inv.same;
            room = ap (λ (v : ChainShelved RowVersion). v.spare) w.versions-is ∙ w.end_row.ensures.room ∙ inv.room;
          }
      | else-is_ne w ↦
          let tied : key_cmp ps lost row ≡ Equal = sym c.compare_keys.ensures ∙ equal c.compare_keys.result (sym c.is_ne.ensures ∙ w.if-is_ne.false) in
          record {
            stand = subst (λ (v : ChainShelved RowVersion). Apart (Precedes ps) (joined v.chains)) (sym w.versions-is) inv.stand;
            chained = subst (λ (v : ChainShelved RowVersion). AreChains ps v.chains) (sym w.versions-is) inv.chained;
            ends = subst (λ (v : ChainShelved RowVersion). AllByRecursion (λ (x : RowVersion). EndsAtMost number x.until) (joined v.chains)) (sym w.versions-is) inv.ends;
            orders = subst (λ (v : ChainShelved RowVersion). HaveOrders ps cs v.spare v.others (joined v.chains)) (sym w.versions-is) inv.orders;
            current = subst (λ (v : ChainShelved RowVersion). other_at v.others 1 ≡ current_of c.args.kept (joined v.chains)) (sym w.versions-is) inv.current;
            same = ap (λ (v : ChainShelved RowVersion). rest (own (joined v.chains))) w.versions-is ∙ ap rest (sym (closed_tied ps number lost row vs tied)) ∙ sym is ∙ inv.same;
            room = ap (λ (v : ChainShelved RowVersion). v.spare) w.versions-is ∙ inv.room;
          }
    ]
