use Rattle.std.proofs.Common.{◌++◌, ◌∷◌, [], map, take, sym, ap, ◌∙◌, arith}
use Rattle.std.proofs.lemmas.List.{map-append, take_all, take_more}
use Rattle.std.proofs.lemmas.Grind.{common_steps}
use Rattle.lv_store.specs.Querying.{rel_rows_in}
use Rattle.lv_store.proofs.store.Store.query_parts.Goals as goal

pub loop-rel-preserved : goal.loop-rel-preserved
loop-rel-preserved g c =
    let rels = c.args.rels.now in
    let i = c.loop-rel.rel-index in
    let part = c.in_ok-rel_rows.field-0 in
    record {
      parts = λ floor last take_last.
          let read = rel_rows_in c.args.self.now c.args.session last in
          c.in_ok-push.ensures.added
          ∙ ap (λ l. l ++ part ∷ []) (c.loop-rel.invariant.parts floor last take_last)
          ∙ ap (λ r. map read (take i rels) ++ r ∷ []) (c.in_ok-rel_rows.ensures.rows floor last take_last)
          ∙ sym (map-append _ _ _)
          ∙ ap (map read) (sym (take_more rels i _ c.loop-rel-test.true));
      cost = grind (arith, common_steps);
    }

pub returns-clause-parts : goal.returns-clause-parts
returns-clause-parts g c = λ floor last take_last.
    c.loop-rel.invariant.parts floor last take_last ∙ ap (map (rel_rows_in c.args.self.now c.args.session last)) (take_all c.loop-rel.rel-index c.args.rels.now c.loop-rel-test.false)
