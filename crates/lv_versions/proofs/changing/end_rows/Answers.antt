use Rattle.std.proofs.Common.{◌++◌, ◌∷◌, [], map, take, sym, ap, ◌∙◌, rules}
use Rattle.std.proofs.lemmas.List.{take_more}
use Rattle.lv_shelf.specs.Chains.{joined}
use Rattle.lv_versions.specs.Versions.{closed}
use Rattle.lv_versions.proofs.Chaining.{joined_map}
use Rattle.lv_versions.proofs.Ending.{closed_more, closed_none}
use Rattle.lv_versions.proofs.changing.end_rows.Goals as goal

pub loop-row-init : goal.loop-row-init
loop-row-init c = record {
  stand = c.requires.stand;
  chained = c.requires.chained;
  ends = c.requires.ends;
  orders = c.requires.orders;
  current = c.requires.current;
  ended = sym (closed_none c.args.positions.now c.args.number (joined c.args.versions.now.chains));
  room = search rules;
}

pub loop-row-preserved : goal.loop-row-preserved
loop-row-preserved c =
    let ps = c.args.positions.now in
    let number = c.args.number in
    let rows = c.args.rows.now in
    let row = c.row-item.result in
    let i = c.loop-row.row-index in
    let start = joined c.args.versions.now.chains in
    let more = take_more rows i row c.loop-row-test.true ∙ ap (λ r. take i rows ++ r ∷ []) (sym c.row-item.is) in
    record {
      stand = c.end_row.ensures.stand;
      chained = c.end_row.ensures.chained;
      ends = c.end_row.ensures.ends;
      orders = c.end_row.ensures.orders;
      current = c.end_row.ensures.current;
      ended = ap joined c.end_row.ensures.ended ∙ joined_map (closed ps number (row ∷ [])) c.loop-row.versions.chains ∙ ap (map (closed ps number (row ∷ []))) c.loop-row.invariant.ended ∙ closed_more ps number (take i rows) row start
          ∙ ap (λ l. map (closed ps number l) start) (sym more);
      room = c.end_row.ensures.room ∙ c.loop-row.invariant.room;
    }
