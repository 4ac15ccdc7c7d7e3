use Rattle.std.proofs.Common.{◌≡◌, ◌++◌, ◌∷◌, [], List, Some, false, drop, length, length-append, map, refl, sym, ap, ◌∙◌, subst, arith}
use Rattle.std.specs.Prelude.{IfSome, slice_get}
use Rattle.std.specs.List.{AllByRecursion}
use Rattle.std.proofs.Math.Seq.{drop-append_seam, get_or-append_seam}
use Rattle.std.proofs.lemmas.List.{append-nil, append_assoc, drop_all}
use Rattle.std.proofs.lemmas.Option.{slice_get_past, slice_get_read}
use Rattle.lv_values.specs.declared.value.Value.{Value}
use Rattle.lv_schema.specs.declared.version.RowVersion.{RowVersion}
use Rattle.lv_values.specs.Ascending.{placed}
use Rattle.lv_shelf.specs.Cuts.{Apart}
use Rattle.lv_shelf.specs.Chains.{joined}
use Rattle.lv_versions.specs.Versions.{AreNew, EndsAtMost, Precedes, closed, ends_from, new_version, version_cmp, with_versions}
use Rattle.lv_versions.proofs.Bringing.{closed_placed, due_new, last_new, new_older, older_new, placed_order, put_last, rest_new}
use Rattle.lv_versions.proofs.Cleaning.{closed_at_most}
use Rattle.lv_versions.proofs.Ending.{closed_due, closed_none, closed_order}
use Rattle.lv_versions.proofs.Standing.{all_placed}
use Rattle.lv_versions.proofs.changing.put_rows.Goals as goal

pub put_row-requires-clause-older : goal.put_row-requires-clause-older
put_row-requires-clause-older c =
    let ps = c.args.positions.now in
    let number = c.args.number in
    let row = c.in-Some.row in
    let rest = c.pop.new.self in
    let left = c.end_above.new.minus in
    let mid = (joined c.end_above.new.versions.chains) in
    let due : List RowVersion = map (closed ps number rest) (map (closed ps number left) (map (closed ps number (row ∷ [])) mid)) in
    new_older ps number row rest left mid
    (last_new ps number rest row due (due_new ps number c.loop-row.plus rest row c.loop-row.minus left (joined c.loop-row.versions.chains) mid c.in-Some.ensures c.end_above.ensures.same c.loop-row.invariant.new))

-- the rows that came before, from the last one on
since : (all plus rest : List (List Value)) (row : List Value) → all ≡ plus ++ drop (length plus) all → plus ≡ rest ++ row ∷ [] → all ≡ rest ++ row ∷ drop (length plus) all
since all plus rest row front popped = front ∙ ap (λ l. l ++ drop (length plus) all) popped ∙ append_assoc rest (row ∷ []) (drop (length plus) all)

row_at : (rest more : List (List Value)) (row : List Value) → slice_get (rest ++ row ∷ more) (length rest) ≡ Some row
row_at rest more row =
    slice_get_read (rest ++ row ∷ more) (length (rest ++ row ∷ more)) (length rest) row refl (omega (arith, length-append rest (row ∷ more))) (sym (get_or-append_seam rest row more row))

pub loop-row-init : goal.loop-row-init
loop-row-init c =
    let plus = c.args.plus in
    record {
      stand = c.requires.stand;
      ends = c.requires.ends;
      chained = c.requires.chained;
      orders = c.requires.orders;
      current = c.requires.current;
      new = c.requires.new;
      put = refl;
      front = sym (ap (λ l. plus ++ l) (drop_all (length plus) plus (omega arith)) ∙ append-nil plus);
      left = rw (slice_get_past plus (length plus) (omega arith)) tt;
      room = c.requires.room;
      taken = refl;
    }

pub loop-row-preserved : goal.loop-row-preserved
loop-row-preserved c =
    let ps = c.args.positions.now in
    let number = c.args.number in
    let plus = c.loop-row.plus in
    let row = c.in-Some.row in
    let rest = c.pop.new.self in
    let minus = c.loop-row.minus in
    let vs = (joined c.loop-row.versions.chains) in
    let left = c.end_above.new.minus in
    let mid = (joined c.end_above.new.versions.chains) in
    let own : List RowVersion = map (closed ps number (row ∷ [])) mid in
    let due : List RowVersion = map (closed ps number rest) (map (closed ps number left) own) in
    let popped : plus ≡ rest ++ row ∷ [] = c.in-Some.ensures in
    let is : map (closed ps number plus) (map (closed ps number minus) vs) ≡ due = closed_due ps number plus rest row minus left vs mid popped c.end_above.ensures.same in
    let new : AreNew ps number (rest ++ row ∷ []) due = due_new ps number plus rest row minus left vs mid popped c.end_above.ensures.same c.loop-row.invariant.new in
    let older = new_older ps number row rest left mid (last_new ps number rest row due new) in
    let moved : map (closed ps number rest) (map (closed ps number left) (joined c.put_row.new.versions.chains)) ≡ placed (version_cmp ps) (new_version number row) due =
    ap (λ l. map (closed ps number rest) (map (closed ps number left) l)) c.put_row.ensures.put
    ∙ ap (map (closed ps number rest)) (closed_placed ps number left row own)
    ∙ closed_placed ps number rest row (map (closed ps number left) own) in
    let shorter = ap length popped ∙ length-append rest (row ∷ []) in
    let more = drop (length plus) c.args.plus in
    let whole : c.args.plus ≡ rest ++ row ∷ more = since c.args.plus plus rest row c.loop-row.invariant.front popped in
    record {
      stand = subst (Apart (Precedes ps)) (sym c.put_row.ensures.put) (placed_order ps number row own (closed_order ps number (row ∷ []) mid c.end_above.ensures.stand) (older_new ps number row mid older c.end_above.ensures.ends));
      ends = subst (AllByRecursion (λ (v : RowVersion). EndsAtMost number v.until)) (sym c.put_row.ensures.put)
          (all_placed (version_cmp ps) (λ (v : RowVersion). EndsAtMost number v.until) (new_version number row) own tt (closed_at_most ps number (row ∷ []) mid c.end_above.ensures.ends));
      chained = c.put_row.ensures.chained;
      orders = c.put_row.ensures.orders;
      current = c.put_row.ensures.current;
      new = subst (AreNew ps number rest) (sym moved) (rest_new ps number rest row due new);
      put = ap (with_versions ps number rest) moved ∙ sym (put_last ps number rest row due) ∙ ap (λ l. with_versions ps number l due) (sym popped) ∙ ap (with_versions ps number plus) (sym is) ∙ c.loop-row.invariant.put;
      front = whole ∙ ap (λ l. rest ++ l) (sym (ap (drop (length rest)) whole ∙ drop-append_seam rest (row ∷ more)));
      left = rw (ap (λ l. slice_get l (length rest)) whole ∙ row_at rest more row) c.end_above.ensures.left;
      room = omega (arith, c.loop-row.invariant.room, c.put_row.ensures.room, c.end_above.ensures.room, shorter);
      taken = omega (arith, c.loop-row.invariant.taken, c.put_row.ensures.room, c.end_above.ensures.room, shorter);
    }

pub returns-clause-left : goal.returns-clause-left
returns-clause-left c =
    subst (λ (l : List (List Value)). IfSome (slice_get c.args.plus (length l)) (λ row. ends_from c.args.positions.now row c.loop-row.minus ≡ false)) c.in_default.ensures.0 c.loop-row.invariant.left

pub returns-clause-put : goal.returns-clause-put
returns-clause-put c =
    let ps = c.args.positions.now in
    let number = c.args.number in
    let left : List RowVersion = map (closed ps number c.loop-row.minus) (joined c.loop-row.versions.chains) in
    sym (closed_none ps number left) ∙ ap (λ l. with_versions ps number l (map (closed ps number l) left)) (sym c.in_default.ensures.0) ∙ c.loop-row.invariant.put
