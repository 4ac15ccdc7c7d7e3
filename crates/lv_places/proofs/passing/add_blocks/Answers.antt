use Rattle.std.proofs.Common.{ℕ, List, [], ◌∷◌, ◌∙◌, sym, ap, subst, length, length-append, arith}
use Rattle.std.proofs.lemmas.List.{append-nil}
use Rattle.std.proofs.lemmas.List.Folds.{concat-append}
use Rattle.std.specs.List.{concat}
use Rattle.lv_places.specs.Blocks.{ArePacked}
use Rattle.lv_places.proofs.Packed.{packed_more}
use Rattle.lv_places.proofs.passing.add_blocks.Goals as goal

pub loop-preserved : goal.loop-preserved
loop-preserved g c =
    let bs = c.loop.blocks.items in
    let none : List (List ℕ) = [] ∷ [] in
    let added = c.in_ok-add_block.ensures.added in
    let long = ap length added ∙ length-append bs none in
    record {
      same = ap concat added ∙ concat-append bs none ∙ append-nil (concat bs) ∙ c.loop.invariant.same;
      packed = λ n p. subst (ArePacked g.row.SIZE n) (sym added) (packed_more g.row.SIZE n bs (c.loop.invariant.packed n p));
      count = omega (arith, long, c.loop.invariant.count);
      most = λ m le le'. omega (arith, long, c.loop.invariant.count, c.loop-test.true, le');
      kept = omega (arith, long, c.loop.invariant.kept);
    }

pub returns-in_err-add_block-clause-packed : goal.returns-in_err-add_block-clause-packed
returns-in_err-add_block-clause-packed g c = λ n p. subst (ArePacked g.row.SIZE n) (sym c.in_err-add_block.ensures.refused) (c.loop.invariant.packed n p)
