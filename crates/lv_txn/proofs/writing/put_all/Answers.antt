use Rattle.std.proofs.Common.{◌≡◌, ◌∷◌, [], List, true, length, sym, ap, subst, ◌∙◌, arith}
use Rattle.std.specs.List.{list_all}
use Rattle.lv_overlay.specs.declared.put.Put.{Put}
use Rattle.lv_overlay.specs.Puts.{put_at}
use Rattle.lv_txn.specs.Written.{left_at}
use Rattle.lv_txn.proofs.Noting.{and_left, and_right, nothing}
use Rattle.lv_txn.proofs.writing.put_all.Goals as goal

pub put-requires : goal.put-requires
put-requires c = omega (arith, ap length c.in-Some.ensures.steps.0, c.loop-put.invariant.room)

pub loop-put-preserved : goal.loop-put-preserved
loop-put-preserved c =
    let here = c.in-Some.ensures.steps.0 in
    let rest = c.next.new.self.rest.items in
    record {
      room = omega (arith, ap length here, c.loop-put.invariant.room, c.put.ensures.room);
      left = λ p. ap (left_at rest p) (c.put.ensures.put p) ∙ ap (λ (l : List Put). left_at l p (put_at c.loop-put.own.list p)) (sym here) ∙ c.loop-put.invariant.left p;
      only = λ test a b.
          let so_far = c.loop-put.invariant.only test a b in
          let passed : list_all test (c.in-Some.put ∷ rest) ≡ true = subst (λ (l : List Put). list_all test l ≡ true) here so_far.0 in
          (and_right (test c.in-Some.put) _ passed, c.put.ensures.only test (and_left _ _ passed) so_far.1);
    }

pub returns-clause-left : goal.returns-clause-left
returns-clause-left c = λ p.
    let none : c.loop-put.put-iterator.rest.items ≡ [] = nothing c.loop-put.put-iterator.rest.items (sym c.loop-put.put-iterator.rest.ok.0 ∙ c.in-None.ensures.steps.0) in
    ap (λ (l : List Put). left_at l p (put_at c.loop-put.own.list p)) (sym none) ∙ c.loop-put.invariant.left p

pub returns-clause-only : goal.returns-clause-only
returns-clause-only c = λ test a b. (c.loop-put.invariant.only test a b).1
