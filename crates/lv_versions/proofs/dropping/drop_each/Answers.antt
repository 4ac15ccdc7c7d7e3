use Rattle.std.proofs.Common.{◌≡◌, ◌+◌, ◌-◌, suc, true, sym, subst, ◌∙◌, arith}
use Rattle.std.specs.List.{AllByRecursion}
use Rattle.lv_shelf.specs.Cuts.{IsCut}
use Rattle.lv_shelf.specs.Shelves.{other_at}
use Rattle.lv_shelf.specs.Chains.{joined}
use Rattle.lv_versions.specs.Versions.{is_open, is_over}
use Rattle.lv_versions.proofs.Cleaning.{first_passes, none_over, rest_cut}
use Rattle.lv_versions.proofs.Keeping.{item_there}
use Rattle.lv_versions.proofs.dropping.drop_each.Goals as goal

pub drop_first-requires-clause-some : goal.drop_first-requires-clause-some
drop_first-requires-clause-some c =
    let i = c.loop.counter in
    let is : c.args.many - i ≡ suc (c.args.many - (i + 1)) = let h = c.loop-test.true in omega arith in
    (rest_cut (is_over c.args.floor) (c.args.many - i) (c.args.many - (i + 1)) (other_at c.loop.versions.others 0) is c.loop.invariant.over).0

pub loop-preserved : goal.loop-preserved
loop-preserved c =
    let i = c.loop.counter in
    let many = c.args.many in
    let over = is_over c.args.floor in
    let order = other_at c.loop.versions.others 0 in
    let is : many - i ≡ suc (many - (i + 1)) = let h = c.loop-test.true in omega arith in
    let rest = rest_cut over (many - i) (many - (i + 1)) order is c.loop.invariant.over in
    let first = item_there order 0 rest.0 in
    record {
      stand = c.drop_first.ensures.stand;
      chained = c.drop_first.ensures.chained;
      lived = c.drop_first.ensures.lived;
      orders = c.drop_first.ensures.orders;
      over = subst (IsCut over (many - (i + 1))) (sym c.drop_first.ensures.rest) rest.1;
      kept = c.drop_first.ensures.kept first.0 c.args.floor first.1 (first_passes over (many - i) (many - (i + 1)) order first.0 is first.1 c.loop.invariant.over) ∙ c.loop.invariant.kept;
      unended = subst (AllByRecursion (λ v. is_open v ≡ true)) (sym c.drop_first.ensures.current) c.loop.invariant.unended;
      current = c.drop_first.ensures.current ∙ c.loop.invariant.current;
      room = omega (arith, c.drop_first.ensures.room, c.loop.invariant.room);
    }

pub returns-clause-kept : goal.returns-clause-kept
returns-clause-kept c =
    let order = other_at c.loop.versions.others 0 in
    let is : c.args.many - c.loop.counter ≡ 0 = let h = c.loop-test.false in omega arith in
    let none = subst (λ n. IsCut (is_over c.args.floor) n order) is c.loop.invariant.over in
    sym (none_over c.args.floor order (joined c.loop.versions.chains) c.loop.invariant.orders.ended none) ∙ c.loop.invariant.kept
