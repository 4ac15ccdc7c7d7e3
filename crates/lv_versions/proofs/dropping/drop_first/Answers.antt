use Rattle.std.proofs.Common.{◌≡◌, ◌+◌, List, [], length, length-set, true, Some, sym, ap, subst, ◌∙◌, arith}
use Rattle.std.specs.Prelude.{slice_get}
use Rattle.std.specs.List.{remove}
use Rattle.std.proofs.lemmas.List.{get_or-set_same}
use Rattle.lv_shelf.specs.Cuts.{Apart}
use Rattle.lv_shelf.specs.Shelves.{LacksItem, other_at}
use Rattle.lv_shelf.proofs.Among.{all_remove, apart_remove}
use Rattle.lv_shelf.proofs.Cutting.{got_within}
use Rattle.lv_schema.specs.declared.version.RowVersion.{RowVersion}
use Rattle.lv_shelf.specs.Chains.{before, chain_at, joined}
use Rattle.lv_versions.specs.Versions.{AreChains, AreIndexed, HasEnded, IsIn, Lived, Precedes, columns_at, comes_before, ends_after, is_over}
use Rattle.lv_versions.proofs.Chaining.{agreeing, oldest_flat}
use Rattle.lv_versions.proofs.Cleaning.{alone, filter_gone, first_gone, not_after}
use Rattle.lv_versions.proofs.Current.{ended_lacks}
use Rattle.lv_versions.proofs.DroppingChains.{below_agrees, chain_within, chained_shortened, first_oldest, first_there}
use Rattle.lv_versions.proofs.Indexing.{in_at, indexed_rest}
use Rattle.lv_versions.proofs.Keeping.{all_got, each_lacks, later_set, next_set, same_item}
use Rattle.lv_versions.proofs.Standing.{before_falls}
use Rattle.lv_versions.proofs.dropping.drop_first.Goals as goal

pub get_in-first-requires-clause-order : goal.get_in-first-requires-clause-order
get_in-first-requires-clause-order c = omega (arith, c.requires.orders.count)

pub cut_near-chain-requires : goal.cut_near-chain-requires
cut_near-chain-requires c =
    let ps = c.args.positions.now in
    let row = c.get_in-first.result.now.row in
    let old = c.args.versions.now in
    record {
      falls = before_falls ps row 0 (joined old.chains) c.requires.stand;
      agrees = agreeing ps (comes_before ps row 0) (below_agrees ps row) old.chains c.requires.chained;
    }

pub oldest-oldest-requires : goal.oldest-oldest-requires
oldest-oldest-requires c =
    let ps = c.args.positions.now in
    let old = c.args.versions.now in
    let v = c.get_in-first.result.now in
    let i = c.cut_near-chain.result in
    let found = first_there ps v (other_at old.others 0) (joined old.chains) (before old.chains i) c.get_in-first.ensures c.requires.stand c.requires.lived c.requires.orders.ended c.cut_near-chain.ensures.cut in
    chain_within old.chains i c.cut_near-chain.ensures.within (got_within (joined old.chains) (before old.chains i) v found)

pub leave-requires-clause-order : goal.leave-requires-clause-order
leave-requires-clause-order c = omega (arith, c.requires.orders.count)

pub leave_each-requires : goal.leave_each-requires
leave_each-requires c =
    let ps = c.args.positions.now in
    let cs = c.args.indexes.now in
    let old = c.args.versions.now in
    let v = c.get_in-first.result.now in
    let i = c.cut_near-chain.result in
    let rest = remove (other_at old.others 0) 0 in
    let is =
    first_oldest ps v c.oldest-oldest.result.now (other_at old.others 0) old.chains i c.get_in-first.ensures c.requires.stand c.requires.lived c.requires.orders.ended c.cut_near-chain.ensures.cut c.cut_near-chain.ensures.within
    c.oldest-oldest.ensures in
    let same = c.leave.ensures.same in
    record {
      chain = omega (arith, ap length same, is.0);
      count = ap length c.leave.ensures.left ∙ length-set old.others 0 rest ∙ c.requires.orders.count;
      here = λ w e.
          let e' = subst (λ (l : List (List RowVersion)). slice_get (chain_at l i) 0 ≡ Some w) same e in
          subst (λ (l : List (List RowVersion)). IsIn w (joined l)) (sym same) (in_at (joined old.chains) (before old.chains i) w (oldest_flat old.chains i w is.0 e'));
      indexed = λ j lt.
          rw (same, c.leave.ensures.left) (subst (λ l. AreIndexed (columns_at cs j) ps l (joined old.chains)) (sym (later_set old.others rest 0 j (omega arith))) (c.requires.orders.indexed j lt));
    }

pub shorten-requires : goal.shorten-requires
shorten-requires c =
    let ps = c.args.positions.now in
    let cs = c.args.indexes.now in
    let old = c.args.versions.now in
    let v = c.get_in-first.result.now in
    let i = c.cut_near-chain.result in
    let rest = remove (other_at old.others 0) 0 in
    let is =
    first_oldest ps v c.oldest-oldest.result.now (other_at old.others 0) old.chains i c.get_in-first.ensures c.requires.stand c.requires.lived c.requires.orders.ended c.cut_near-chain.ensures.cut c.cut_near-chain.ensures.within
    c.oldest-oldest.ensures in
    let chains = c.leave_each.ensures.same ∙ c.leave.ensures.same in
    let ended = c.leave_each.ensures.ended ∙ ap (λ l. other_at l 0) c.leave.ensures.left ∙ get_or-set_same old.others 0 rest [] (omega (arith, c.requires.orders.count)) in
    let next = c.leave_each.ensures.current ∙ ap (λ l. other_at l 1) c.leave.ensures.left ∙ next_set old.others rest in
    record {
      chain = omega (arith, ap length chains, is.0);
      alone = λ item e.
          let same : v ≡ item = same_item (chain_at old.chains i) 0 v item is.2 (subst (λ (l : List (List RowVersion)). slice_get (chain_at l i) 0 ≡ Some item) chains e) in
          each_lacks item cs c.leave_each.new.versions.others (c.leave_each.ensures.count ∙ ap length c.leave.ensures.left ∙ length-set old.others 0 rest ∙ c.requires.orders.count)
          (subst (LacksItem item) (sym ended) (subst (λ w. LacksItem w rest) same (alone v (other_at old.others 0) (joined old.chains) c.get_in-first.ensures c.requires.orders.ended)))
          (subst (LacksItem item) (sym next) (subst (λ w. LacksItem w (other_at old.others 1)) same (ended_lacks v (other_at old.others 1) c.requires.unended (all_got HasEnded (other_at old.others 0) 0 v c.get_in-first.ensures c.requires.orders.ended.ended))))
          (λ j lt. (c.leave_each.ensures.but item j e lt).lacks);
    }

pub returns-clause-current : goal.returns-clause-current
returns-clause-current c =
    let old = c.args.versions.now in
    ap (λ l. other_at l 1) c.shorten.ensures.others ∙ c.leave_each.ensures.current ∙ ap (λ l. other_at l 1) c.leave.ensures.left ∙ next_set old.others (remove (other_at old.others 0) 0)

pub returns-clause-stand : goal.returns-clause-stand
returns-clause-stand c =
    let old = c.args.versions.now in
    rw (c.shorten.ensures.joined, c.leave_each.ensures.same, c.leave.ensures.same) (apart_remove (Precedes c.args.positions.now) (joined old.chains) (before old.chains c.cut_near-chain.result) c.requires.stand)

pub returns-clause-chained : goal.returns-clause-chained
returns-clause-chained c =
    let ps = c.args.positions.now in
    let i = c.cut_near-chain.result in
    subst (AreChains ps) (sym c.shorten.ensures.rest)
    (chained_shortened ps c.leave_each.new.versions.chains i (subst (AreChains ps) (sym (c.leave_each.ensures.same ∙ c.leave.ensures.same)) c.requires.chained))

pub returns-clause-lived : goal.returns-clause-lived
returns-clause-lived c =
    let old = c.args.versions.now in
    rw (c.shorten.ensures.joined, c.leave_each.ensures.same, c.leave.ensures.same) (all_remove Lived (joined old.chains) (before old.chains c.cut_near-chain.result) c.requires.lived)

pub returns-clause-orders : goal.returns-clause-orders
returns-clause-orders c =
    let ps = c.args.positions.now in
    let cs = c.args.indexes.now in
    let old = c.args.versions.now in
    let v = c.get_in-first.result.now in
    let i = c.cut_near-chain.result in
    let rest = remove (other_at old.others 0) 0 in
    let is =
    first_oldest ps v c.oldest-oldest.result.now (other_at old.others 0) old.chains i c.get_in-first.ensures c.requires.stand c.requires.lived c.requires.orders.ended c.cut_near-chain.ensures.cut c.cut_near-chain.ensures.within
    c.oldest-oldest.ensures in
    let at = before old.chains i in
    let now = c.leave_each.new.versions in
    let chains : now.chains ≡ old.chains = c.leave_each.ensures.same ∙ c.leave.ensures.same in
    let there : slice_get (chain_at now.chains i) 0 ≡ Some v = subst (λ (l : List (List RowVersion)). slice_get (chain_at l i) 0 ≡ Some v) (sym chains) is.2 in
    let flat : slice_get (joined now.chains) (before now.chains i) ≡ Some v = subst (λ (l : List (List RowVersion)). slice_get (joined l) (before l i) ≡ Some v) (sym chains) is.1 in
    let ended = c.leave_each.ensures.ended ∙ ap (λ l. other_at l 0) c.leave.ensures.left ∙ get_or-set_same old.others 0 rest [] (omega (arith, c.requires.orders.count)) in
    record {
      count = ap length c.shorten.ensures.others ∙ c.leave_each.ensures.count ∙ ap length c.leave.ensures.left ∙ length-set old.others 0 rest ∙ c.requires.orders.count;
      ended = rw (c.shorten.ensures.joined, chains, c.shorten.ensures.others, ended) (first_gone ps v (other_at old.others 0) (joined old.chains) at c.requires.stand is.1 c.get_in-first.ensures c.requires.orders.ended);
      indexed = λ j lt.
          rw (c.shorten.ensures.joined, c.shorten.ensures.others)
          (indexed_rest (columns_at cs j) ps v (other_at now.others (j + 2)) (joined now.chains) (before now.chains i) (subst (λ (l : List (List RowVersion)). Apart (Precedes ps) (joined l)) (sym chains) c.requires.stand) flat
          (c.leave_each.ensures.but v j there lt));
    }

pub returns-clause-rest : goal.returns-clause-rest
returns-clause-rest c =
    let old = c.args.versions.now in
    ap (λ l. other_at l 0) c.shorten.ensures.others
    ∙ c.leave_each.ensures.ended
    ∙ ap (λ l. other_at l 0) c.leave.ensures.left
    ∙ get_or-set_same old.others 0 (remove (other_at old.others 0) 0) [] (omega (arith, c.requires.orders.count))

pub returns-clause-kept : goal.returns-clause-kept
returns-clause-kept c = λ w floor e over.
    let ps = c.args.positions.now in
    let cs = c.args.indexes.now in
    let old = c.args.versions.now in
    let v = c.get_in-first.result.now in
    let i = c.cut_near-chain.result in
    let rest = remove (other_at old.others 0) 0 in
    let is =
    first_oldest ps v c.oldest-oldest.result.now (other_at old.others 0) old.chains i c.get_in-first.ensures c.requires.stand c.requires.lived c.requires.orders.ended c.cut_near-chain.ensures.cut c.cut_near-chain.ensures.within
    c.oldest-oldest.ensures in
    let same : v ≡ w = same_item (other_at old.others 0) 0 v w c.get_in-first.ensures e in
    rw (c.shorten.ensures.joined, c.leave_each.ensures.same, c.leave.ensures.same)
    (filter_gone (λ x. ends_after floor x.until) v (joined old.chains) (before old.chains i) is.1 (not_after floor v (subst (λ x. is_over floor x ≡ true) (sym same) over)))
