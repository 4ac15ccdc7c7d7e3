use Rattle.std.proofs.Common.{◌≡◌, ◌+◌, ◌-◌, ◌∷◌, [], ◌++◌, List, length, map, set, suc, sym, ap, subst, ◌∙◌, arith}
use Rattle.std.proofs.lemmas.List.{length-map, length-set}
use Rattle.lv_schema.specs.declared.version.RowVersion.{RowVersion}
use Rattle.lv_shelf.specs.Cuts.{IsCut}
use Rattle.lv_shelf.specs.Shelves.{ChangesOnly, LacksItem, other_at}
use Rattle.lv_shelf.specs.Chains.{before, chain_at, joined, newest_of}
use Rattle.lv_versions.specs.Versions.{AreEnded, AreOrders, current_of, upto}
use Rattle.lv_versions.proofs.Chaining.{edited_chains, joined_map}
use Rattle.lv_versions.proofs.Cleaning.{changes_one}
use Rattle.lv_versions.proofs.Ending.{Closed}
use Rattle.lv_versions.proofs.EndingChains.{newest_in_map, newest_stands, some_same}
use Rattle.lv_versions.proofs.Keeping.{absent_last, first_set, orders_ended, others_ended}
use Rattle.lv_versions.proofs.changing.end_at.Goals as goal

pub leave_current-place-requires-clause-order : goal.leave_current-place-requires-clause-order
leave_current-place-requires-clause-order c = omega (arith, c.requires.orders.count)

pub edit-requires : goal.edit-requires
edit-requires c = omega (arith, c.requires.chain, ap length c.leave_current-place.ensures.same)

pub enter_last-requires : goal.enter_last-requires
enter_last-requires c =
    let ps = c.args.positions.now in
    let old = c.args.versions.now in
    let row = c.args.row.now in
    let number = c.args.number in
    let chain = c.args.chain in
    let cs : List (List RowVersion) = old.chains in
    let vs : List RowVersion = joined cs in
    let at = before cs (chain + 1) - 1 in
    let f : RowVersion → RowVersion = Closed ps number row in
    let newest = newest_stands cs chain c.requires.chain c.requires.some in
    let item = newest.item in
    let next : suc at ≡ before cs (chain + 1) = omega (arith, newest.next) in
    let current = c.requires.is item newest.newest in
    let only = changes_one ps row number at (before cs (chain + 1)) vs item next c.requires.stand c.requires.cut newest.there in
    let same = c.leave_current-place.ensures.same in
    let there = ap (λ l. newest_of (chain_at l chain)) same ∙ newest.newest in
    let less = other_at c.leave_current-place.new.versions.others 1 in
    let edited : c.edit.new.self.chains ≡ map (map f) cs =
    c.edit.ensures.edited item there ∙ ap (λ l. set l chain (set (chain_at l chain) (length (chain_at l chain) - 1) (f item))) same
    ∙ edited_chains f cs chain item c.requires.chain newest.newest only in
    let mapped : c.edit.new.self.others ≡ map (map f) (set old.others 1 less) =
    c.edit.ensures.others (subst (λ l. ChangesOnly f (before l (chain + 1) - 1) (joined l)) (sym same) only) ∙ ap (map (map f)) c.leave_current-place.ensures.others in
    record {
      chain = omega (arith, c.requires.chain, ap length edited, length-map cs (map f));
      some = omega (arith, ap length mapped, length-map (set old.others 1 less) (map f), length-set old.others 1 less, c.requires.orders.count);
      absent = λ v e.
          let is = some_same (newest_of (chain_at (map (map f) cs) chain)) (f item) v (newest_in_map f cs chain item newest.newest) (ap (λ l. newest_of (chain_at l chain)) (sym edited) ∙ e) in
          subst (λ l. LacksItem v (other_at l 0)) (sym mapped)
          (subst (λ w. LacksItem w (other_at (map (map f) (set old.others 1 less)) 0)) is
          (absent_last ps number row (set old.others 1 less) vs at item c.requires.stand newest.there current (subst (λ l. AreEnded l vs) (sym (first_set old.others less)) c.requires.orders.ended)));
    }

pub returns : goal.returns
returns c =
    let ps = c.args.positions.now in
    let cols = c.args.indexes.now in
    let old = c.args.versions.now in
    let now = c.enter_last.new.versions in
    let row = c.args.row.now in
    let number = c.args.number in
    let chain = c.args.chain in
    let cs : List (List RowVersion) = old.chains in
    let vs : List RowVersion = joined cs in
    let at = before cs (chain + 1) - 1 in
    let f : RowVersion → RowVersion = Closed ps number row in
    let newest = newest_stands cs chain c.requires.chain c.requires.some in
    let item = newest.item in
    let x : RowVersion = f item in
    let next : suc at ≡ before cs (chain + 1) = omega (arith, newest.next) in
    let current = c.requires.is item newest.newest in
    let only = changes_one ps row number at (before cs (chain + 1)) vs item next c.requires.stand c.requires.cut newest.there in
    let same = c.leave_current-place.ensures.same in
    let there = ap (λ l. newest_of (chain_at l chain)) same ∙ newest.newest in
    let less = other_at c.leave_current-place.new.versions.others 1 in
    let edited : c.edit.new.self.chains ≡ map (map f) cs =
    c.edit.ensures.edited item there ∙ ap (λ l. set l chain (set (chain_at l chain) (length (chain_at l chain) - 1) (f item))) same
    ∙ edited_chains f cs chain item c.requires.chain newest.newest only in
    let mapped : c.edit.new.self.others ≡ map (map f) (set old.others 1 less) =
    c.edit.ensures.others (subst (λ l. ChangesOnly f (before l (chain + 1) - 1) (joined l)) (sym same) only) ∙ ap (map (map f)) c.leave_current-place.ensures.others in
    let ended = ap (λ l. newest_of (chain_at l chain)) edited ∙ newest_in_map f cs chain item newest.newest in
    let chains : now.chains ≡ map (map f) cs = c.enter_last.ensures.same ∙ edited in
    let list : joined now.chains ≡ map f vs = ap joined chains ∙ joined_map f cs in
    let last : List RowVersion = other_at (map (map f) (set old.others 1 less)) 0 ++ x ∷ [] in
    let entered : now.others ≡ set (map (map f) (set old.others 1 less)) 0 last = subst (λ l. now.others ≡ set l 0 (other_at l 0 ++ x ∷ [])) mapped (c.enter_last.ensures.entered x ended) in
    let shown : other_at now.others 1 ≡ current_of c.args.kept (map f vs) = others_ended f old.others now.others less last (omega (arith, c.requires.orders.count)) entered ∙ c.leave_current-place.ensures.left in
    record {
      ended = chains;
      orders = subst (AreOrders ps cols now.others) (sym list) (orders_ended ps cols number row old.others now.others vs less at item c.requires.stand c.requires.ends newest.there current only c.requires.orders entered);
      current = shown ∙ sym (ap (current_of c.args.kept) list);
      room = c.enter_last.ensures.room ∙ c.edit.ensures.room ∙ c.leave_current-place.ensures.room;
      place = λ h. subst (IsCut (upto ps row) c.leave_current-place.result) (sym shown) (c.leave_current-place.ensures.place h);
    }
