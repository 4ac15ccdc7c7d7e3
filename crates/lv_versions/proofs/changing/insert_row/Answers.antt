use Rattle.std.proofs.Common.{◌≡◌, ◌+◌, ◌<◌, List, [], filter, length, set, refl, sym, ap, subst, ◌∙◌, arith}
use Rattle.std.specs.List.{insert}
use Rattle.std.proofs.lemmas.List.{get_or-set_same}
use Rattle.lv_schema.proofs.Apart.{all_filter}
use Rattle.lv_schema.specs.declared.version.RowVersion.{RowVersion}
use Rattle.lv_shelf.specs.Cuts.{IsCut}
use Rattle.lv_shelf.specs.Shelves.{LacksItem, other_at}
use Rattle.lv_shelf.specs.Chains.{before, chain_at, joined, newest_of}
use Rattle.lv_versions.specs.Versions.{current_of, is_open, new_version, upto}
use Rattle.lv_versions.proofs.EndingChains.{some_same}
use Rattle.lv_versions.proofs.Current.{put_open}
use Rattle.lv_versions.proofs.changing.insert_row.Goals as goal

pub enter-requires-clause-absent : goal.enter-requires-clause-absent
enter-requires-clause-absent c = λ v e.
    let old = c.args.versions.now in
    let vs : List RowVersion = joined old.chains in
    let x : RowVersion = new_version c.args.number c.args.row in
    let same : x ≡ v = some_same (newest_of (chain_at c.put_version-chain.new.versions.chains c.put_version-chain.result)) x v c.put_version-chain.ensures.newest e in
    let current : other_at old.others 1 ≡ filter is_open vs = c.requires.current ∙ ap (λ b. current_of b vs) c.if-not-kept.false in
    subst (λ w. LacksItem w (other_at c.put_version-chain.new.versions.others 1)) same
    (rw (c.put_version-chain.ensures.others, current) (all_filter (λ y. y ≡ x → ⊥) is_open vs c.requires.new))

pub returns : goal.returns
returns c =
    let ps = c.args.positions.now in
    let number = c.args.number in
    let row = c.args.row in
    let old = c.args.versions.now in
    let now = c.enter.new.self in
    let vs : List RowVersion = joined old.chains in
    let b = before old.chains c.args.place in
    let at = c.place_of_current-at.result in
    let x : RowVersion = new_version number row in
    let put = c.put_version-chain.ensures in
    let others = put.others in
    let shown : List RowVersion = insert (other_at c.put_version-chain.new.versions.others 1) at x in
    let entered : now.others ≡ set c.put_version-chain.new.versions.others 1 shown = c.enter.ensures.entered x put.newest in
    let some : 1 < length c.put_version-chain.new.versions.others = omega (arith, ap length others, c.requires.order) in
    let first : other_at now.others 1 ≡ shown = ap (λ l. other_at l 1) entered ∙ get_or-set_same c.put_version-chain.new.versions.others 1 shown [] some in
    let current : other_at old.others 1 ≡ filter is_open vs = c.requires.current ∙ ap (λ t. current_of t vs) c.if-not-kept.false in
    let same = c.enter.ensures.same in
    let list : joined now.chains ≡ insert vs b x = ap joined same ∙ put.added in
    record {
      added = list;
      chained = rw same put.chained;
      within = rw same put.within;
      newest = rw same put.newest;
      others = entered ∙ ap (λ l. set l 1 shown) others ∙ ap (set old.others 1) (sym first);
      current = first
          ∙ ap (λ l. insert l at x) (ap (λ l. other_at l 1) others ∙ current)
          ∙ sym (put_open is_open (upto ps row) b at x vs refl c.requires.cut (subst (IsCut (upto ps row) at) current c.place_of_current-at.ensures.cut))
          ∙ sym (ap (filter is_open) list)
          ∙ sym (ap (λ t. current_of t (joined now.chains)) c.if-not-kept.false);
      room = ap (λ n. n + 1) c.enter.ensures.room ∙ put.room;
    }
