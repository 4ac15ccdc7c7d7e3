use Rattle.std.proofs.Common.{◌≡◌, ◌-◌, ◌+◌, [], List, true, map, sym, ap, subst, ◌∙◌, arith}
use Rattle.std.specs.List.{remove}
use Rattle.std.proofs.lemmas.List.{get_or-set_same}
use Rattle.lv_schema.specs.declared.version.RowVersion.{RowVersion}
use Rattle.lv_shelf.specs.Cuts.{IsCut}
use Rattle.lv_shelf.specs.Shelves.{other_at}
use Rattle.lv_shelf.specs.Chains.{before, joined}
use Rattle.lv_versions.specs.Versions.{is_current, upto}
use Rattle.lv_versions.proofs.Current.{leaving}
use Rattle.lv_versions.proofs.Ending.{Closed}
use Rattle.lv_versions.proofs.EndingChains.{newest_stands, only_there}
use Rattle.lv_versions.proofs.changing.leave_current.Goals as goal

pub overflow_sub-place : goal.overflow_sub-place
overflow_sub-place c =
    let ps = c.args.positions.now in
    let row = c.args.row.now in
    let old = c.args.versions.now in
    let vs : List RowVersion = joined old.chains in
    let at = before old.chains (c.args.chain + 1) - 1 in
    let newest = newest_stands old.chains c.args.chain c.requires.chain c.requires.some in
    let left =
    leaving ps row c.args.number at c.place_among_current-place.result c.args.kept vs (other_at old.others 1) c.if-not-kept.false c.requires.stand
    (subst (λ n. IsCut (upto ps row) n vs) (sym newest.next) c.requires.cut)
    (λ v e. only_there (λ w. is_current ps row c.args.number w ≡ true) vs at newest.item v newest.there e (c.requires.is newest.item newest.newest)) c.requires.current
    c.place_among_current-place.ensures.cut
    in
    omega (arith, left.some)

pub leave-requires-clause-place : goal.leave-requires-clause-place
leave-requires-clause-place c =
    let ps = c.args.positions.now in
    let row = c.args.row.now in
    let old = c.args.versions.now in
    let vs : List RowVersion = joined old.chains in
    let at = before old.chains (c.args.chain + 1) - 1 in
    let newest = newest_stands old.chains c.args.chain c.requires.chain c.requires.some in
    let left =
    leaving ps row c.args.number at c.place_among_current-place.result c.args.kept vs (other_at old.others 1) c.if-not-kept.false c.requires.stand
    (subst (λ n. IsCut (upto ps row) n vs) (sym newest.next) c.requires.cut)
    (λ v e. only_there (λ w. is_current ps row c.args.number w ≡ true) vs at newest.item v newest.there e (c.requires.is newest.item newest.newest)) c.requires.current
    c.place_among_current-place.ensures.cut
    in
    left.within

pub returns-clause-left : goal.returns-clause-left
returns-clause-left c =
    let ps = c.args.positions.now in
    let row = c.args.row.now in
    let old = c.args.versions.now in
    let vs : List RowVersion = joined old.chains in
    let at = before old.chains (c.args.chain + 1) - 1 in
    let newest = newest_stands old.chains c.args.chain c.requires.chain c.requires.some in
    let left =
    leaving ps row c.args.number at c.place_among_current-place.result c.args.kept vs (other_at old.others 1) c.if-not-kept.false c.requires.stand
    (subst (λ n. IsCut (upto ps row) n vs) (sym newest.next) c.requires.cut)
    (λ v e. only_there (λ w. is_current ps row c.args.number w ≡ true) vs at newest.item v newest.there e (c.requires.is newest.item newest.newest)) c.requires.current
    c.place_among_current-place.ensures.cut
    in
    let less : List RowVersion = remove (other_at old.others 1) (c.place_among_current-place.result - 1) in
    ap (map (Closed ps c.args.number row)) (ap (λ l. other_at l 1) c.leave.ensures.left ∙ get_or-set_same old.others 1 less [] c.requires.order) ∙ left.rest

pub returns-clause-place : goal.returns-clause-place
returns-clause-place c = λ _.
    let ps = c.args.positions.now in
    let row = c.args.row.now in
    let old = c.args.versions.now in
    let vs : List RowVersion = joined old.chains in
    let at = before old.chains (c.args.chain + 1) - 1 in
    let newest = newest_stands old.chains c.args.chain c.requires.chain c.requires.some in
    let left =
    leaving ps row c.args.number at c.place_among_current-place.result c.args.kept vs (other_at old.others 1) c.if-not-kept.false c.requires.stand
    (subst (λ n. IsCut (upto ps row) n vs) (sym newest.next) c.requires.cut)
    (λ v e. only_there (λ w. is_current ps row c.args.number w ≡ true) vs at newest.item v newest.there e (c.requires.is newest.item newest.newest)) c.requires.current
    c.place_among_current-place.ensures.cut
    in
    left.cut
