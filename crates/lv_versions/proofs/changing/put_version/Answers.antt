use Rattle.std.proofs.Common.{◌-◌, ◌++◌, ◌∷◌, [], ap, arith, set, subst, sym, ◌∙◌}
use Rattle.std.specs.List.{insert}
use Rattle.lv_shelf.specs.Chains.{chain_at, newest_of}
use Rattle.lv_versions.specs.Versions.{AreChains, new_version}
use Rattle.lv_versions.proofs.BringingChains.{chained_inserted, chained_pushed, newest_pushed}
use Rattle.lv_versions.proofs.changing.put_version.Goals as goal

pub returns-then-ends_on_key-clause-chained : goal.returns-then-ends_on_key-clause-chained
returns-then-ends_on_key-clause-chained c =
    let ps = c.args.positions.now in
    let cs = c.args.versions.now.chains in
    let i = c.args.place - 1 in
    let some = c.ends_on_key.ensures.some c.if-ends_on_key.true in
    let is = c.push.ensures.added ∙ ap (λ x. set cs (c.args.place - 1) (chain_at cs (c.args.place - 1) ++ x ∷ [])) c.version_of.ensures in
    subst (AreChains ps) (sym is)
    (chained_pushed ps cs i (new_version c.args.number c.args.row) (omega (arith, some, c.requires.within)) (c.ends_on_key.ensures.here some) (λ v e. c.ends_on_key.ensures.key v c.if-ends_on_key.true e) c.requires.chained)

pub returns-then-ends_on_key-clause-newest : goal.returns-then-ends_on_key-clause-newest
returns-then-ends_on_key-clause-newest c =
    let cs = c.args.versions.now.chains in
    let i = c.args.place - 1 in
    let some = c.ends_on_key.ensures.some c.if-ends_on_key.true in
    let is = c.push.ensures.added ∙ ap (λ x. set cs (c.args.place - 1) (chain_at cs (c.args.place - 1) ++ x ∷ [])) c.version_of.ensures in
    ap (λ l. newest_of (chain_at l (c.args.place - 1))) is ∙ newest_pushed cs i (new_version c.args.number c.args.row) (omega (arith, some, c.requires.within))

pub returns-else-ends_on_key-clause-chained : goal.returns-else-ends_on_key-clause-chained
returns-else-ends_on_key-clause-chained c =
    let ps = c.args.positions.now in
    let cs = c.args.versions.now.chains in
    let is = c.insert.ensures.added ∙ ap (λ x. insert cs c.args.place (x ∷ [])) c.version_of-else-ends_on_key.ensures in
    subst (AreChains ps) (sym is)
    (chained_inserted ps cs c.args.place (new_version c.args.number c.args.row) c.requires.within c.requires.cut c.ends_on_key.ensures.here (λ v lt e t. c.ends_on_key.ensures.other v c.if-ends_on_key.false lt e t) c.requires.chained)
