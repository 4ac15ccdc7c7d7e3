use Rattle.std.proofs.Common.{◌≡◌, ◌<◌, ◌+◌, ◌∷◌, List, drop, length, sym, ap, ◌∙◌, subst, arith}
use Rattle.std.proofs.lemmas.List.{drop_more}
use Rattle.lv_schema.specs.declared.signed.SignedRow.{SignedRow}
use Rattle.lv_store.specs.Querying.{RowsInstall}
use Rattle.lv_store.proofs.PendingRows.{rest_can, rest_takes}
use Rattle.lv_store.proofs.pending.install_copies.Goals as goal

pub loop-difference-preserved : goal.loop-difference-preserved
loop-difference-preserved c =
    let ds = c.args.differences.now in
    let i = c.loop-difference.difference-index in
    let d = c.difference-item.result in
    let old = c.loop-difference.rows in
    let new = c.install.new.rows in
    let lt : i < length ds = omega (arith, c.loop-difference-test.true) in
    let rest : drop i ds ≡ d ∷ drop (i + 1) ds = drop_more ds i d lt ∙ ap (λ x. x ∷ drop (i + 1) ds) (sym c.difference-item.is) in
    let installed : RowsInstall 0 d.hi d.changes old new = subst (λ (l : List SignedRow). RowsInstall 0 d.hi l old new) c.in_ok-copy.ensures c.in_ok-install.ensures.done in
    record {
      can = rest_can 0 (drop i ds) (drop (i + 1) ds) d rest old new c.loop-difference.invariant.can installed;
      done = rest_takes 0 (drop i ds) (drop (i + 1) ds) d rest ds c.args.rows.now old new c.loop-difference.invariant.done installed;
    }
