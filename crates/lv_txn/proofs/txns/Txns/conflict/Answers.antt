use Rattle.std.proofs.Common.{◌≡◌, Option, sym, ap, ap₂, subst, ◌∙◌}
use Rattle.std.specs.Prelude.{IfOk, option_map}
use Rattle.lv_schema.specs.declared.fault.Fault.{Fault}
use Rattle.lv_schema.specs.Commits.{conflict_in}
use Rattle.lv_txn.specs.Kept.{TransactionKept}
use Rattle.lv_txn.specs.Written.{conflict_fault}
use Rattle.lv_txn.proofs.FirstWritten.{above_conflict}
use Rattle.lv_txn.proofs.txns.Txns.conflict.Goals as goal

pub returns : goal.returns
returns c =
    let tables = c.args.schema.now.tables in
    let entries = c.args.deltas.now.entries in
    let of = c.transaction-transaction.ensures.of in
    subst (λ (f : Option Fault). IfOk c.conflict.result (λ x. option_map conflict_fault x ≡ f))
    (above_conflict tables entries c.above.result.now c.snapshot.result c.actions.result.now c.above.ensures
    ∙ ap₂ (conflict_in tables entries) (c.snapshot.ensures ∙ sym (ap (λ (t : TransactionKept). t.snapshot) of)) (c.actions.ensures ∙ sym (ap (λ (t : TransactionKept). t.actions) of)))
    c.conflict.ensures
