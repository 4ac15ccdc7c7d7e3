use Rattle.std.proofs.Common.{◌≡◌, filter, sym, subst}
use Rattle.std.specs.Prelude.{IfOk}
use Rattle.lv_schema.specs.declared.view.ViewDef.{ViewDef}
use Rattle.lv_viewrows.specs.Beginning.{AllFrom, AllUpTo}
use Rattle.lv_store.proofs.PendingRows.{copy_shows, takes_def}
use Rattle.lv_store.proofs.pending.rows_with.Goals as goal

pub read_passing-requires-in_default-clause-low : goal.read_passing-requires-in_default-clause-low
read_passing-requires-in_default-clause-low g c =
    subst (λ (view : ViewDef). AllFrom view (g.T.Test.passed c.args.test.now) (g.T.Seek.lowest c.args.test.now))
    (sym (takes_def 0 c.args.differences.now c.args.rows.now c.in_ok-copy_with-in_default.field-0 c.in_ok-copy_with-in_default.ensures)) c.requires.low

pub read_passing-requires-in_default-clause-high : goal.read_passing-requires-in_default-clause-high
read_passing-requires-in_default-clause-high g c =
    subst (λ (view : ViewDef). AllUpTo view (g.T.Test.passed c.args.test.now) (g.T.Seek.highest c.args.test.now))
    (sym (takes_def 0 c.args.differences.now c.args.rows.now c.in_ok-copy_with-in_default.field-0 c.in_ok-copy_with-in_default.ensures)) c.requires.high

pub returns-in_ok-copy_with-in_default : goal.returns-in_ok-copy_with-in_default
returns-in_ok-copy_with-in_default g c = λ floor new take.
    let p = g.T.Test.passed c.args.test.now in
    subst (λ rows. IfOk c.read_passing-in_default-2.result (λ list. list ≡ filter p rows))
    (copy_shows 0 floor c.args.differences.now c.args.rows.now c.in_ok-copy_with-in_default.field-0 new c.args.n c.requires.upto c.in_ok-copy_with-in_default.ensures take) c.read_passing-in_default-2.ensures
