use Rattle.std.proofs.Common.{length, ap, arith}
use Rattle.lv_effect.proofs.MostRows.{most_alive}
use Rattle.lv_base.specs.Bases.{table_in}
use Rattle.lv_store.proofs.store.Store.most_rows.Goals as goal

pub returns-else-snapshot-last : goal.returns-else-snapshot-last
returns-else-snapshot-last c =
    let kept = table_in c.args.self.now.base.tables c.args.table in
    let counted = ap length (ap (λ k. k.versions) c.versions.ensures.versions) in
    omega (arith, most_alive c.args.snapshot kept.versions, counted, c.count.ensures)
