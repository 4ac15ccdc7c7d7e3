use Rattle.std.proofs.Common.{length, sym, ap, ◌∙◌, arith}
use Rattle.lv_schema.specs.declared.version.RowVersion.{RowVersion}
use Rattle.lv_schema.specs.Versions.{ends_after}
use Rattle.lv_stands.specs.Kept.{shown}
use Rattle.lv_base.proofs.Begins.{still_empty}
use Rattle.lv_base.proofs.table.Table.prune.Goals as goal

pub invariant_of-self : goal.invariant_of-self
invariant_of-self c =
    let old = c.self.inside.versions in
    let new = c.prune.new.self in
    record {
      counted = c.self.invariant.counted ∙ sym (ap length (c.prune.ensures.newest old.last (omega arith))) ∙ ap (λ n. length (shown n new.versions)) (sym c.prune.ensures.last);
      begins = ap (shown 0) c.prune.ensures.kept ∙ still_empty (λ (v : RowVersion). ends_after c.args.floor v.until) 0 old.versions c.self.invariant.begins;
    }
