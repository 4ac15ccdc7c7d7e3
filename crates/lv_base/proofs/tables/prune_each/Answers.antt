use Rattle.std.proofs.Common.{◌<◌, ◌∙◌, length, ap, subst, arith}
use Rattle.std.proofs.Math.Seq.{map-set_same}
use Rattle.std.proofs.lemmas.List.{get_or-set_other, length-set}
use Rattle.lv_stands.specs.Moves.{TableCleaned}
use Rattle.lv_versions.specs.Versions.{Kept}
use Rattle.lv_base.specs.Bases.{kept_of, no_versions, table_in}
use Rattle.lv_base.proofs.Places.{item_is, later, set_next, spare_kept}
use Rattle.lv_base.proofs.tables.prune_each.Goals as goal

pub prune-requires : goal.prune-requires
prune-requires c =
    let tables = c.loop-at.tables in
    let at = c.loop-at.at in
    let there : at < length tables = omega (arith, c.loop-at.invariant.long, c.loop-at-test.true) in
    let item = item_is tables at c.index-tables-at.result there ∙ c.loop-at.invariant.rest at (omega arith) in
    omega (arith, ap (λ (k : Kept). k.floor) item, c.requires at (omega (arith, there, c.loop-at.invariant.long)))

pub loop-at-preserved : goal.loop-at-preserved
loop-at-preserved c =
    let tables = c.loop-at.tables in
    let at = c.loop-at.at in
    let new = c.prune.new.self in
    let there : at < length tables = omega (arith, c.loop-at.invariant.long, c.loop-at-test.true) in
    let item = item_is tables at c.index-tables-at.result there ∙ c.loop-at.invariant.rest at (omega arith) in
    record {
      long = length-set tables at new ∙ c.loop-at.invariant.long;
      cleaned =
          set_next (λ t k. TableCleaned c.args.floor (kept_of (table_in c.args.tables.now t)) (kept_of k)) tables at new there
          (subst (λ (k : Kept). TableCleaned c.args.floor (kept_of k) (kept_of new)) item c.prune.ensures.cleaned) c.loop-at.invariant.cleaned;
      rest = λ t le. get_or-set_other tables at t new no_versions (later t at le) ∙ c.loop-at.invariant.rest t (omega (arith, le));
      room = spare_kept c.args.tables.now tables at c.index-tables-at.result new there c.prune.ensures.room c.loop-at.invariant.room;
      indexes = map-set_same (λ (k : Kept). k.indexes) tables at new c.index-tables-at.result c.prune.ensures.indexes ∙ c.loop-at.invariant.indexes;
    }
