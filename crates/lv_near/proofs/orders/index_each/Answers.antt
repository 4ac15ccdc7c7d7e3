use Rattle.std.proofs.Common.{◌∙◌, get_or}
use Rattle.lv_reach.specs.declared.link.Link.{Link}
use Rattle.lv_base.specs.Bases.{KeepsIndexes}
use Rattle.lv_near.proofs.LinkIndexes.{end_stays, one_more}
use Rattle.lv_near.proofs.orders.index_each.Goals as goal

pub loop-link-preserved : goal.loop-link-preserved
loop-link-preserved c =
    let tables = c.args.tables.now in
    let links = c.args.links.now in
    let before = c.loop-link.base in
    let mid = c.index_columns.new.base in
    let now = c.index_columns-in-loop-link.new.base in
    let at = c.loop-link.link-index in
    let d : Link = record { left = record { alias = 0; column = 0 }; right = record { alias = 0; column = 0 } } in
    let link : Link = get_or links at d in
    let second = c.in_ok-index_columns-2.ensures in
    let kept : KeepsIndexes before now = λ t columns h. second.kept t columns (c.in_ok-index_columns.ensures.kept t columns h) in
    record {
      same = second.same ∙ c.in_ok-index_columns.ensures.same ∙ c.loop-link.invariant.same;
      kept = λ t columns h. kept t columns (c.loop-link.invariant.kept t columns h);
      there =
          one_more before now kept tables links at d c.loop-link-test.true c.loop-link.invariant.there
          (end_stays mid now second.kept tables links link.left.alias link.right.alias c.in_ok-index_columns.ensures.there, second.there);
    }
