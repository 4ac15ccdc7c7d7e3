use Rattle.std.proofs.Common.{◌≡◌, ◌+◌, ◌<◌, ◌∙◌, ◌++◌, ◌∷◌, [], List, length, length-append, map, ap, arith}
use Rattle.lv_schema.specs.declared.net.Net.{Net}
use Rattle.lv_schema.specs.Condensed.{condensed}
use Rattle.lv_versions.specs.Versions.{Kept}
use Rattle.lv_base.specs.Bases.{net_in, table_in}
use Rattle.lv_base.proofs.Places.{condensed_at, item_is, pushed_each}
use Rattle.lv_base.proofs.preparing.condense_each.Goals as goal

pub loop-table-preserved : goal.loop-table-preserved
loop-table-preserved c =
    let tables = c.args.tables.now in
    let at = c.loop-table.table-index in
    let nets = c.loop-table.nets in
    let net = c.in_ok-net.net in
    let added : c.push.new.self ≡ nets ++ net ∷ [] = c.in_ok-push.ensures.added in
    let there : at < length tables = omega (arith, c.loop-table-test.true) in
    let versions : c.versions.result.now ≡ table_in tables at =
    let a = c.versions.ensures in
    let b = c.table-item.is in
    let d = item_is tables at c.table-item.result there in
    cc in
    let last = condensed_at tables c.args.actions.now at c.def.result.now net (c.requires at there) (c.def.ensures ∙ ap (λ (k : Kept). k.def) versions) c.in_ok-net.ensures in
    record {
      all = ap length added ∙ length-append nets (net ∷ []) ∙ ap (λ n. n + 1) c.loop-table.invariant.all;
      each = λ t lt.
          ap (λ (l : List Net). net_in l t) added ∙ pushed_each (condensed (map (λ (k : Kept). k.def) tables) c.args.actions.now) nets net at c.loop-table.invariant.all c.loop-table.invariant.each last t lt;
    }
