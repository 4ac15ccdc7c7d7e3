use Rattle.std.proofs.Common.{◌≡◌, ◌≤◌, ◌<◌, ◌∙◌, length, get_or, ap, arith}
use Rattle.std.proofs.Math.Seq.{map-set_same}
use Rattle.std.proofs.lemmas.List.{get_or_default, length-set}
use Rattle.lv_schema.specs.declared.net.Net.{Net}
use Rattle.lv_stands.specs.Moves.{no_net}
use Rattle.lv_versions.specs.Versions.{Kept}
use Rattle.lv_base.specs.Bases.{kept_of, net_in}
use Rattle.lv_base.proofs.Places.{set_next, spare_kept}
use Rattle.lv_base.proofs.preparing.reserve_each.Goals as goal

pub returns-in_err-reserve-clause-same : goal.returns-in_err-reserve-clause-same
returns-in_err-reserve-clause-same c = map-set_same kept_of c.loop-at.tables c.loop-at.at c.reserve.new.self c.index-tables-at.result c.reserve.ensures.same ∙ c.loop-at.invariant.same

pub returns-in_err-reserve-clause-kept : goal.returns-in_err-reserve-clause-kept
returns-in_err-reserve-clause-kept c =
    let there : c.loop-at.at < length c.loop-at.tables = omega (arith, c.loop-at.invariant.long, c.loop-at-test.true) in
    spare_kept c.args.tables.now c.loop-at.tables c.loop-at.at c.index-tables-at.result c.reserve.new.self there c.reserve.ensures.kept c.loop-at.invariant.kept

pub returns-in_err-reserve-clause-indexes : goal.returns-in_err-reserve-clause-indexes
returns-in_err-reserve-clause-indexes c = map-set_same (λ (k : Kept). k.indexes) c.loop-at.tables c.loop-at.at c.reserve.new.self c.index-tables-at.result c.reserve.ensures.indexes ∙ c.loop-at.invariant.indexes

pub loop-at-preserved : goal.loop-at-preserved
loop-at-preserved c =
    let tables = c.loop-at.tables in
    let at = c.loop-at.at in
    let new = c.reserve.new.self in
    let there : at < length tables = omega (arith, c.loop-at.invariant.long, c.loop-at-test.true) in
    let nets = c.args.nets.now in
    let item : get_or nets at c.index-nets-at.result ≡ net_in nets at = get_or_default nets at c.index-nets-at.result no_net (omega (arith, there, c.loop-at.invariant.long, c.requires)) in
    let enough : length (net_in nets at).plus ≤ new.spare =
    omega (arith, c.in_ok-reserve.ensures.room, c.len.ensures, ap (λ (net : Net). length net.plus) item, ap (λ (net : Net). length net.plus) c.index-nets-at.is) in
    record {
      same = map-set_same kept_of tables at new c.index-tables-at.result c.reserve.ensures.same ∙ c.loop-at.invariant.same;
      long = length-set tables at new ∙ c.loop-at.invariant.long;
      room = set_next (λ t k. length (net_in c.args.nets.now t).plus ≤ k.spare) tables at new there enough c.loop-at.invariant.room;
      kept = spare_kept c.args.tables.now tables at c.index-tables-at.result new there c.reserve.ensures.kept c.loop-at.invariant.kept;
      indexes = map-set_same (λ (k : Kept). k.indexes) tables at new c.index-tables-at.result c.reserve.ensures.indexes ∙ c.loop-at.invariant.indexes;
    }
