use Rattle.std.proofs.Common.{◌≡◌, ◌+◌, List, length, ap, ◌∙◌, arith}
use Rattle.std.specs.List.{sum_by}
use Rattle.std.proofs.lemmas.List.{take_all}
use Rattle.lv_schema.specs.declared.net.Net.{Net}
use Rattle.lv_base.specs.Bases.{brought_in, versions_in}
use Rattle.lv_base.proofs.preparing.check_count.Goals as goal

pub returns : goal.returns
returns c =
    let counted : c.loop-net.count ≡ versions_in c.args.tables.now + brought_in c.args.nets.now =
    c.loop-net.invariant.counted ∙ ap (λ (nets : List Net). versions_in c.args.tables.now + sum_by (λ (net : Net). length net.plus) nets) (take_all c.loop-net.net-index c.args.nets.now (omega (arith, c.loop-net-test.false))) in
    omega (arith, c.loop-net.invariant.fits, counted)
