use Rattle.std.proofs.Common.{map, nat_eq, Bor, List, ap, sym, ◌∙◌, arith}
use Rattle.std.proofs.lemmas.List.{drop-map, length-map}
use Rattle.lv_values.specs.declared.value.Value.{Value}
use Rattle.lv_joining.specs.Joining.{are_met}
use Rattle.lv_joining.proofs.Meeting.{met_end}
use Rattle.lv_joining.proofs.stand_ins.are_met.Goals as goal

pub returns : goal.returns
returns c =
    let seen = λ (row : Bor (List Value)). row.now in
    let rows = c.args.rows.now in
    let others = c.args.others.now in
    let all = length-map rows seen in
    let end = length-map others seen in
    ap (λ n. nat_eq c.loop-new.met n) (sym all)
    ∙ met_end c.args.key.now c.args.columns.now (map seen rows) (map seen others) c.loop-new.met c.loop-new.new-index (omega (arith, all, c.loop-new.invariant.0)) (omega (arith, end, c.loop-new-test.false, c.loop-new.auto.new-index-end)) ((λ i. are_met c.args.key.now c.args.columns.now (drop-map seen c.loop-new.met rows i) (drop-map seen c.loop-new.new-index others i)) ∙ c.loop-new.invariant.1)
