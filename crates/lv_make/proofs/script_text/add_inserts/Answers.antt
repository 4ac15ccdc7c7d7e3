use Rattle.std.proofs.Common.{map, arith, ap, ◌∙◌}
use Rattle.std.specs.List.{range_with_len}
use Rattle.std.proofs.lemmas.Grind.{common_steps}
use Rattle.std.proofs.lemmas.List.FromFn.{map-range_with_len_more}
use Rattle.lv_make.specs.ScriptText.{sale_line, text_of}
use Rattle.lv_make.proofs.Joined.{text_of_next}
use Rattle.lv_make.proofs.script_text.add_inserts.Goals as goal

pub loop-k-preserved : goal.loop-k-preserved
loop-k-preserved c =
    let line = sale_line c.args.n in
    let k = c.loop-k.k in
    let next = ap text_of (map-range_with_len_more line 0 k k (omega arith)) ∙ text_of_next (map line (range_with_len 0 k)) (line k) in
    grind (arith, common_steps, next, c.loop-k.invariant)
