use Rattle.std.proofs.Common.{ℕ, List, [], ◌∷◌, ◌++◌, codes, arith}
use Rattle.std.proofs.lemmas.Grind.{common_steps, flat_map-append}
use Rattle.lv_make.specs.ScriptText.{setup_lines, load_lines, edit_lines, read_lines, order_line, made_script}
use Rattle.lv_make.proofs.script_text.make_script.Goals as goal

pub returns : goal.returns
unfolding made_script
returns c =
    let line = λ (l : List ℕ). l ++ codes "\n" in
    let n = c.args.n in
    let first = flat_map-append line setup_lines (load_lines n ++ edit_lines ++ read_lines ++ order_line n ∷ []) in
    let second = flat_map-append line (load_lines n) (edit_lines ++ read_lines ++ order_line n ∷ []) in
    let third = flat_map-append line (edit_lines ++ read_lines) (order_line n ∷ []) in
    grind (arith, common_steps, first, second, third)
