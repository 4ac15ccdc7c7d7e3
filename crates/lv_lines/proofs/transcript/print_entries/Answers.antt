use Rattle.std.proofs.Common.{ℕ, List, ◌++◌, sym, ap, ◌∙◌}
use Rattle.lv_lines.specs.EntryForms.{entries}
use Rattle.lv_lines.proofs.SameText.{text_same}
use Rattle.lv_lines.proofs.transcript.print_entries.Goals as goal

pub returns : goal.returns
returns c =
    let names = c.args.names.now in
    let list = c.args.entries.now in
    c.in_ok-print_all.ensures.appended ∙ ap (λ (front : List ℕ). front ++ (entries names).text list) c.new-out.ensures ∙ sym (text_same names list)
