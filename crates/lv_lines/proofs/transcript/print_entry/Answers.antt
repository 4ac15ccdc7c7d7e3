use Rattle.std.proofs.Common.{◌≡◌, ◌++◌, sym, subst}
use Rattle.std.specs.Prelude.{OnOk}
use Rattle.lv_lines.proofs.SameText.{entry_same}
use Rattle.lv_lines.proofs.transcript.print_entry.Goals as goal

pub returns-else-is_err-clause-appended : goal.returns-else-is_err-clause-appended
returns-else-is_err-clause-appended c =
    subst (λ text. OnOk c.print-printed.result (c.print-printed.new.out ≡ c.args.out.now ++ text)) (sym (entry_same c.args.names.now c.args.entry.now)) c.print-printed.ensures.appended
