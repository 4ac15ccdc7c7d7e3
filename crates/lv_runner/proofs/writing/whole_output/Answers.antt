use Rattle.std.proofs.Common.{◌≡◌, IfOk, subst, sym}
use Rattle.lv_lines.specs.declared.names.Names.{Names}
use Rattle.lv_lines.specs.Entries.{HaveNames}
use Rattle.lv_lines.specs.Transcript.{text_of}
use Rattle.lv_runner.specs.Late.{output_now}
use Rattle.lv_runner.specs.Output.{output_by}
use Rattle.lv_runner.proofs.Named.{run_has_names}
use Rattle.lv_runner.proofs.writing.whole_output.Goals as goal

pub print_entries-requires : goal.print_entries-requires
print_entries-requires g c =
    let run = c.args.core.now.run in
    let all = run_has_names g.D.Disk.seen g.D.Disk.may_leave g.D.Disk.moment g.D.Disk.left_since g.D.Disk.failures run c.known.ensures.run in
    let here = subst (λ (names : Names). HaveNames names run.entries) (sym c.in_ok-names-in-None.ensures) all in
    subst (HaveNames c.in_ok-names-in-None.names) (sym c.entries.ensures) here

pub returns-in_ok-names-in-None : goal.returns-in_ok-names-in-None
returns-in_ok-names-in-None g c =
    let run = c.args.core.now.run in
    let same : text_of c.in_ok-names-in-None.names c.entries.result.now ≡ output_now c.args.made run =
    λ i. output_by (sym c.in-None.is i) (c.in_ok-names-in-None.ensures i) run.program (c.entries.ensures i) in
    subst (λ t. IfOk c.print_entries.result (λ text. text ≡ t)) same c.print_entries.ensures
