use Rattle.std.proofs.Common.{◌-◌, length, subst, sym}
use Rattle.lv_lines.specs.declared.names.Names.{Names}
use Rattle.lv_lines.specs.Entries.{HaveNames}
use Rattle.lv_runner.proofs.Named.{named_at, run_has_names}
use Rattle.lv_runner.proofs.writing.last_text.Goals as goal

pub print_entry-requires : goal.print_entry-requires
print_entry-requires g c =
    let run = c.args.core.now.run in
    let all = run_has_names g.D.Disk.seen g.D.Disk.may_leave g.D.Disk.moment g.D.Disk.left_since g.D.Disk.failures run c.known.ensures.run in
    let here = subst (λ (names : Names). HaveNames names run.entries) (sym c.requires) all in
    let listed = subst (HaveNames c.args.names.now) (sym c.entries.ensures) here in
    named_at c.args.names.now c.entries.result.now (length c.entries.result.now - 1) c.in-Some.entry.now listed c.in-Some.ensures.value
