use Rattle.std.proofs.Common.{◌≡◌, ◌+◌, drop}
use Rattle.std.specs.List.{prefix_len}
use Rattle.std.specs.Ordering.{is_eq}
use Rattle.lv_group.specs.Entries.{AnEntry, entry_cmp}
use Rattle.lv_group.proofs.gathering.run_len.Given as goal

abbrev pub invariant-loop-i : goal.invariant-loop-i
invariant-loop-i l =
    let ties = λ (entry : AnEntry). is_eq (entry_cmp l.first entry) in prefix_len ties l.entries ≡ l.i + prefix_len ties (drop l.i l.entries)
