use Rattle.std.proofs.Common.{◌++◌, ℕ, List, length, ap, ◌∙◌}
use Rattle.lv_record.specs.Spelling.{spelling}
use Rattle.lv_record.proofs.Kept.{record_fits}
use Rattle.lv_record.proofs.Lengths.{record_long, short_has_few}
use Rattle.lv_record.proofs.whole.encode.Goals as goal

pub returns-clause-spelled : goal.returns-clause-spelled
returns-clause-spelled c =
    let r = c.args.rec.now in
    (record_fits r c.requires.kept c.size.ensures.typed (short_has_few r c.requires.short), c.in_ok-print.ensures.appended ∙ ap (λ (t : List ℕ). t ++ spelling r) c.in_ok-out.ensures)

pub returns-clause-long : goal.returns-clause-long
returns-clause-long c =
    let r = c.args.rec.now in
    let fits = record_fits r c.requires.kept c.size.ensures.typed (short_has_few r c.requires.short) in
    ap length (c.in_ok-print.ensures.appended ∙ ap (λ (t : List ℕ). t ++ spelling r) c.in_ok-out.ensures) ∙ record_long r fits
