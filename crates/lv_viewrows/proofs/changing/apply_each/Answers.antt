use Rattle.std.proofs.Common.{refl, arith}
use Rattle.lv_schema.specs.declared.signed.SignedRow.{SignedRow}
use Rattle.lv_schema.proofs.Apart.{all_true}
use Rattle.lv_viewrows.specs.Standing.{NoneBefore, not_ended}
use Rattle.lv_viewrows.proofs.Galloping.{none_at_end}
use Rattle.lv_viewrows.proofs.changing.apply_each.Goals as goal

pub loop-change-init : goal.loop-change-init
loop-change-init c =
    let vs = c.args.versions.now.list in
    let number = c.args.number in
    let all = c.len.result in
    let few = c.len_not_ended.result in
    record {
      left = record {
        order = c.requires.order;
        each = c.requires.each;
        ascend = c.requires.ascend;
        meet = c.requires.meet;
        within = omega (arith, c.len.ensures);
        above = all_true (λ (s : SignedRow). NoneBefore s.row number all vs) (λ (s : SignedRow). none_at_end s.row number all vs (omega (arith, c.len.ensures))) c.args.changes;
        within_few = omega (arith, c.len_not_ended.ensures);
        above_few = all_true (λ (s : SignedRow). NoneBefore s.row number few (not_ended vs)) (λ (s : SignedRow). none_at_end s.row number few (not_ended vs) (omega (arith, c.len_not_ended.ensures))) c.args.changes;
      };
      changed = refl;
      room = c.requires.room;
      taken = omega arith;
    }
