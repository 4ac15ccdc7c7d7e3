use Rattle.std.proofs.Common.{◌≡◌, length, sym, subst, ◌∙◌}
use Rattle.lv_schema.proofs.Apart.{apart_filter}
use Rattle.lv_shelf.specs.Cuts.{Apart, IsCut}
use Rattle.lv_viewrows.specs.Standing.{Precedes, comes_before, has_no_end, not_ended, not_ended_before}
use Rattle.lv_viewrows.proofs.NotEnded.{all_pass_here, cut_filtered, cut_unique}
use Rattle.lv_viewrows.proofs.changing.front_not_ended.Goals as goal

pub returns-then-len_not_ended-len : goal.returns-then-len_not_ended-len
returns-then-len_not_ended-len c =
    let vs = c.args.versions.now.list in
    let p = comes_before c.args.row.now c.args.number in
    let same : length (not_ended vs) ≡ length vs = sym c.len_not_ended.ensures ∙ c.if-len_not_ended-len.true ∙ c.len.ensures in
    cut_unique p c.args.at (not_ended_before c.args.at vs) (not_ended vs) (subst (IsCut p c.args.at) (sym (all_pass_here has_no_end vs same)) c.requires.cut) (cut_filtered has_no_end p c.args.at vs c.requires.cut)

pub place_of-requires-clause-order : goal.place_of-requires-clause-order
place_of-requires-clause-order c = subst (Apart Precedes) (sym c.not_ended.ensures) (apart_filter Precedes has_no_end c.args.versions.now.list c.requires.order)

pub returns : goal.returns
returns c =
    let vs = c.args.versions.now.list in
    let p = comes_before c.args.row.now c.args.number in
    cut_unique p c.place_of.result (not_ended_before c.args.at vs) (not_ended vs) (subst (IsCut p c.place_of.result) c.not_ended.ensures c.place_of.ensures.cut) (cut_filtered has_no_end p c.args.at vs c.requires.cut)
