use Rattle.std.proofs.Common.{◌≡◌, ◌-◌, true, false, length, sym, ap, ◌∙◌, arith}
use Rattle.std.specs.Prelude.{slice_get, slice_set}
use Rattle.lv_bags.specs.Tallies.{is_of}
use Rattle.lv_bags.proofs.Placing.{last_on, last_new}
use Rattle.lv_bags.proofs.netting.put_last.Goals as goal

pub returns-then-is_last : goal.returns-then-is_last
returns-then-is_last c =
    let s = c.args.s in
    let list = c.args.list.now.items in
    let there : is_of s.row (slice_get list (length list - 1)) ≡ true = ap (λ l. is_of s.row (slice_get l (length l - 1))) (sym c.deref.ensures.value) ∙ sym c.is_last.ensures ∙ c.if-is_last.true in
    ap (slice_set list (c.len-last.result - 1)) c.both_of-both.ensures ∙ last_on s c.index.result.now list c.len-last.result c.requires.rising c.requires.most (omega (arith, c.len-last.ensures, c.deref.ensures.len, ap length c.deref.ensures.value)) there c.index.ensures

pub returns : goal.returns
returns c =
    let s = c.args.s in
    let list = c.args.list.now.items in
    let other : is_of s.row (slice_get list (length list - 1)) ≡ false = ap (λ l. is_of s.row (slice_get l (length l - 1))) (sym c.deref.ensures.value) ∙ sym c.is_last.ensures ∙ c.if-is_last.false in
    c.in_ok-push.ensures.items ∙ last_new s list c.requires.rising c.requires.most other
