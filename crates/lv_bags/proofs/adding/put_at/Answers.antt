use Rattle.std.proofs.Common.{◌≡◌, true, false, length, sym, ap, ◌∙◌, arith}
use Rattle.std.specs.Prelude.{slice_get, slice_set}
use Rattle.lv_bags.specs.Tallies.{is_of}
use Rattle.lv_bags.proofs.Placing.{put_on, put_new, place_within}
use Rattle.lv_bags.proofs.adding.put_at.Goals as goal

pub returns-then-is_at-clause-put : goal.returns-then-is_at-clause-put
returns-then-is_at-clause-put c =
    let s = c.args.s in
    let list = c.args.list.now.items in
    let there : is_of s.row (slice_get list c.args.at) ≡ true = ap (λ l. is_of s.row (slice_get l c.args.at)) (sym c.deref.ensures.value) ∙ sym c.is_at.ensures ∙ c.if-is_at.true in
    ap (slice_set list c.args.at) c.both_of-both.ensures ∙ put_on s c.index.result.now list c.args.at c.requires.place there c.index.ensures

pub insert-requires : goal.insert-requires
insert-requires c = omega (arith, place_within c.args.s.row c.args.at c.args.list.now.items c.requires.place, c.deref.ensures.len, ap length c.deref.ensures.value)

pub returns-clause-put : goal.returns-clause-put
returns-clause-put c =
    let s = c.args.s in
    let list = c.args.list.now.items in
    let other : is_of s.row (slice_get list c.args.at) ≡ false = ap (λ l. is_of s.row (slice_get l c.args.at)) (sym c.deref.ensures.value) ∙ sym c.is_at.ensures ∙ c.if-is_at.false in
    c.in_ok-insert.ensures.items ∙ put_new s list c.args.at c.requires.place other
