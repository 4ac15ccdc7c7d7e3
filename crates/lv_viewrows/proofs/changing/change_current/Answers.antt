use Rattle.std.proofs.Common.{◌≡◌, ◌-◌, Bool, true, false, Some, not, refl, sym, ap, ◌∙◌, arith}
use Rattle.lv_values.specs.Order.{row_eq}
use Rattle.lv_group.specs.Gathered.{has_tuples}
use Rattle.lv_shelf.proofs.Cutting.{cut_long, got_within}
use Rattle.lv_viewrows.specs.declared.version.GroupVersion.{GroupVersion}
use Rattle.lv_viewrows.specs.Changed.{group_with}
use Rattle.lv_viewrows.specs.Kept.{version_from}
use Rattle.lv_viewrows.specs.Standing.{comes_before, has_no_end, not_ended_before}
use Rattle.lv_viewrows.proofs.Bounds.{as_many, few_upto}
use Rattle.lv_viewrows.proofs.Ending.{both, counted}
use Rattle.lv_viewrows.proofs.NotEnded.{before_long}
use Rattle.lv_viewrows.proofs.Replacing.{HasCurrent, fewer, is_followed, is_left}
use Rattle.lv_viewrows.proofs.changing.change_current.Goals as goal
use Rattle.lv_viewrows.proofs.changing.change_current.Goals.{After-front_not_ended-not_ended, After-replace}

tells : (a b : Bool) → a ≡ not b → a ≡ true → b ≡ false
tells a true e t = cc
tells a false e t = refl

denies : (a b : Bool) → a ≡ not b → a ≡ false → b ≡ true
denies a true e t = refl
denies a false e t = cc

pub get-requires : goal.get-requires
get-requires c = omega (arith, c.requires.some, cut_long (comes_before c.args.change.row c.args.number) c.args.front.all c.args.versions.now.list c.requires.cut)

pub get-requires-2 : goal.get-requires-2
get-requires-2 c = omega (arith, c.requires.some, cut_long (comes_before c.args.change.row c.args.number) c.args.front.all c.args.versions.now.list c.requires.cut)

pub with_group-group-requires : goal.with_group-group-requires
with_group-group-requires c =
    let item = c.get-2.result.now in
    counted c.args.number c.args.change c.args.versions.now.list c.requires.meets (c.args.front.all - 1) item c.get-2.ensures (c.requires.current item c.get-2.ensures)

ends : (c : After-front_not_ended-not_ended) → HasCurrent c.args.number c.args.change c.args.versions.now.list c.args.front.all (not_ended_before c.args.front.all c.args.versions.now.list) c.get.result.now
ends c = record {
  order = c.requires.order;
  meets = c.requires.meets;
  some = c.requires.some;
  cut = c.requires.cut;
  place = refl;
  get = c.get.ensures;
  here = c.requires.current c.get.result.now c.get.ensures;
}

pub overflow_sub-not_ended : goal.overflow_sub-not_ended
overflow_sub-not_ended c = omega (arith, c.front_not_ended-not_ended.ensures, fewer (ends (goal.at.overflow_sub-not_ended c).After-front_not_ended-not_ended))

pub end-requires-clause-at : goal.end-requires-clause-at
end-requires-clause-at c = got_within c.args.versions.now.list (c.args.front.all - 1) c.get.result.now c.get.ensures

pub end-requires-clause-place : goal.end-requires-clause-place
end-requires-clause-place c = omega (arith, c.front_not_ended-not_ended.ensures, fewer (ends (goal.at.end-requires-clause-place c).After-front_not_ended-not_ended))

pub end-requires-clause-current : goal.end-requires-clause-current
end-requires-clause-current c = λ v e.
    (both (has_no_end v) (row_eq c.args.change.row v.group.row) (c.requires.current v e)).0

pub returns-then-takes_all : goal.returns-then-takes_all
returns-then-takes_all c =
    let item = c.get.result.now in
    let group = group_with item.group c.args.change in
    let gone = tells c.takes_all.result (has_tuples group) c.takes_all.ensures c.if-takes_all.true in
    let now = c.end.new.self.list in
    let n = c.args.front.all in
    let done = is_left (ends (goal.at.returns-then-takes_all c).After-front_not_ended-not_ended) group refl gone now (c.end.ensures.ended item c.get.ensures) in
    record {
      changed = done.is;
      cut = done.cut;
      from = omega (arith, c.front_not_ended-not_ended.ensures, done.place);
      upto = omega (arith, c.front_not_ended-not_ended.ensures, done.place, before_long has_no_end n now);
      room = omega (arith, c.end.ensures.room);
    }

pub replace-requires-clause-at : goal.replace-requires-clause-at
replace-requires-clause-at c = got_within c.args.versions.now.list (c.args.front.all - 1) c.get-2.result.now c.get-2.ensures

pub replace-requires-clause-current : goal.replace-requires-clause-current
replace-requires-clause-current c = λ v e.
    (both (has_no_end v) (row_eq c.args.change.row v.group.row) (c.requires.current v e)).0

follows : (c : After-replace) → HasCurrent c.args.number c.args.change c.args.versions.now.list c.args.front.all (not_ended_before c.args.front.all c.args.versions.now.list) c.get-2.result.now
follows c = record {
  order = c.requires.order;
  meets = c.requires.meets;
  some = c.requires.some;
  cut = c.requires.cut;
  place = refl;
  get = c.get-2.ensures;
  here = c.requires.current c.get-2.result.now c.get-2.ensures;
}

pub returns : goal.returns
returns c =
    let number = c.args.number in
    let s = c.args.change in
    let vs = c.args.versions.now.list in
    let n = c.args.front.all in
    let item = c.get-2.result.now in
    let got : Some item ≡ Some c.get.result.now = sym c.get-2.ensures ∙ c.get.ensures in
    let same : c.get.result.now ≡ item = cc in
    let group = c.with_group-group.result in
    let there = denies c.takes_all.result (has_tuples (group_with c.get.result.now.group s)) c.takes_all.ensures c.if-takes_all.false in
    let some : has_tuples group ≡ true = ap has_tuples (c.with_group-group.ensures ∙ ap (λ (v : GroupVersion). group_with v.group s) (sym same)) ∙ there in
    let now = c.replace.new.self.list in
    let replaced = c.replace.ensures.replaced item c.get-2.ensures in
    let done = is_followed (follows (goal.at.returns c).After-replace) group c.with_group-group.ensures some now replaced in
    let alive = (both (has_no_end item) (row_eq s.row item.group.row) (c.requires.current item c.get-2.ensures)).0 in
    record {
      changed = done.is;
      cut = done.cut;
      from = omega (arith, done.place, few_upto s.row number n c.args.front.not_ended vs c.requires.cut c.requires.above);
      upto = omega (arith, c.requires.within, as_many number (n - 1) vs item (version_from number group) c.get-2.ensures alive refl now replaced);
      room = omega (arith, c.replace.ensures.room);
    }
