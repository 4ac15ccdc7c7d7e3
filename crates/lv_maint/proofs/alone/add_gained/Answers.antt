use Rattle.std.proofs.Common.{Bor, List, [], ◌∷◌, ◌++◌, length, map, take, sym, ap, ◌∙◌, subst, arith}
use Rattle.std.specs.List.{filter}
use Rattle.std.proofs.lemmas.Result.{on_ok_weaker}
use Rattle.lv_schema.specs.declared.signed.SignedRow.{SignedRow}
use Rattle.lv_schema.specs.Truth.{holds}
use Rattle.lv_schema.specs.Tuples.{Tuple}
use Rattle.lv_schema.proofs.ChangeLists.{ARow}
use Rattle.lv_join.specs.Ties.{seen}
use Rattle.lv_maint.specs.Alone.{came}
use Rattle.lv_maint.specs.Runs.{AddsUpTo}
use Rattle.lv_maint.specs.Terms.{entry_of}
use Rattle.lv_maint.proofs.OneTable.{came_more, none_left, only_set}
use Rattle.lv_maint.proofs.Runs.{turned_stand}
use Rattle.lv_maint.proofs.alone.add_gained.Goals as goal

pub set-requires : goal.set-requires
set-requires c = omega (arith, c.requires.one)

pub returns-clause-one : goal.returns-clause-one
returns-clause-one c = ap length (c.set.ensures ∙ only_set c.args.tuple.now c.index-rows-place.result.now c.requires.one)

pub returns-then-place-rows-clause-kept : goal.returns-then-place-rows-clause-kept
returns-then-place-rows-clause-kept c = λ behind h.
    let e = c.args.entries.now in
    subst (λ (l : List (Bor ARow)). AddsUpTo (length e.sums.now) c.args.kept.now.items (came e.keys.now e.sums.now c.args.cond.now (seen l) ++ behind)) (sym (none_left c.args.rows.now c.args.place (omega (arith, c.if-place-rows.true)))) h

pub returns-clause-kept : goal.returns-clause-kept
returns-clause-kept c =
    let e = c.args.entries.now in
    let keys = e.keys.now in
    let sums = e.sums.now in
    let cond = c.args.cond.now in
    let n = length sums in
    let row = c.index-rows-place.result.now in
    let so_far = came keys sums cond (seen (take c.args.place c.args.rows.now)) in
    let own = ap (λ (t : Tuple). map (entry_of keys sums) (filter (holds cond) (t ∷ []))) (c.set.ensures ∙ only_set c.args.tuple.now row c.requires.one) in
    let more : List SignedRow = map (entry_of keys sums) (filter (holds cond) (c.set.new.self ∷ [])) in
    let Adds = (before : List SignedRow) → AddsUpTo n c.args.kept.now.items before → AddsUpTo n c.gain.new.kept.items (before ++ more) in
    on_ok_weaker c.gain.result
    (λ (added : Adds) (behind : List SignedRow) (h : AddsUpTo n c.args.kept.now.items (so_far ++ behind)).
    subst (λ (l : List SignedRow). AddsUpTo n c.gain.new.kept.items (l ++ behind)) (ap (λ l. so_far ++ l) own ∙ sym (came_more keys sums cond c.args.rows.now c.args.place c.index-rows-place.result (omega (arith, c.if-place-rows.false)) c.index-rows-place.is))
    (turned_stand n c.gain.new.kept.items so_far behind more (added (so_far ++ behind) h)))
    c.gain.ensures
