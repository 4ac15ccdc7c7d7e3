use Rattle.std.proofs.Common.{Bor, List, [], ◌∷◌, ◌++◌, length, map, take, sym, ap, ◌∙◌, subst, append_assoc, arith}
use Rattle.std.specs.List.{filter}
use Rattle.std.proofs.lemmas.Result.{on_ok_weaker}
use Rattle.lv_schema.specs.declared.signed.SignedRow.{SignedRow}
use Rattle.lv_schema.specs.Truth.{holds}
use Rattle.lv_schema.specs.Tuples.{Tuple}
use Rattle.lv_schema.proofs.ChangeLists.{ARow}
use Rattle.lv_bags.specs.Bags.{negated}
use Rattle.lv_join.specs.Ties.{seen}
use Rattle.lv_maint.specs.Alone.{went}
use Rattle.lv_maint.specs.Runs.{AddsUpTo}
use Rattle.lv_maint.specs.Terms.{entry_of}
use Rattle.lv_maint.proofs.OneTable.{none_left, only_set, went_more}
use Rattle.lv_maint.proofs.alone.add_lost.Goals as goal

pub set-requires : goal.set-requires
set-requires c = omega (arith, c.requires.one)

pub returns-clause-one : goal.returns-clause-one
returns-clause-one c = ap length (c.set.ensures ∙ only_set c.args.tuple.now c.index-rows-place.result.now c.requires.one)

pub returns-then-place-rows-clause-kept : goal.returns-then-place-rows-clause-kept
returns-then-place-rows-clause-kept c = λ front h.
    let e = c.args.entries.now in
    subst (λ (l : List (Bor ARow)). AddsUpTo (length e.sums.now) c.args.kept.now.items (front ++ went e.keys.now e.sums.now c.args.cond.now (seen l))) (sym (none_left c.args.rows.now c.args.place (omega (arith, c.if-place-rows.true)))) h

pub returns-clause-kept : goal.returns-clause-kept
returns-clause-kept c =
    let e = c.args.entries.now in
    let keys = e.keys.now in
    let sums = e.sums.now in
    let cond = c.args.cond.now in
    let n = length sums in
    let row = c.index-rows-place.result.now in
    let so_far = went keys sums cond (seen (take c.args.place c.args.rows.now)) in
    let own = ap (λ (t : Tuple). map negated (map (entry_of keys sums) (filter (holds cond) (t ∷ [])))) (c.set.ensures ∙ only_set c.args.tuple.now row c.requires.one) in
    let more : List SignedRow = map negated (map (entry_of keys sums) (filter (holds cond) (c.set.new.self ∷ []))) in
    let Adds = (before : List SignedRow) → AddsUpTo n c.args.kept.now.items before → AddsUpTo n c.lose.new.kept.items (before ++ more) in
    on_ok_weaker c.lose.result
    (λ (taken : Adds) (front : List SignedRow) (h : AddsUpTo n c.args.kept.now.items (front ++ so_far)).
    subst (λ (l : List SignedRow). AddsUpTo n c.lose.new.kept.items l)
    (append_assoc front so_far more ∙ ap (λ l. front ++ l) (ap (λ l. so_far ++ l) own ∙ sym (went_more keys sums cond c.args.rows.now c.args.place c.index-rows-place.result (omega (arith, c.if-place-rows.false)) c.index-rows-place.is)))
    (taken (front ++ so_far) h))
    c.lose.ensures
