use Rattle.std.proofs.Common.{Bool, List, [], ◌∷◌, ◌++◌, length, map, cond, sym, ap, ◌∙◌, subst}
use Rattle.std.proofs.lemmas.List.{append-nil}
use Rattle.std.proofs.lemmas.Result.{on_ok_weaker}
use Rattle.lv_schema.specs.declared.signed.SignedRow.{SignedRow}
use Rattle.lv_bags.specs.Bags.{negated}
use Rattle.lv_maint.specs.Runs.{AddsUpTo, IsTaken}
use Rattle.lv_maint.specs.Terms.{entry_of}
use Rattle.lv_maint.proofs.alone.lose.Goals as goal

pub returns-then-not-holds : goal.returns-then-not-holds
returns-then-not-holds c = λ before h.
    let e = c.args.entries.now in
    let select = λ (b : Bool). before ++ map negated (map (entry_of e.keys.now e.sums.now) (cond b (c.args.tuple.now ∷ []) [])) in
    subst (AddsUpTo (length e.sums.now) c.args.kept.now.items) (sym (ap select (sym c.holds.ensures ∙ c.if-not-holds.true) ∙ append-nil before)) h

pub returns : goal.returns
returns c =
    let e = c.args.entries.now in
    let select = λ (before : List SignedRow) (b : Bool). before ++ map negated (map (entry_of e.keys.now e.sums.now) (cond b (c.args.tuple.now ∷ []) [])) in
    on_ok_weaker c.lose.result
    (λ (taken : IsTaken e.keys.now e.sums.now c.args.tuple.now c.args.kept.now.items c.lose.new.kept.items) (before : List SignedRow) (h : AddsUpTo (length e.sums.now) c.args.kept.now.items before).
    subst (AddsUpTo (length e.sums.now) c.lose.new.kept.items) (sym (ap (select before) (sym c.holds.ensures ∙ c.if-not-holds.false))) (taken before h))
    c.lose.ensures
