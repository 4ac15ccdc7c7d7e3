use Rattle.std.proofs.Common.{◌≡◌, ◌++◌, ◌∷◌, [], sym, ap, ◌∙◌, subst, append_assoc}
use Rattle.lv_schema.specs.Nets.{has_row}
use Rattle.lv_near.specs.Small.{is_above}
use Rattle.lv_near.proofs.Ordered.{Climbs, climbs_from_sorted, none_above, rises_more, rises_same}
use Rattle.lv_near.proofs.ordering.each_once.Goals as goal

pub loop-row-preserved-in_ok-push : goal.loop-row-preserved-in_ok-push
loop-row-preserved-in_ok-push c =
    let key = c.args.key.now in
    let all : c.loop-row.yielded ++ c.in-Some.row ∷ c.next.new.self.rest.items ≡ c.args.sorted.items = ap (λ l. c.loop-row.yielded ++ l) (sym c.in-Some.ensures.steps.0) ∙ c.loop-row.invariant.all in
    let climbs = subst (Climbs key) (sym all) (climbs_from_sorted key c.args.sorted.items c.requires.sorted) in
    record {
      all = append_assoc c.loop-row.yielded (c.in-Some.row ∷ []) c.next.new.self.rest.items ∙ all;
      risen = rises_more key c.in-Some.row c.loop-row.yielded c.loop-row.out c.push.new.self c.loop-row.invariant.risen (none_above key c.loop-row.yielded c.in-Some.row c.next.new.self.rest.items climbs)
          (ap (λ l. is_above key l c.in-Some.row) (sym c.as_slice.ensures) ∙ sym c.is_above.ensures ∙ c.if-is_above.true) c.in_ok-push.ensures.added;
    }

pub loop-row-preserved : goal.loop-row-preserved
loop-row-preserved c =
    let key = c.args.key.now in
    let all : c.loop-row.yielded ++ c.in-Some.row ∷ c.next.new.self.rest.items ≡ c.args.sorted.items = ap (λ l. c.loop-row.yielded ++ l) (sym c.in-Some.ensures.steps.0) ∙ c.loop-row.invariant.all in
    let climbs = subst (Climbs key) (sym all) (climbs_from_sorted key c.args.sorted.items c.requires.sorted) in
    record {
      all = append_assoc c.loop-row.yielded (c.in-Some.row ∷ []) c.next.new.self.rest.items ∙ all;
      risen = rises_same key c.in-Some.row c.loop-row.yielded c.loop-row.out c.next.new.self.rest.items c.args.sorted.items c.loop-row.invariant.risen (none_above key c.loop-row.yielded c.in-Some.row c.next.new.self.rest.items climbs)
          (ap (λ l. is_above key l c.in-Some.row) (sym c.as_slice.ensures) ∙ sym c.is_above.ensures ∙ c.if-is_above.false) c.requires.own (λ q. ap (has_row q) all);
    }
