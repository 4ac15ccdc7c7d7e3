use Rattle.std.proofs.Common.{rules, ◌≡◌, ℕ, ◌<◌, [], ◌∷◌, ◌++◌, length, sym, ap, ◌∙◌, subst, append_assoc, arith}
use Rattle.std.proofs.lemmas.List.{append-nil}
use Rattle.std.specs.Vec.{vec_len, vec_capacity}
use Rattle.lv_bags.specs.Bags.{HaveSums, width}
use Rattle.lv_bags.specs.Tallies.{put, tallied, IsEntry, Rising}
use Rattle.lv_bags.proofs.AddedUp.{tally_rises, tally_has_sums, tallied_last}
use Rattle.lv_bags.proofs.Tallies.{tallied_more, tallied_rising}
use Rattle.lv_group.proofs.Regroups.{on_ok, some_of_both}
use Rattle.lv_group.proofs.applying.add_all.Goals as goal

pub loop-s-init : goal.loop-s-init
loop-s-init c =
    let groups = c.args.groups.now.items in
    let n = width (groups ++ c.args.signed.items) in
    let rest : c.into_iter-s-iterator.result.rest.items ≡ c.args.signed.items = search rules in
    record {
      all = rest;
      groups = sym (ap (tallied n) (append-nil groups) ∙ tallied_rising n groups c.requires.rising c.requires.entries);
      room = omega (arith, ap length rest, c.requires.room);
      capacity = omega arith;
      len = omega (arith, ap length rest);
    }

pub place_of-at-requires : goal.place_of-at-requires
place_of-at-requires c =
    let n = width (c.args.groups.now.items ++ c.args.signed.items) in
    subst Rising (sym (c.deref.ensures.value ∙ c.loop-s.invariant.groups)) (tally_rises n (c.args.groups.now.items ++ c.loop-s.yielded))

pub put_at-requires-clause-sums : goal.put_at-requires-clause-sums
put_at-requires-clause-sums c =
    let groups = c.args.groups.now.items in
    let signed = c.args.signed.items in
    let s = c.in-Some.s in
    let n = width (groups ++ signed) in
    let all : c.loop-s.yielded ++ s ∷ c.next.new.self.rest.items ≡ signed = ap (λ l. c.loop-s.yielded ++ l) (sym c.in-Some.ensures.steps.0) ∙ c.loop-s.invariant.all in
    let wide : length s.sums ≡ n = some_of_both n groups signed c.requires.sums c.loop-s.yielded s c.next.new.self.rest.items all in
    subst (λ (m : ℕ). HaveSums m c.loop-s.groups.items) (sym wide)
    (subst (HaveSums n) (sym c.loop-s.invariant.groups) (tally_has_sums n (groups ++ c.loop-s.yielded)))

pub loop-s-preserved : goal.loop-s-preserved
loop-s-preserved c =
    let groups = c.args.groups.now.items in
    let signed = c.args.signed.items in
    let s = c.in-Some.s in
    let n = width (groups ++ signed) in
    let steps = c.in-Some.ensures.steps.0 in
    let all : c.loop-s.yielded ++ s ∷ c.next.new.self.rest.items ≡ signed = ap (λ l. c.loop-s.yielded ++ l) (sym steps) ∙ c.loop-s.invariant.all in
    let wide : length s.sums ≡ n = some_of_both n groups signed c.requires.sums c.loop-s.yielded s c.next.new.self.rest.items all in
    let entry : IsEntry n s = subst (λ (m : ℕ). IsEntry m s) wide c.is_entry.ensures in
    let free : vec_len c.loop-s.groups < vec_capacity c.loop-s.groups = omega (arith, c.loop-s.invariant.room, ap length steps) in
    let made = on_ok c.put_at.result (c.put_at.new.list.items ≡ put s c.loop-s.groups.items) (c.put_at.ensures.room free) c.put_at.ensures.put in
    record {
      all = append_assoc c.loop-s.yielded (s ∷ []) c.next.new.self.rest.items ∙ all;
      groups = made ∙ ap (put s) c.loop-s.invariant.groups ∙ sym (ap (tallied n) (sym (append_assoc groups c.loop-s.yielded (s ∷ []))) ∙ tallied_last n (groups ++ c.loop-s.yielded) s ∙ tallied_more n s (groups ++ c.loop-s.yielded) entry);
      room = omega (arith, c.loop-s.invariant.room, ap length steps, c.put_at.ensures.len, c.put_at.ensures.capacity);
      capacity = omega (arith, c.loop-s.invariant.capacity, c.put_at.ensures.capacity);
      len = omega (arith, c.loop-s.invariant.len, ap length steps, c.put_at.ensures.len);
    }
