use Rattle.std.proofs.Common.{◌≡◌, ℕ, ◌+◌, ◌<◌, ◌++◌, ◌∷◌, [], List, Bool, Option, Some, true, cond, drop, map, length, slice_get, slice_index_or, rules, refl, sym, ap, ◌∙◌, subst, append_assoc, length-append, arith}
use Rattle.lv_schema.specs.declared.part.Part.{Part}
use Rattle.lv_base.specs.Bases.{BaseRoom, table_in}
use Rattle.lv_reach.specs.Cost.{whole_from}
use Rattle.lv_reach.specs.Found.{rows_of_alias, with_found}
use Rattle.lv_reach.specs.Reach.{part_at, with_old_from}
use Rattle.lv_reach.proofs.Asking.{on_err}
use Rattle.lv_near.specs.Small.{HaveOwnKeys, IsPicked, needed_of, table_at_commit, with_lost}
use Rattle.lv_near.proofs.Parts.{as_many_near, at_of, flagged, near_at, small_step, table_here, whole_step}
use Rattle.lv_near.proofs.Picked.{picked_kept, picked_own}
use Rattle.lv_near.proofs.input.small_parts.Goals as goal

-- the steps from an alias on: a scan of its table where it is far, and those from the next one on
steps_on : (base : BaseRoom) (tables : List ℕ) (lo : ℕ) (changing : Option ℕ) (changes : List Part) (far : List Bool) (alias : ℕ) (flag : Bool) → alias < length tables → length changes ≡ length tables → flag ≡ slice_index_or far alias true
    → ((t : ℕ) → slice_get tables alias ≡ Some t → slice_index_or far alias true ≡ true → needed_of base tables lo changing changes alias ≡ table_at_commit base lo t)
    → whole_from (λ j. slice_index_or far j true) alias (with_old_from (needed_of base tables lo changing changes) alias (drop alias changes))
    ≡ cond flag (length (table_at_commit base lo (slice_index_or tables alias 0))) 0 + whole_from (λ j. slice_index_or far j true) (alias + 1) (with_old_from (needed_of base tables lo changing changes) (alias + 1) (drop (alias + 1) changes))
steps_on base tables lo changing changes far alias flag here each is_far whole =
    let t = table_here tables alias here in
    let rows = needed_of base tables lo changing changes in
    let behind = whole_from (λ j. slice_index_or far j true) (alias + 1) (with_old_from rows (alias + 1) (drop (alias + 1) changes)) in
    whole_step rows changes [] far alias (omega (arith, here, each))
    ∙ ap (λ k. k + behind) (flagged (slice_index_or far alias true) (rows alias) (table_at_commit base lo t.0) (whole t.0 t.1))
    ∙ sym (λ i. cond (is_far i) (length (table_at_commit base lo (at_of tables alias t.0 0 t.1 i))) 0 + behind)

pub loop-part-init : goal.loop-part-init
loop-part-init g c =
    let behind = drop c.args.reach.changed c.args.reach.near in
    let all : c.into_iter-part-iterator.result.rest.items ≡ with_found 0 (map with_lost c.args.changes) behind = search rules in
    let long : length c.into_iter-part-iterator.result.rest.items ≡ length c.args.at.now.tables.now = ap (λ (l : List Part). length l) all ∙ as_many_near 0 behind c.args.changes ∙ c.requires.each in
    record { all = all; alias = refl; within = omega (arith, long); small = search rules; cost = search rules }

pub old_of-requires-clause-own : goal.old_of-requires-clause-own
old_of-requires-clause-own g c =
    let at = c.args.at.now in
    let base = at.base.now in
    let tables = at.tables.now in
    let changes = c.args.changes in
    let reach = c.args.reach in
    let alias = c.loop-part.alias in
    let behind = drop reach.changed reach.near in
    let left = ap (λ (l : List Part). length l) c.in-Some.ensures.steps.0 in
    let here : alias < length tables = omega (arith, left, c.loop-part.invariant.within) in
    let t = table_here tables alias here in
    let minus = (part_at changes alias).minus in
    let needed = needed_of base tables at.lo at.changing changes alias in
    let all : c.loop-part.yielded ++ c.in-Some.part ∷ c.next.new.self.rest.items ≡ with_found 0 (map with_lost changes) behind = ap (λ l. c.loop-part.yielded ++ l) (sym c.in-Some.ensures.steps.0) ∙ c.loop-part.invariant.all in
    let one = near_at 0 behind c.loop-part.yielded c.in-Some.part c.next.new.self.rest.items changes alias alias c.loop-part.invariant.alias (omega arith) all in
    let picked : c.in-Some.part.old ≡ minus ++ rows_of_alias alias behind = ap (λ (p : Part). p.old) one in
    let split = c.requires.split alias t.0 t.1 in
    subst (λ u. HaveOwnKeys (table_in base.tables u).def.key c.in-Some.part.old) (sym (at_of tables alias t.0 _ t.1))
    (picked_own (table_in base.tables t.0).def.key reach.near reach.changed alias minus needed c.in-Some.part.old split picked)

pub returns-in_err-old-clause-most : goal.returns-in_err-old-clause-most
returns-in_err-old-clause-most g c =
    let at = c.args.at.now in
    let alias = c.loop-part.alias in
    let left = ap (λ (l : List Part). length l) c.in-Some.ensures.steps.0 in
    let flag = c.flag_at-is_far.ensures ∙ ap (λ l. slice_index_or l alias true) c.as_slice.ensures in
    let ticks = steps_on at.base.now at.tables.now at.lo at.changing c.args.changes c.args.reach.far alias c.flag_at-is_far.result (omega (arith, left, c.loop-part.invariant.within)) c.requires.each flag (c.requires.whole alias) in
    on_err c.from_residual-in_err-old.result (omega (arith, c.in_err-old.ensures.most, ticks, c.loop-part.invariant.cost))

pub returns-in_err-push-clause-most : goal.returns-in_err-push-clause-most
returns-in_err-push-clause-most g c =
    let at = c.args.at.now in
    let alias = c.loop-part.alias in
    let left = ap (λ (l : List Part). length l) c.in-Some.ensures.steps.0 in
    let flag = c.flag_at-is_far.ensures ∙ ap (λ l. slice_index_or l alias true) c.as_slice.ensures in
    let ticks = steps_on at.base.now at.tables.now at.lo at.changing c.args.changes c.args.reach.far alias c.flag_at-is_far.result (omega (arith, left, c.loop-part.invariant.within)) c.requires.each flag (c.requires.whole alias) in
    on_err c.from_residual-in_err-push.result (omega (arith, c.in_ok-old.ensures.cost, ticks, c.loop-part.invariant.cost))

pub loop-part-preserved : goal.loop-part-preserved
loop-part-preserved g c =
    let at = c.args.at.now in
    let base = at.base.now in
    let tables = at.tables.now in
    let changes = c.args.changes in
    let reach = c.args.reach in
    let alias = c.loop-part.alias in
    let behind = drop reach.changed reach.near in
    let left = ap (λ (l : List Part). length l) c.in-Some.ensures.steps.0 in
    let here : alias < length tables = omega (arith, left, c.loop-part.invariant.within) in
    let t = table_here tables alias here in
    let minus = (part_at changes alias).minus in
    let needed = needed_of base tables at.lo at.changing changes alias in
    let all : c.loop-part.yielded ++ c.in-Some.part ∷ c.next.new.self.rest.items ≡ with_found 0 (map with_lost changes) behind = ap (λ l. c.loop-part.yielded ++ l) (sym c.in-Some.ensures.steps.0) ∙ c.loop-part.invariant.all in
    let one = near_at 0 behind c.loop-part.yielded c.in-Some.part c.next.new.self.rest.items changes alias alias c.loop-part.invariant.alias (omega arith) all in
    let picked : c.in-Some.part.old ≡ minus ++ rows_of_alias alias behind = ap (λ (p : Part). p.old) one in
    let split = c.requires.split alias t.0 t.1 in
    let flag = c.flag_at-is_far.ensures ∙ ap (λ l. slice_index_or l alias true) c.as_slice.ensures in
    let table = at_of tables alias t.0 _ t.1 in
    let rows = needed_of base tables at.lo at.changing changes in
    let ticks = steps_on base tables at.lo at.changing changes reach.far alias c.flag_at-is_far.result here c.requires.each flag (c.requires.whole alias) in
    let key = (table_in base.tables t.0).def.key in
    let long = length-append c.loop-part.yielded (c.in-Some.part ∷ []) in
    let old = c.in_ok-old.old in
    let is : IsPicked key (slice_index_or reach.far alias true) (table_at_commit base at.lo t.0) c.in-Some.part.old old =
    subst (λ u. IsPicked (table_in base.tables u).def.key (slice_index_or reach.far alias true) (table_at_commit base at.lo u) c.in-Some.part.old old) table
    (subst (λ f. IsPicked (table_in base.tables (slice_index_or tables alias 0)).def.key f (table_at_commit base at.lo (slice_index_or tables alias 0)) c.in-Some.part.old old) flag c.in_ok-old.ensures.old) in
    let is_needed : IsPicked key (slice_index_or reach.far alias true) needed c.in-Some.part.old old = record { all = λ f. is.all f ∙ sym (c.requires.whole alias t.0 t.1 f); up = is.up; same = is.same } in
    let kept = picked_kept key reach.near reach.changed alias minus reach.far needed c.in-Some.part.old old split picked is_needed in
    record {
      all = append_assoc c.loop-part.yielded (c.in-Some.part ∷ []) c.next.new.self.rest.items ∙ all;
      alias = omega (arith, long, c.loop-part.invariant.alias);
      within = omega (arith, left, c.loop-part.invariant.within);
      small = small_step rows changes reach.near reach.far c.loop-part.small _ c.push.new.self alias old (omega (arith, here, c.requires.each)) c.loop-part.invariant.small kept
          (c.in_ok-push.ensures.added ∙ ap (λ (p : Part). c.loop-part.small ++ record { old = old; minus = p.minus; plus = p.plus } ∷ []) one);
      cost = omega (arith, c.in_ok-old.ensures.cost, ticks, c.loop-part.invariant.cost);
    }
