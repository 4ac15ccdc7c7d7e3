use Rattle.std.proofs.Common.{◌≡◌, ◌≤◌, ◌<◌, ◌+◌, List, length, take, sym, ◌∙◌, ap, arith}
use Rattle.std.specs.Prelude.{Some, is_some}
use Rattle.lv_values.specs.declared.value.Value.{Value}
use Rattle.lv_values.specs.Rows.{values_at}
use Rattle.lv_schema.specs.Effects.{has_key}
use Rattle.lv_overlay.specs.Puts.{put_at}
use Rattle.lv_effect.specs.Seen.{rows_seen}
use Rattle.lv_effect.proofs.TakenKeys.{searched, seen_more, taken_here, taken_later}
use Rattle.lv_effect.proofs.inserting.first_taken.Goals as goal
use Rattle.lv_effect.proofs.inserting.first_taken.Goals.{then-at-followed, else-at-followed}

pub returns-then-is_taken-clause-taken : goal.returns-then-is_taken-clause-taken
returns-then-is_taken-clause-taken g c =
    let key = c.args.table.now.key in
    let row = c.index-new-at.result in
    let i = c.loop-at.at in
    let new = c.args.new.now in
    let rows = rows_seen c.args.table.now c.args.base.now.versions c.args.n c.args.own.now.list in
    let is : c.in_ok-key.key ≡ values_at key row = c.in_ok-key.ensures ∙ ap (λ k. values_at k row) c.as_slice.ensures in
    ap Some is
    ∙ sym (taken_here key i new rows row _ c.loop-at-test.true c.index-new-at.is
    (searched key c.args.table.now.no row _ i new rows c.loop-at.earlier.list _ _ is (c.loop-at.invariant.seen c.loop-at-test.true row) c.is_taken.ensures.taken c.if-is_taken.true) c.loop-at.invariant.left)

pub loop-at-preserved : goal.loop-at-preserved
loop-at-preserved g c =
    let key = c.args.table.now.key in
    let no = c.args.table.now.no in
    let row = c.index-new-at.result in
    let i = c.loop-at.at in
    let new = c.args.new.now in
    let earlier = c.if-at-followed.earlier in
    let rows = rows_seen c.args.table.now c.args.base.now.versions c.args.n c.args.own.now.list in
    let is : c.in_ok-key.key ≡ values_at key row = c.in_ok-key.ensures ∙ ap (λ k. values_at k row) c.as_slice.ensures in
    let seen : i + 1 < length new → (other : List Value) → is_some (put_at earlier.list (no, values_at key other)) ≡ has_key key other (take (i + 1) new) =
    elim c.if-at-followed.branch [
      | then-at-followed w ↦ λ _ other. ap (λ e. is_some (put_at e.list (no, values_at key other))) w.earlier-is ∙ seen_more key no other i new row _ c.loop-at.earlier.list _ c.loop-at-test.true c.index-new-at.is is w.put.ensures.put (c.loop-at.invariant.seen c.loop-at-test.true other)
      | else-at-followed w ↦ λ more other. absurd (omega (arith, more, w.if-at-followed.false, c.saturating_sub-followed.ensures))
    ] in
    let room : length new ≤ earlier.spare + (i + 1) + 1 =
    elim c.if-at-followed.branch [
      | then-at-followed w ↦ omega (arith, ap (λ e. e.spare) w.earlier-is, w.put.ensures.room, c.loop-at.invariant.room)
      | else-at-followed w ↦ omega (arith, ap (λ e. e.spare) w.earlier-is, c.loop-at.invariant.room)
    ] in
    record {
      seen = seen;
      left = taken_later key i new rows row _ c.loop-at-test.true c.index-new-at.is
          (searched key no row _ i new rows c.loop-at.earlier.list _ _ is (c.loop-at.invariant.seen c.loop-at-test.true row) c.is_taken.ensures.taken c.if-is_taken.false) c.loop-at.invariant.left;
      room = room;
      cost = omega (arith, c.loop-at.invariant.cost, c.is_taken.ensures.cost);
    }
