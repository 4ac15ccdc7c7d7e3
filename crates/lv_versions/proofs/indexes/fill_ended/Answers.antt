use Rattle.std.proofs.Common.{◌≡◌, ◌+◌, List, [], length, set, take, Some, sym, ap, subst, ◌∙◌, arith}
use Rattle.std.specs.Prelude.{slice_get}
use Rattle.std.proofs.lemmas.List.{get_or-set_other, get_or-set_same, length-set}
use Rattle.lv_values.specs.Ascending.{placed}
use Rattle.lv_schema.specs.declared.version.RowVersion.{RowVersion}
use Rattle.lv_shelf.specs.Shelves.{other_at}
use Rattle.lv_shelf.specs.Chains.{joined}
use Rattle.lv_versions.specs.Versions.{AreIndexed, index_cmp}
use Rattle.lv_versions.proofs.DroppingChains.{earlier_ended, ended_next}
use Rattle.lv_versions.proofs.Indexing.{indexed_lacks}
use Rattle.lv_versions.proofs.Keeping.{item_there}
use Rattle.lv_versions.proofs.indexes.fill_ended.Goals as goal

pub enter_ended-requires : goal.enter_ended-requires
enter_ended-requires c =
    let old = c.args.versions.now in
    let s = c.loop-at.versions in
    let at = c.loop-at.at in
    let first = c.loop-at.invariant.others 0 (λ e. absurd (omega (arith, e, c.requires.order))) in
    record {
      some = omega (arith, c.requires.last, c.loop-at.invariant.count);
      at = omega (arith, ap length first, c.loop-at-test.true, c.len_in-at-end.ensures);
      order = omega (arith, c.requires.last, c.loop-at.invariant.count);
      ascends = c.loop-at.invariant.filled.ascends;
      absent = λ v e.
          indexed_lacks c.args.columns.now c.args.positions.now (other_at s.others c.args.order) (take at (other_at old.others 0)) v
          (earlier_ended (other_at old.others 0) at v c.requires.ended.ends (subst (λ l. slice_get l at ≡ Some v) first e)) c.loop-at.invariant.filled;
    }

pub loop-at-preserved : goal.loop-at-preserved
loop-at-preserved c =
    let cs = c.args.columns.now in
    let ps = c.args.positions.now in
    let old = c.args.versions.now in
    let s = c.loop-at.versions in
    let now = c.enter_ended.new.versions in
    let at = c.loop-at.at in
    let j = c.args.order in
    let ended = other_at old.others 0 in
    let first = c.loop-at.invariant.others 0 (λ e. absurd (omega (arith, e, c.requires.order))) in
    let there = item_there ended at (omega (arith, c.loop-at-test.true, c.len_in-at-end.ensures)) in
    let put : List RowVersion = placed (index_cmp cs ps) there.0 (other_at s.others j) in
    let entered : now.others ≡ set s.others j put = c.enter_ended.ensures.entered there.0 (subst (λ l. slice_get l at ≡ Some there.0) (sym first) there.1) in
    record {
      same = c.enter_ended.ensures.same ∙ c.loop-at.invariant.same;
      room = c.enter_ended.ensures.room ∙ c.loop-at.invariant.room;
      count = ap length entered ∙ length-set s.others j put ∙ c.loop-at.invariant.count;
      others = λ k ne. ap (λ l. other_at l k) entered ∙ get_or-set_other s.others j k put [] ne ∙ c.loop-at.invariant.others k ne;
      filled = subst (λ l. AreIndexed cs ps l (take (at + 1) ended)) (sym (ap (λ l. other_at l j) entered ∙ get_or-set_same s.others j put [] (omega (arith, c.loop-at.invariant.count, c.requires.last))))
          (ended_next cs ps (other_at s.others j) ended (joined old.chains) at there.0 c.requires.stand c.requires.ended there.1 c.loop-at.invariant.filled);
    }
