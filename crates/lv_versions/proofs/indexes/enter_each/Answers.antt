use Rattle.std.proofs.Common.{◌≡◌, ℕ, List, [], ◌+◌, ◌-◌, ◌<◌, length, below_more, set, Some, sym, ap, subst, ◌∙◌, arith}
use Rattle.std.proofs.lemmas.List.{get_or-set_other, get_or-set_same, get_or_default, length-set}
use Rattle.lv_values.specs.Ascending.{placed}
use Rattle.lv_schema.specs.Once.{Ascends}
use Rattle.lv_schema.specs.declared.version.RowVersion.{RowVersion}
use Rattle.lv_shelf.specs.Shelves.{LacksItem, other_at}
use Rattle.lv_shelf.specs.Chains.{before, chain_at, joined, newest_of}
use Rattle.lv_versions.specs.Versions.{AreIndexed, columns_at, index_cmp}
use Rattle.lv_versions.proofs.Chaining.{newest_flat}
use Rattle.lv_versions.proofs.Indexing.{indexed_entered}
use Rattle.lv_versions.proofs.indexes.enter_each.Goals as goal

pub enter-requires : goal.enter-requires
enter-requires c =
    let ps = c.args.positions.now in
    let cs = c.args.indexes.now in
    let s = c.loop-j.versions in
    let j = c.loop-j.j in
    let lt : j < length cs = c.loop-j-test.true in
    let index = c.as_slice.ensures ∙ c.index-indexes-j.is ∙ get_or_default cs j c.index-indexes-j.result [] lt in
    let same = c.loop-j.invariant.same in
    let rest = c.loop-j.invariant.rest j (omega arith) in
    record {
      chain = omega (arith, ap length same, c.requires.chain);
      order = omega (arith, lt, c.loop-j.invariant.count, c.requires.count);
      ascends = subst (λ k. Ascends (index_cmp k ps) (other_at s.others (j + 2))) (sym index)
          (subst (Ascends (index_cmp (columns_at cs j) ps)) (sym rest) (c.requires.but c.newest-newest.result.now j c.newest-newest.ensures lt).ascends);
      absent = λ w e. subst (LacksItem w) (sym rest) (c.requires.but w j (subst (λ (l : List (List RowVersion)). newest_of (chain_at l c.args.chain) ≡ Some w) same e) lt).lacks;
    }

pub loop-j-preserved : goal.loop-j-preserved
loop-j-preserved c =
    let ps = c.args.positions.now in
    let cs = c.args.indexes.now in
    let old = c.args.versions.now in
    let i = c.args.chain in
    let s = c.loop-j.versions in
    let now = c.enter.new.versions in
    let j = c.loop-j.j in
    let lt : j < length cs = c.loop-j-test.true in
    let index = c.as_slice.ensures ∙ c.index-indexes-j.is ∙ get_or_default cs j c.index-indexes-j.result [] lt in
    let same = c.loop-j.invariant.same in
    let rest = c.loop-j.invariant.rest j (omega arith) in
    let v = c.newest-newest.result.now in
    let newest = c.newest-newest.ensures in
    let put : List RowVersion = placed (index_cmp c.as_slice.result.now ps) v (other_at s.others (j + 2)) in
    let entered : now.others ≡ set s.others (j + 2) put = c.enter.ensures.entered v (subst (λ (l : List (List RowVersion)). newest_of (chain_at l i) ≡ Some v) (sym same) newest) in
    let other : (k : ℕ) → (k ≡ j + 2 → ⊥) → other_at now.others k ≡ other_at s.others k = λ k ne. ap (λ l. other_at l k) entered ∙ get_or-set_other s.others (j + 2) k put [] ne in
    let chains = c.enter.ensures.same in
    record {
      same = chains ∙ same;
      room = c.enter.ensures.room ∙ c.loop-j.invariant.room;
      count = ap length entered ∙ length-set s.others (j + 2) put ∙ c.loop-j.invariant.count;
      ended = other 0 (λ e. absurd (omega arith)) ∙ c.loop-j.invariant.ended;
      current = other 1 (λ e. absurd (omega arith)) ∙ c.loop-j.invariant.current;
      done = below_more _ _
          (λ k below. subst (λ l. AreIndexed (columns_at cs k) ps l (joined now.chains)) (sym (other (k + 2) (λ e. absurd (omega arith))))
          (subst (λ (l : List (List RowVersion)). AreIndexed (columns_at cs k) ps (other_at s.others (k + 2)) (joined l)) (sym chains) (c.loop-j.invariant.done k below)))
          (subst (λ l. AreIndexed (columns_at cs j) ps l (joined now.chains))
          (sym (ap (λ l. other_at l (j + 2)) entered ∙ get_or-set_same s.others (j + 2) put [] (omega (arith, lt, c.loop-j.invariant.count, c.requires.count)) ∙ ap (λ k. placed (index_cmp k ps) v (other_at s.others (j + 2))) index ∙ ap (placed (index_cmp (columns_at cs j) ps) v) rest))
          (subst (λ (l : List (List RowVersion)). AreIndexed (columns_at cs j) ps (placed (index_cmp (columns_at cs j) ps) v (other_at old.others (j + 2))) (joined l)) (sym (chains ∙ same))
          (indexed_entered (columns_at cs j) ps (joined old.chains) (before old.chains (i + 1) - 1) v (other_at old.others (j + 2)) c.requires.stand (newest_flat old.chains i v c.requires.chain newest) (c.requires.but v j newest lt))));
      rest = λ k le. other (k + 2) (λ e. absurd (omega arith)) ∙ c.loop-j.invariant.rest k (omega arith);
    }
